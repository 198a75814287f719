-- `plan::read_tasks` meets its contract. The loop's invariant: the tasks below t are read and accepted.
use Rattle.memory.specs.Parts.{parts}
use Rattle.plan.specs.Reads.{Due}
use Rattle.plan.proofs.read_tasks.Given as goal

abbrev pub invariant-loop-t : goal.invariant-loop-t
invariant-loop-t g l = Due l.bytes l.n l.t (parts l.memory)
