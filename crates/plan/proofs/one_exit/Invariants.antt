-- `plan::one_exit` meets its contract. The loop's invariant: `all` is the test of every task that was passed.
use Rattle.std.proofs.Common.{◌≡◌}
use Rattle.model.specs.Tests.{below, every}
use Rattle.memory.specs.Parts.{parts}
use Rattle.plan.specs.Reads.{followed}
use Rattle.plan.proofs.one_exit.Given as goal

abbrev pub invariant-loop-first : goal.invariant-loop-first
invariant-loop-first l = l.all ≡ every (followed (parts l.memory).first) (below l.first-index)
