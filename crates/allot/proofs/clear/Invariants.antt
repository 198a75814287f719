-- `allot::clear` meets its contract. The loop's invariant: the deques from the old workers' number on are empty, all others as they were.
use Rattle.memory.specs.Parts.{parts, SameButEnds}
use Rattle.allot.proofs.Clears.{Clearing}
use Rattle.allot.proofs.clear.Given as goal

abbrev pub invariant-loop-worker : goal.invariant-loop-worker
invariant-loop-worker l = record {
  clearing : Clearing (parts l.initial.memory).ends l.workers l.g (parts l.memory).ends l.worker;
  rest : SameButEnds (parts l.initial.memory) (parts l.memory);
}
