-- `allot::withdraw` meets its contract. The loop's invariant: what has joined and what has yet to join is together what is to join.
use Rattle.memory.specs.Parts.{parts, SameButEnds}
use Rattle.allot.proofs.Withdrawals.{Withdrawing}
use Rattle.allot.proofs.withdraw.Given as goal

abbrev pub invariant-loop-worker : goal.invariant-loop-worker
invariant-loop-worker l = record {
  withdrawing : Withdrawing (parts l.initial.memory).ends l.head l.waiting l.g l.workers (parts l.memory).ends l.joined l.worker;
  rest : SameButEnds (parts l.initial.memory) (parts l.memory);
}
