-- `allot::withdraw` meets its contract.
use native.Mathlib.Omega.{arith}
use Rattle.allot.proofs.Ring.{no_move, moved_then}
use Rattle.allot.proofs.Withdrawals.{withdrawing_none, withdrawing_room, withdrawing_more, withdrawing_done}
use Rattle.allot.proofs.withdraw.Goals as goal

pub loop-worker-init : goal.loop-worker-init
loop-worker-init c =
    record { withdrawing = withdrawing_none c.requires; rest = no_move }

pub join-joined-requires : goal.join-joined-requires
join-joined-requires c =
    withdrawing_room c.requires c.loop-worker.invariant.withdrawing (omega arith) (omega arith)

pub loop-worker-preserved : goal.loop-worker-preserved
loop-worker-preserved c =
    let at = c.loop-worker.invariant in
    record {
      withdrawing = withdrawing_more c.requires at.withdrawing c.loop-worker-test.true c.join-joined.ensures.joined;
      rest = moved_then at.rest c.join-joined.ensures.rest;
    }

pub returns-clause-joined : goal.returns-clause-joined
returns-clause-joined c =
    withdrawing_done c.requires c.loop-worker.invariant.withdrawing c.loop-worker-test.false
