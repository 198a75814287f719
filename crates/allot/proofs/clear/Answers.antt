-- `allot::clear` meets its contract.
use Rattle.allot.proofs.Ring.{ends_moved, moved_then}
use Rattle.allot.proofs.Clears.{clearing_more, clearing_done}
use Rattle.allot.proofs.clear.Goals as goal

pub loop-worker-preserved : goal.loop-worker-preserved
loop-worker-preserved c =
    let at = c.loop-worker.invariant in
    rw c.put.ensures
    record {
      clearing = clearing_more at.clearing c.loop-worker.auto.worker c.requires.1 c.loop-worker-test.true;
      rest = moved_then at.rest ends_moved;
    }

pub returns-clause-cleared : goal.returns-clause-cleared
returns-clause-cleared c =
    clearing_done c.loop-worker.invariant.clearing c.loop-worker.auto.worker c.loop-worker.auto.worker-end c.loop-worker-test.false
