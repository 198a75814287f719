-- `engine::give` meets its contract: what `allot` and the quantum's opening leave is the model's grant.
-- Assumes nothing.
use Rattle.engine.proofs.Granting.{openable, grantable, granted_moves}
use Rattle.engine.proofs.give.Goals as goal

pub allot-requires : goal.allot-requires
allot-requires c =
    let asked = c.requires in
    grantable _ asked.a_job.2 asked.accepts_it

pub open_quantum-requires : goal.open_quantum-requires
open_quantum-requires c =
    let asked = c.requires in
    openable _ asked.a_job.2 asked.accepts_it c.allot.ensures

pub returns : goal.returns
returns c =
    let asked = c.requires in
    granted_moves _ asked.a_job.2 asked.accepts_it c.allot.ensures c.open_quantum.ensures
