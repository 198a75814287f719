-- `exports::jirvaldo_core_wording` meets its contract: what looking for the line of the status found, said of the memory.
-- Assumes nothing.
use Rattle.std.specs.Prelude.{Ok, Err}
use Rattle.exports.proofs.Showing.{wording_shown}
use Rattle.exports.proofs.jirvaldo_core_wording.Goals as goal

pub returns-in-Ok : goal.returns-in-Ok
returns-in-Ok c =
    wording_shown _ _ _ (Ok c.in-Ok.line) c.status_in.ensures c.in-Ok.ensures.answer c.in-Ok.ensures.stretch

pub returns-in-Err : goal.returns-in-Err
returns-in-Err c =
    rw c.number.ensures (wording_shown _ _ _ (Err c.in-Err.missing) c.status_in.ensures c.in-Err.ensures.answer c.in-Err.ensures.stretch)
