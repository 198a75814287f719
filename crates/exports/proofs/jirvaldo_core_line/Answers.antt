-- `exports::jirvaldo_core_line` meets its contract: what writing the line of the ten numbers promises, said of the memory.
-- Assumes nothing.
use Rattle.exports.proofs.Showing.{line_shown}
use Rattle.exports.proofs.jirvaldo_core_line.Goals as goal

pub returns-in-Ok : goal.returns-in-Ok
returns-in-Ok c =
    line_shown c.counters_of.ensures c.in-Ok.ensures

pub returns-in-Err : goal.returns-in-Err
returns-in-Err c =
    rw c.number.ensures (line_shown c.counters_of.ensures c.in-Err.ensures)
