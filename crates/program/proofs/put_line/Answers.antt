-- `program::put_line` meets its contract: the buffer is big enough, so the line stands there. Assumes nothing.
use mathlib.Core.Path.{sym, ◌∙◌}
use native.Mathlib.Omega.{arith}
use Rattle.counters.proofs.Line.{Wide}
use Rattle.program.proofs.Printing.{line_put, length_or_0}
use Rattle.program.proofs.put_line.Goals as goal

pub returns : goal.returns
returns c =
    let wide : Wide c.args.counters = omega (arith, c.well_formed.0) in
    line_put _ wide _ c.requires c.write_line.ensures (length_or_0 c.write_line.result ∙ sym c.unwrap_or.ensures)
