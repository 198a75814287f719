-- `label::find` meets its contract. The loop's invariant is `Sought`, of the end of the open line: the line that is sought is line
-- `left` of those ahead. The measure is what is left of the sheet. Assumes nothing.
use native.Mathlib.Omega.{arith}
use Rattle.label.proofs.Search.{at_first, past_bytes, past_line, here, here_answer, missing, missing_answer}
use Rattle.label.proofs.find.Goals as goal

pub loop-end-init : goal.loop-end-init
loop-end-init c =
    let found = c.line_end-end.ensures in
    (past_bytes (at_first c.args.sheet.now c.args.status) found.passed, found.ended)

pub returns-then-left-eq0 : goal.returns-then-left-eq0
returns-then-left-eq0 c =
    let sought = c.loop-end.invariant.0 in
    let inside = c.loop-end-test.true in
    let ten = c.loop-end.invariant.1 inside in
    record { answer = here_answer sought inside ten (omega arith); stretch = here sought inside ten (omega arith) }

pub loop-end-preserved : goal.loop-end-preserved
loop-end-preserved c =
    let inside = c.loop-end-test.true in
    let found = c.line_end-end-in-loop-end.ensures in
    let next = past_line c.loop-end.invariant.0 inside (c.loop-end.invariant.1 inside) c.if-left-eq0.false in
    (past_bytes next found.passed, found.ended)

pub returns : goal.returns
returns c =
    let sought = c.loop-end.invariant.0 in
    let past = c.loop-end-test.false in
    record { answer = missing_answer sought past; stretch = missing sought past }
