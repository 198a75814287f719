-- `label::line_end` meets its contract: up to a fourth byte that is 10 the three before it were looked at. Assumes nothing.
use native.Mathlib.Omega.{arith}
use Rattle.label.proofs.Passing.{passed_byte}
use Rattle.label.proofs.line_end.Goals as goal

pub returns-then-sheet-fourth-eq10 : goal.returns-then-sheet-fourth-eq10
returns-then-sheet-fourth-eq10 c =
    let second = passed_byte c.loop-i.invariant (omega arith) c.if-sheet-i-eq10.false in
    let third = passed_byte second (omega arith) c.if-sheet-second-eq10.false in
    let fourth = passed_byte third (omega arith) c.if-sheet-third-eq10.false in
    record { passed = fourth; ended = λ inside. c.if-sheet-fourth-eq10.true }
