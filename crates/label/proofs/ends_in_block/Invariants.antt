-- `label::ends_in_block` meets its contract. The loop's invariant: so far at most one was counted for each byte, and where none was, no
-- byte 10 is passed. Assumes nothing.
use Prim.Native.Nat.{◌+◌, ◌≤◌}
use mathlib.Core.Path.{◌≡◌}
use Rattle.label.specs.Ends.{Passed}
use Rattle.label.proofs.ends_in_block.Given as goal

abbrev pub invariant-loop-byte : goal.invariant-loop-byte
invariant-loop-byte l = record {
  most : l.ends ≤ l.byte-index;
  none : l.ends ≡ 0 → Passed l.sheet l.at (l.at + l.byte-index);
}
