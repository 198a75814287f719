-- `label::pass_blocks` meets its contract. The loop's invariant: no byte 10 is passed. The measure is what is left of the sheet.
-- Assumes nothing.
use Prim.Native.Nat.{◌-◌}
use lib.ListN.{length}
use Rattle.label.specs.Ends.{Passed}
use Rattle.label.proofs.pass_blocks.Given as goal

abbrev pub invariant-loop-i : goal.invariant-loop-i
invariant-loop-i l = Passed l.sheet l.from l.i

abbrev pub decreases-loop-i : goal.decreases-loop-i
decreases-loop-i l = length l.sheet - l.i
