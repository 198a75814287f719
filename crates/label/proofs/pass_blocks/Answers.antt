-- `label::pass_blocks` meets its contract: a block without byte 10 is passed. Assumes nothing.
use native.Mathlib.Omega.{arith}
use Rattle.label.proofs.Passing.{passed_block}
use Rattle.label.proofs.pass_blocks.Goals as goal

pub loop-i-preserved : goal.loop-i-preserved
loop-i-preserved c =
    passed_block c.loop-i.invariant (c.ends_in_block.ensures (omega arith))
