-- `label::ends_in_block` meets its contract: all 64 bytes were looked at. Assumes nothing.
use mathlib.Core.Path.{◌≡◌}
use Prim.Native.Nat.{◌+◌, ◌-◌}
use native.Mathlib.Omega.{arith}
use lib.ListN.{drop, length-drop}
use lib.Seq.{length-take-le}
use Rattle.label.proofs.ends_in_block.Goals as goal

pub returns : goal.returns
returns c =
    let at = c.args.at in
    let rest = length-drop at c.args.sheet.now in
    let block = length-take-le (at + 64 - at) (drop at c.args.sheet.now) (omega arith) in
    let whole : c.loop-byte.byte-index ≡ 64 = omega arith in
    rw whole at c.loop-byte.invariant.none
