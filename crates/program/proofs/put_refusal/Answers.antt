-- `program::put_refusal` meets its contract: the word, and then the number with byte 10. Assumes nothing.
use mathlib.Core.Path.{◌≡◌, ap, ◌∙◌}
use Prim.Native.Nat.{◌+◌, ◌-◌, ◌≤◌}
use native.Mathlib.Omega.{arith}
use lib.ListN.{length}
use lib.Seq.{length-sets}
use borrow.Rule.Slice.PartMut.{put_mid}
use Rattle.model.specs.Digits.{digit_count}
use Rattle.program.proofs.Printing.{word, copied, refused_long, word_put}
use Rattle.program.proofs.put_refusal.Goals as goal

pub slice_bounds-copy_from_slice-end : goal.slice_bounds-copy_from_slice-end
slice_bounds-copy_from_slice-end c = omega (arith, c.requires, refused_long c.args.number)

pub put_field-requires : goal.put_field-requires
put_field-requires c =
    let there : c.args.at + 8 ≤ length c.args.out.now = omega (arith, c.requires, refused_long c.args.number) in
    let eight : c.args.at + 8 - c.args.at ≡ 8 = omega arith in
    let kept : length (put_mid c.args.at (c.args.at + 8 - c.args.at) c.args.out.now c.copy_from_slice.new.self) ≡ length c.args.out.now =
    rw c.copy_from_slice.ensures.after
    (ap length (copied c.args.at (c.args.at + 8 - c.args.at) c.args.out.now word there eight) ∙ length-sets c.args.out.now c.args.at
    word) in
    omega (arith, kept, c.requires, refused_long c.args.number, c.from.ensures, ap digit_count c.from.ensures)

pub returns : goal.returns
returns c =
    let there : c.args.at + 8 ≤ length c.args.out.now = omega (arith, c.requires, refused_long c.args.number) in
    let eight : c.args.at + 8 - c.args.at ≡ 8 = omega arith in
    record {
      next = omega (arith, c.put_field.ensures.next, refused_long c.args.number, ap digit_count c.from.ensures);
      bytes = (rw (c.copy_from_slice.ensures.after, c.from.ensures) at c.put_field.ensures.bytes)
          ∙ word_put c.args.at (c.args.at + 8 - c.args.at) c.args.number c.args.out.now there eight;
    }
