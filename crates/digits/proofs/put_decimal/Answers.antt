-- `digits::put_decimal` meets its contract: one or two digits, or the last two after the hundreds. Assumes nothing.
use native.Mathlib.Omega.{arith}
use Rattle.digits.proofs.Spelling.{more_count, spells_more}
use Rattle.digits.proofs.put_decimal.Goals as goal

pub put_hundreds-next-requires : goal.put_hundreds-next-requires
put_hundreds-next-requires c =
    omega (arith, more_count c.args.n c.if-n-lt100.false)

pub put_pair-requires : goal.put_pair-requires
put_pair-requires c =
    let least = c.if-n-lt100.false in
    record { below_100 = omega arith; room = omega (arith, c.put_hundreds-next.ensures.after, more_count c.args.n least) }

pub overflow_add-result : goal.overflow_add-result
overflow_add-result c =
    let least = c.if-n-lt100.false in
    omega (arith, c.put_hundreds-next.ensures.after, more_count c.args.n least)

pub returns : goal.returns
returns c =
    rw c.put_pair.ensures (spells_more _ _ _ c.if-n-lt100.false c.put_hundreds-next.ensures)
