-- `digits::put_short` meets its contract: one digit or two. Assumes nothing.
use native.Mathlib.Omega.{arith}
use Rattle.digits.proofs.Spelling.{one_count, two_count, spells_one, spells_two}
use Rattle.digits.proofs.put_short.Goals as goal

pub put_digit-requires : goal.put_digit-requires
put_digit-requires c =
    let h = c.if-n-lt10.true in
    record { below_10 = h; room = omega (arith, one_count c.args.n h) }

pub returns-then-n-lt10 : goal.returns-then-n-lt10
returns-then-n-lt10 c =
    rw c.put_digit.ensures (spells_one _ _ _ c.if-n-lt10.true (omega arith))

pub put_pair-requires : goal.put_pair-requires
put_pair-requires c =
    let most = c.requires.below_100 in
    record { below_100 = most; room = omega (arith, two_count c.args.n c.if-n-lt10.false most) }

pub returns : goal.returns
returns c =
    rw c.put_pair.ensures (spells_two _ _ _ c.if-n-lt10.false c.requires.below_100 (omega arith))
