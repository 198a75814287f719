-- `Wish::multiplied` meets its contract: below the top desire there is room for R times the desire, and at the top there is none.
use native.Mathlib.Omega.{arith}
use native.Mathlib.Numerals.{add-one}
use Rattle.quantum.proofs.Desires.{room, top_stays, multiplies}
use Rattle.quantum.proofs.Wish.multiplied.Goals as goal

pub returns-then-self-top_desire : goal.returns-then-self-top_desire
returns-then-self-top_desire c =
    top_stays c.requires c.top_desire.ensures c.if-self-top_desire.true

pub overflow_mul-result : goal.overflow_mul-result
overflow_mul-result c =
    let few = room c.requires c.top_desire.ensures c.if-self-top_desire.false in
    omega arith

pub returns : goal.returns
returns c =
    multiplies c.requires c.top_desire.ensures _ (add-one _) c.if-self-top_desire.false
