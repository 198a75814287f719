-- `digits::put_field` meets its contract: the digits, and one byte more. Assumes nothing.
use mathlib.Core.Path.{refl}
use native.Mathlib.Omega.{arith}
use Rattle.digits.proofs.Spelling.{one_count, spells_one, ended}
use Rattle.digits.proofs.put_field.Goals as goal

pub put_digit-requires-clause-room : goal.put_digit-requires-clause-room
put_digit-requires-clause-room c =
    omega (arith, one_count c.args.n c.if-n-lt10.true)

pub bounds-buffer-next : goal.bounds-buffer-next
bounds-buffer-next c =
    omega (arith, one_count c.args.n c.if-n-lt10.true)

pub returns-then-n-lt10 : goal.returns-then-n-lt10
returns-then-n-lt10 c =
    let s = c.args in
    let h = c.if-n-lt10.true in
    let digit-put = ended s.n s.at s.buffer.now s.end (spells_one _ _ _ h refl) in
    record { next = omega (arith, one_count s.n h); bytes = rw c.put_digit.ensures digit-put }

pub returns-clause-bytes : goal.returns-clause-bytes
returns-clause-bytes c =
    ended _ _ _ _ c.put_decimal-next.ensures
