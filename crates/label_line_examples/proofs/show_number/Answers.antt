-- `label_line_examples::show_number`: a number of 64 bits has 20 digits at most, so there is room for it. Assumes nothing.
use Rattle.std.proofs.Common.{arith}
use Rattle.digits.proofs.Decimal.{count_within}
use Rattle.label_line_examples.proofs.show_number.Goals as goal

pub put_field-next-requires : goal.put_field-next-requires
put_field-next-requires g c =
    omega (arith, count_within 19 c.args.n (omega (arith, c.ranges.n)))
