-- `counters::write_line` meets its contract: the widths of the ten numbers' types keep the line to 127 bytes. Assumes nothing.
use native.Mathlib.Omega.{arith}
use Rattle.counters.proofs.Line.{Wide, line_within, too_small, big_enough}
use Rattle.counters.proofs.write_line.Goals as goal

pub returns-then-buffer-lt128 : goal.returns-then-buffer-lt128
returns-then-buffer-lt128 c =
    too_small _ _ (omega arith) _

pub put_numbers-requires : goal.put_numbers-requires
put_numbers-requires c =
    let wide : Wide c.args.counters = omega arith in
    omega (arith, line_within _ wide)

pub returns : goal.returns
returns c =
    rw (c.put_numbers.ensures.sized, c.put_numbers.ensures.bytes) (big_enough _ _ (omega arith))
