-- The ten numbers that counters turn into are those of the line. Assumes nothing.
use mathlib.Core.Path.{refl}
use Rattle.counters.proofs.ArrayU6410FromCounters.from.Goals as goal

pub returns : goal.returns
returns c =
    rw (c.from-2.ensures, c.from.ensures, c.from-3.ensures, c.from-4.ensures, c.from-5.ensures, c.from-6.ensures) refl
