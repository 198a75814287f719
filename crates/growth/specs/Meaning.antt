-- What model says of each case, and the flag and the number that stand for it where a job is kept as numbers.
use Rattle.std.specs.Prelude.{Bool, true, false, ℕ}
use Rattle.model.specs.Plan.{Growth as Grows, by_factor, by_tenths}
use Rattle.growth.specs.declared.Growth.{Growth}
use Rattle.growth.specs.declared.Growth.TheVariants.{ByFactor, ByTenths}

abbrev pub growth_of : Growth → Grows
growth_of (ByFactor number) = by_factor number
growth_of (ByTenths number) = by_tenths number

abbrev pub is_by_tenths : Growth → Bool
is_by_tenths (ByFactor number) = false
is_by_tenths (ByTenths number) = true

abbrev pub number_in : Growth → ℕ
number_in (ByFactor number) = number
number_in (ByTenths number) = number
