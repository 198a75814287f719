-- What request U2 asks to prove of a number's digit count, said without a search.
use Rattle.std.specs.Prelude.{◌≡◌, ℕ, ◌^◌, ◌≤◌, ◌<◌}

-- "1 for 0, else the least count whose power of ten is above the number": that power is above it, and no lesser one is
pub record Counted (n count : ℕ) : Type 0 where
  pub of_zero : n ≡ 0 → count ≡ 1
  pub above : 0 < n → n < 10 ^ count
  pub least : 0 < n → (other : ℕ) → n < 10 ^ other → count ≤ other
