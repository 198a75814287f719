-- Byte 10 in a stretch of the sheet, for the functions below `find`.
use Rattle.std.specs.Prelude.{◌≡◌, List, ℕ, ◌≤◌, ◌<◌, length, get_or}

-- no byte 10 stands from one place to before another
pub record Passed (sheet : List ℕ) (from to : ℕ) : Type 0 where
  pub forward : from ≤ to
  pub within : to ≤ length sheet
  pub clear : (k : ℕ) → from ≤ k → k < to → get_or sheet k 0 ≡ 10 → ⊥

-- the first byte 10 from a place on stands there; where there is none, that is the sheet's end
pub record LineEnd (sheet : List ℕ) (from to : ℕ) : Type 0 where
  pub passed : Passed sheet from to
  pub ended : to < length sheet → get_or sheet to 0 ≡ 10
