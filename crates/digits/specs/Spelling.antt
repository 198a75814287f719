-- A number's digits, put at a place of a buffer. `sets` is the library's: bytes stored one after the other from a place on, and no others.
use Rattle.std.specs.Prelude.{◌≡◌, List, [], ◌∷◌, ◌++◌, ℕ, ◌+◌, ◌/◌, ◌%◌}
use Rattle.std.proofs.lemmas.List.Edits.{sets}
use Rattle.model.specs.Counters.{decimal}
use Rattle.model.specs.Digits.{digit_count}

-- a number below 10, as a byte
abbrev pub digit : ℕ → List ℕ
digit n = (48 + n) ∷ []

-- the tens and the ones of a number below 100, as bytes
abbrev pub pair : ℕ → List ℕ
pair n = (48 + n / 10) ∷ (48 + n % 10) ∷ []

-- a number's digits, and a byte after them
abbrev pub field : ℕ → ℕ → List ℕ
field n end = decimal n ++ (end ∷ [])

-- the digits of n stand at a place, and `next` is the place after them
pub record Spells (n at : ℕ) (buffer buffer' : List ℕ) (next : ℕ) : Type 0 where
  pub after : next ≡ at + digit_count n
  pub bytes : buffer' ≡ sets buffer at (decimal n)
