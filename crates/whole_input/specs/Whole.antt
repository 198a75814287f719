-- What a whole read gives of the bytes that an input is known to have.
use Rattle.std.specs.Prelude.{◌≡◌, Option, IfSome, List, ℕ, length, take}

-- so many bytes stand in the buffer: all that the input had, or those that the buffer has room for
abbrev pub AllThatFits : Option (List ℕ) → ℕ → List ℕ → Type 0
AllThatFits known n buffer = IfSome known (λ bytes. take n buffer ≡ take (length buffer) bytes)
