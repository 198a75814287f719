-- The line's text: its fields put one after the other, and how long it is.
-- Assumes nothing.
use mathlib.Core.Path.{◌≡◌, refl, sym, ap, ◌∙◌}
use mathlib.Core.List.{List, [], ◌∷◌, ◌++◌, append_assoc}
use Prim.Native.Nat.{ℕ, ◌+◌}
use native.Mathlib.Omega.{arith}
use lib.ListN.{length, length-append}
use lib.Seq.{sets}
use Rattle.model.specs.Counters.{decimal, spaced}
use Rattle.model.specs.Digits.{digit_count, digit_counts}
use Rattle.digits.specs.Spelling.{field}
use Rattle.digits.proofs.Stores.{sets_append}
use Rattle.digits.proofs.Spelling.{field_length}

-- the fields of some numbers, put one after the other: a space after each, and byte 10 after the last
unfoldable pub fields : List ℕ → ℕ → List ℕ → List ℕ
fields b at [] = b
fields b at (n ∷ []) = sets b at (field n 10)
fields b at (n ∷ (m ∷ ns)) = fields (sets b at (field n 32)) (at + digit_count n + 1) (m ∷ ns)

-- the text from a number on that is not the last
spaced_more : (n m : ℕ) (ns : List ℕ) → spaced (n ∷ m ∷ ns) ≡ field n 32 ++ spaced (m ∷ ns)
unfolding spaced
spaced_more n m ns = sym (append_assoc (decimal n) (32 ∷ []) (spaced (m ∷ ns)))

-- the fields are the line
pub fields_are_spaced : (b : List ℕ) (at n : ℕ) (ns : List ℕ) → fields b at (n ∷ ns) ≡ sets b at (spaced (n ∷ ns))
unfolding fields spaced
fields_are_spaced b at n [] = refl
fields_are_spaced b at n (m ∷ ns) =
    let next : at + digit_count n + 1 ≡ at + length (field n 32) = omega (arith, field_length n 32) in
    fields_are_spaced (sets b at (field n 32)) (at + digit_count n + 1) m ns
    ∙ ap (λ (k : ℕ). sets (sets b at (field n 32)) k (spaced (m ∷ ns))) next
    ∙ sets_append b at (field n 32) (spaced (m ∷ ns))
    ∙ ap (sets b at) (sym (spaced_more n m ns))

-- the line has one byte more for each number than the counts of their digits
pub spaced_length : (n : ℕ) (ns : List ℕ) → length (spaced (n ∷ ns)) ≡ digit_counts (n ∷ ns) + length (n ∷ ns)
unfolding spaced
spaced_length n [] = field_length n 10 ∙ omega arith
spaced_length n (m ∷ ns) =
    ap length (spaced_more n m ns)
    ∙ length-append (field n 32) (spaced (m ∷ ns))
    ∙ omega (arith, field_length n 32, spaced_length m ns)
