-- A number's digits put at a place: one, two, or the last two after those of its hundreds; and a byte after them all.
-- Assumes nothing.
use mathlib.Core.Path.{◌≡◌, sym, ap, ◌∙◌}
use mathlib.Core.List.{List, [], ◌∷◌, ◌++◌}
use Prim.Native.Nat.{ℕ, ◌+◌, ◌/◌, ◌%◌, ◌≤◌, ◌<◌}
use native.Mathlib.Omega.{arith}
use lib.ListN.{length, set, length-append}
use lib.Seq.{sets, length-sets}
use Rattle.model.specs.Counters.{decimal}
use Rattle.model.specs.Digits.{digit_count}
use Rattle.digits.specs.Spelling.{digit, pair, field, Spells}
use Rattle.digits.proofs.Stores.{sets_append}
use Rattle.digits.proofs.Decimal.{one_digit, two_digits, last_two, decimal_length}

-- ---- how many digits

-- a number's count, from what its digits are
count_of : (n : ℕ) (digits : List ℕ) → decimal n ≡ digits → digit_count n ≡ length digits
count_of n digits e = sym (decimal_length n) ∙ ap length e

pub one_count : (n : ℕ) → n < 10 → digit_count n ≡ 1
one_count n h = count_of n _ (one_digit n h)

pub two_count : (n : ℕ) → 10 ≤ n → n < 100 → digit_count n ≡ 2
two_count n h most = count_of n _ (two_digits n h most)

pub more_count : (n : ℕ) → 100 ≤ n → digit_count n ≡ digit_count (n / 100) + 2
more_count n h =
    count_of n _ (last_two n h)
    ∙ length-append (decimal (n / 100)) (pair (n % 100))
    ∙ ap (λ (k : ℕ). k + 2) (decimal_length (n / 100))

pub field_length : (n end : ℕ) → length (field n end) ≡ digit_count n + 1
field_length n end = length-append (decimal n) (end ∷ []) ∙ ap (λ (k : ℕ). k + 1) (decimal_length n)

-- ---- the digits, from the first on

module _ (n at : ℕ) (b : List ℕ) where
  -- bytes stored after the digits
  then : {b' : List ℕ} {next : ℕ} → Spells n at b b' next → (x : List ℕ) → sets b' next x ≡ sets b at (decimal n ++ x)
  then s x = rw (s.bytes, s.after, ← decimal_length n) (sets_append b at (decimal n) x)

  -- a byte after them
  pub ended : {b' : List ℕ} {next : ℕ} (end : ℕ) → Spells n at b b' next → set b' next end ≡ sets b at (field n end)
  ended end s = then s (end ∷ [])

  pub spells_length : {b' : List ℕ} {next : ℕ} → Spells n at b b' next → length b' ≡ length b
  spells_length s = ap length s.bytes ∙ length-sets b at (decimal n)

  pub spells_one : n < 10 → {next : ℕ} → next ≡ at + 1 → Spells n at b (sets b at (digit n)) next
  spells_one h after = record { after = omega (arith, one_count n h); bytes = ap (sets b at) (sym (one_digit n h)) }

  pub spells_two : 10 ≤ n → n < 100 → {next : ℕ} → next ≡ at + 2 → Spells n at b (sets b at (pair n)) next
  spells_two h most after = record { after = omega (arith, two_count n h most); bytes = ap (sets b at) (sym (two_digits n h most)) }

-- the last two after the hundreds
pub spells_more : (n at : ℕ) (b : List ℕ) → 100 ≤ n → {b' : List ℕ} {next : ℕ} → Spells (n / 100) at b b' next
    → Spells n at b (sets b' next (pair (n % 100))) (next + 2)
spells_more n at b h s =
    record {
      after = omega (arith, s.after, more_count n h);
      bytes = then (n / 100) at b s (pair (n % 100)) ∙ ap (sets b at) (sym (last_two n h));
    }
