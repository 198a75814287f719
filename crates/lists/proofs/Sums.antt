-- Lists of numbers: where they are 0, and their sum.
-- Assumes nothing.
use mathlib.Core.Path.{◌≡◌, refl, ap}
use mathlib.Core.Bool.{Bool, false, true}
use mathlib.Core.List.{List, [], ◌∷◌}
use Prim.Native.Nat.{ℕ, zero, suc, ◌+◌, ◌*◌, ◌≤◌, ◌<◌}
use native.Mathlib.Nat.{le_of_suc-le-suc, not-suc-le-zero, mul-suc}
use native.Mathlib.Omega.{arith}
use lib.Dec.{eqb}
use lib.ListN.{length, get_or, set, replicate}
use borrow.Author.Tests.{ne_eqb}
use Rattle.model.specs.Tests.{count_set, total, zeros}

-- ---- where numbers are 0

pub zeros_length : (ns : List ℕ) → length (zeros ns) ≡ length ns
unfolding zeros
zeros_length [] = refl
zeros_length (n ∷ ns) = ap suc (zeros_length ns)

pub zeros_at : (ns : List ℕ) (t : ℕ) → t < length ns → get_or (zeros ns) t false ≡ eqb (get_or ns t 0) 0
unfolding zeros
zeros_at [] t l = absurd (not-suc-le-zero l)
zeros_at (n ∷ ns) zero l = refl
zeros_at (n ∷ ns) (suc t) l = zeros_at ns t (le_of_suc-le-suc l)

-- a number that becomes 0
pub zeros_set : (ns : List ℕ) (t n : ℕ) → eqb n 0 ≡ true → zeros (set ns t n) ≡ set (zeros ns) t true
unfolding zeros
zeros_set [] t n h = refl
zeros_set (x ∷ ns) zero n h = rw h refl
zeros_set (x ∷ ns) (suc t) n h = ap (λ (flags : List Bool). eqb x 0 ∷ flags) (zeros_set ns t n h)

-- a number that changes, but not to 0 or from it
pub zeros_kept : (ns : List ℕ) (t n : ℕ) → get_or (zeros ns) t false ≡ eqb n 0 → zeros (set ns t n) ≡ zeros ns
unfolding zeros
zeros_kept [] t n h = refl
zeros_kept (x ∷ ns) zero n h = rw h refl
zeros_kept (x ∷ ns) (suc t) n h = ap (λ (flags : List Bool). eqb x 0 ∷ flags) (zeros_kept ns t n h)

pub zeros_none : (ns : List ℕ) → ((t : ℕ) → t < length ns → 1 ≤ get_or ns t 0) → zeros ns ≡ replicate (length ns) false
unfolding zeros
zeros_none [] h = refl
zeros_none (n ∷ ns) h =
    let here : eqb n 0 ≡ false = ne_eqb n 0 (λ e. let z = h 0 (omega arith) in omega arith) in
    rw (here, zeros_none ns (λ t l. h (suc t) (omega arith))) refl

-- a number that is not 0 stands within the list
pub some_within : (ns : List ℕ) (t : ℕ) → 1 ≤ get_or ns t 0 → t < length ns
some_within [] t h = absurd (not-suc-le-zero h)
some_within (n ∷ ns) zero h = omega arith
some_within (n ∷ ns) (suc t) h = omega (arith, some_within ns t h)

-- ---- sums

pub total_set : (ns : List ℕ) (t n : ℕ) → t < length ns → total (set ns t n) + get_or ns t 0 ≡ total ns + n
unfolding total
total_set [] t n l = absurd (not-suc-le-zero l)
total_set (x ∷ ns) zero n l = omega arith
total_set (x ∷ ns) (suc t) n l = omega (arith, total_set ns t n (le_of_suc-le-suc l))

pub total_at_most : (most : ℕ) (ns : List ℕ) → ((t : ℕ) → get_or ns t 0 ≤ most) → total ns ≤ most * length ns
unfolding total
total_at_most most [] h = omega arith
total_at_most most (n ∷ ns) h = omega (arith, h 0, total_at_most most ns (λ t. h (suc t)), mul-suc most (length ns))

-- numbers of at most 1: each counts for 1 in the sum, or is 0
pub total_of_ones : (ns : List ℕ) → ((t : ℕ) → get_or ns t 0 ≤ 1) → total ns + count_set (zeros ns) ≡ length ns
unfolding total zeros count_set
total_of_ones [] h = refl
total_of_ones (zero ∷ ns) h = omega (arith, total_of_ones ns (λ t. h (suc t)))
total_of_ones (suc zero ∷ ns) h = omega (arith, total_of_ones ns (λ t. h (suc t)))
total_of_ones (suc (suc n) ∷ ns) h = let few = h 0 in absurd (omega arith)
