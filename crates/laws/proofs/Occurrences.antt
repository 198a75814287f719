-- How often a number stands in the first places of a list: its own place counts, and a last place has all. And that a list's length is the
-- sum of how often each number stands in it.
-- Assumes nothing.
use mathlib.Core.Path.{◌≡◌, refl, sym, ap, ◌∙◌}
use mathlib.Core.Bool.{Bool, true, false, cond}
use mathlib.Core.List.{List, [], ◌∷◌, ◌++◌, map, Memᴰ}
use Prim.Native.Nat.{ℕ, zero, suc, ◌+◌, ◌≤◌, ◌<◌}
use native.Mathlib.Nat.{le_of_suc-le-suc, not-suc-le-zero}
use native.Mathlib.Omega.{arith}
use lib.Dec.{eqb}
use lib.ListN.{length, get_or, take, drop, take-append-drop}
use borrow.Author.Tests.{eqb-true, eqb-false, eq-eqb, ne_eqb}
use Rattle.model.specs.Tests.{below, occurrences, total}
use Rattle.laws.proofs.Deques.{occurrences_append}

-- ---- the first places

-- no more often than in all
pub taken_at_most : (t n : ℕ) (xs : List ℕ) → occurrences t (take n xs) ≤ occurrences t xs
taken_at_most t n xs =
    let parted = ap (occurrences t) (take-append-drop n xs) in omega (arith, parted, occurrences_append t (take n xs) (drop n xs))

-- its own place counts
pub taken_some : (t : ℕ) (xs : List ℕ) (j : ℕ) → j < length xs → get_or xs j 0 ≡ t → 1 ≤ occurrences t (take (suc j) xs)
unfolding occurrences
taken_some t [] j l e = absurd (not-suc-le-zero l)
taken_some t (x ∷ xs) zero l e = rw (eq-eqb t x (sym e)) (omega arith)
taken_some t (x ∷ xs) (suc j) l e = omega (arith, taken_some t xs j (le_of_suc-le-suc l) e)

-- so it stands there more often up to a later place of its own
pub taken_more : (t : ℕ) (xs : List ℕ) (i j : ℕ) → i < j → j < length xs → get_or xs j 0 ≡ t →
    occurrences t (take (suc i) xs) < occurrences t (take (suc j) xs)
unfolding occurrences
taken_more t [] i j h l e = absurd (not-suc-le-zero l)
taken_more t (x ∷ xs) i zero h l e = absurd (not-suc-le-zero h)
taken_more t (x ∷ xs) zero (suc j) h l e = omega (arith, taken_some t xs j (le_of_suc-le-suc l) e)
taken_more t (x ∷ xs) (suc i) (suc j) h l e =
    omega (arith, taken_more t xs i j (le_of_suc-le-suc h) (le_of_suc-le-suc l) e)

-- its last place
pub last_place : (t : ℕ) (xs : List ℕ) → 1 ≤ occurrences t xs →
    (i : ℕ) × (i < length xs) × (get_or xs i 0 ≡ t) × (occurrences t (take (suc i) xs) ≡ occurrences t xs)
unfolding occurrences
last_place t [] h = absurd (not-suc-le-zero h)
last_place t (x ∷ xs) h = go (occurrences t xs) refl (last_place t xs) (eqb t x) refl h
  where
    go : (n : ℕ) → occurrences t xs ≡ n →
        (1 ≤ occurrences t xs → (i : ℕ) × (i < length xs) × (get_or xs i 0 ≡ t) × (occurrences t (take (suc i) xs) ≡ occurrences t xs)) →
        (b : Bool) → eqb t x ≡ b → 1 ≤ cond b 1 0 + occurrences t xs →
        (i : ℕ) × (i < suc (length xs)) × (get_or (x ∷ xs) i 0 ≡ t)
        × (cond (eqb t x) 1 0 + occurrences t (take i xs) ≡ cond (eqb t x) 1 0 + occurrences t xs)
    go (suc n) e onward b p h = let r = onward (omega arith) in (suc r.0, omega (arith, r.1), r.2, omega (arith, r.3))
    go zero e onward true p h = (zero, omega arith, sym (eqb-true t x p), omega arith)
    go zero e onward false p h = absurd (omega arith)

-- ---- sums over the numbers below n

total_snoc : (f : ℕ → ℕ) (xs : List ℕ) (x : ℕ) → total (map f (xs ++ (x ∷ []))) ≡ total (map f xs) + f x
unfolding total
total_snoc f [] x = omega arith
total_snoc f (y ∷ xs) x = omega (arith, total_snoc f xs x)

sum_suc : (f : ℕ → ℕ) (n : ℕ) → total (map f (below (suc n))) ≡ total (map f (below n)) + f n
unfolding below
sum_suc f n = total_snoc f (below n) n

sum_none : (n : ℕ) → total (map (λ t. 0) (below n)) ≡ 0
unfolding below total
sum_none zero = refl
sum_none (suc n) = sum_suc (λ t. 0) n ∙ omega (arith, sum_none n)

sum_both : (n : ℕ) (f g : ℕ → ℕ) → total (map (λ t. f t + g t) (below n)) ≡ total (map f (below n)) + total (map g (below n))
unfolding below total
sum_both zero f g = refl
sum_both (suc n) f g = omega (arith, sum_suc (λ t. f t + g t) n, sum_suc f n, sum_suc g n, sum_both n f g)

-- a number counts for 1 in the sum
sum_absent : (n x : ℕ) → n ≤ x → total (map (λ t. cond (eqb t x) 1 0) (below n)) ≡ 0
unfolding below total
sum_absent zero x h = refl
sum_absent (suc n) x h =
    let other : cond {A = ℕ} (eqb n x) 1 0 ≡ 0 = rw (ne_eqb n x (omega arith)) refl in
    omega (arith, sum_suc (λ t. cond (eqb t x) 1 0) n, sum_absent n x (omega arith))

sum_one : (n x : ℕ) → x < n → total (map (λ t. cond (eqb t x) 1 0) (below n)) ≡ 1
sum_one zero x h = absurd (not-suc-le-zero h)
sum_one (suc n) x h = sum_suc (λ t. cond (eqb t x) 1 0) n ∙ go (eqb n x) refl (sum_one n x)
  where
    go : (b : Bool) → eqb n x ≡ b → (x < n → total (map (λ t. cond (eqb t x) 1 0) (below n)) ≡ 1) →
        total (map (λ t. cond (eqb t x) 1 0) (below n)) + cond b 1 0 ≡ 1
    go true e onward = let same = eqb-true n x e in omega (arith, sum_absent n x (omega arith))
    go false e onward = let other = eqb-false n x e in omega (arith, onward (omega arith))

-- numbers below n are as many as the sum of how often each stands there
pub length_is_sum : (n : ℕ) (xs : List ℕ) → ((x : ℕ) → Memᴰ x xs → x < n) →
    length xs ≡ total (map (λ t. occurrences t xs) (below n))
unfolding occurrences
length_is_sum n [] h = sym (sum_none n)
length_is_sum n (x ∷ xs) h =
    omega (
      arith,
      sum_both n (λ t. cond (eqb t x) 1 0) (λ t. occurrences t xs),
      sum_one n x (h x (Memᴰ.head refl)),
      length_is_sum n xs (λ y m. h y (Memᴰ.tail m)),
    )
