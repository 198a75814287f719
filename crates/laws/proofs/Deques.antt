-- How often a task stands in a list and in deques, and how many deques are not empty.
-- Assumes nothing.
use mathlib.Core.Path.{◌≡◌, refl, sym, ap, ◌∙◌}
use mathlib.Core.Bool.{Bool, true, false, cond, not}
use mathlib.Core.List.{List, [], ◌∷◌, ◌++◌, reverse, reverse-cons, Memᴰ}
use Prim.Native.Nat.{ℕ, zero, suc, ◌+◌, ◌≤◌, ◌<◌}
use native.Mathlib.Nat.{le_of_suc-le-suc, not-suc-le-zero}
use native.Mathlib.Omega.{arith}
use lib.Dec.{eqb}
use lib.ListN.{length, get_or, take, drop, set, replicate, take-append-drop}
use borrow.Author.Tests.{eqb-true, eq-eqb}
use Rattle.model.specs.Tests.{keep, is_empty, member, occurrences}
use Rattle.lists.proofs.Tests.{true_is_not_false}
use Rattle.lists.proofs.Lists.{member_is}
use Rattle.model.specs.Lines.{busy}
use Rattle.laws.specs.Invariants.{in_deques}

-- ---- how often a number stands in a list

pub occurrences_append : (t : ℕ) (xs ys : List ℕ) → occurrences t (xs ++ ys) ≡ occurrences t xs + occurrences t ys
unfolding occurrences
occurrences_append t [] ys = omega arith
occurrences_append t (x ∷ xs) ys = omega (arith, occurrences_append t xs ys)

pub occurs : (t : ℕ) (xs : List ℕ) → Memᴰ t xs → 1 ≤ occurrences t xs
unfolding occurrences
occurs t [] x' = elim x' [ ]
occurs t (x ∷ xs) (Memᴰ.head e) = rw (eq-eqb t x e) (omega arith)
occurs t (x ∷ xs) (Memᴰ.tail m) = omega (arith, occurs t xs m)

pub found : (t : ℕ) (xs : List ℕ) → 1 ≤ occurrences t xs → Memᴰ t xs
unfolding occurrences
found t [] h = absurd (not-suc-le-zero h)
found t (x ∷ xs) h = go (eqb t x) refl (found t xs) h
  where
    go : (b : Bool) → eqb t x ≡ b → (1 ≤ occurrences t xs → Memᴰ t xs) → 1 ≤ cond b 1 0 + occurrences t xs → Memᴰ t (x ∷ xs)
    go true e onward h = Memᴰ.head (eqb-true t x e)
    go false e onward h = Memᴰ.tail (onward (omega arith))

-- ---- membership

pub no_member : (t : ℕ) (xs : List ℕ) → member t xs ≡ false → occurrences t xs ≡ 0
no_member t xs h = go (occurrences t xs) refl
  where
    go : (n : ℕ) → occurrences t xs ≡ n → occurrences t xs ≡ 0
    go zero e = e
    go (suc n) e = absurd (true_is_not_false (member_is t xs (found t xs (omega arith))) h)

-- a list of the numbers of which a test holds has each as often as before
pub occurrences_keep : (test : ℕ → Bool) (t : ℕ) (xs : List ℕ) → occurrences t (keep test xs) ≡ cond (test t) (occurrences t xs) 0
unfolding occurrences keep
occurrences_keep test t [] = go (test t)
  where
    go : (b : Bool) → ◌≡◌ {A = ℕ} 0 (cond b 0 0)
    go true = refl
    go false = refl
occurrences_keep test t (x ∷ xs) = go (test x) (test t) refl refl (eqb t x) refl (occurrences_keep test t xs)
  where
    go : (b c : Bool) → test x ≡ b → test t ≡ c → (e : Bool) → eqb t x ≡ e → occurrences t (keep test xs) ≡ cond c (occurrences t xs) 0 →
        occurrences t (cond b (x ∷ keep test xs) (keep test xs)) ≡ cond c (cond e 1 0 + occurrences t xs) 0
    go true true p q e d ih = rw d (omega arith)
    go true false p q true d ih = absurd (true_is_not_false (ap test (eqb-true t x d) ∙ p) q)
    go true false p q false d ih = rw d (omega arith)
    go false true p q true d ih = absurd (true_is_not_false q (ap test (eqb-true t x d) ∙ p))
    go false true p q false d ih = omega arith
    go false false p q e d ih = ih

-- ---- how often it stands in deques

pub in_deques_append : (t : ℕ) (ds es : List (List ℕ)) → in_deques t (ds ++ es) ≡ in_deques t ds + in_deques t es
unfolding in_deques
in_deques_append t [] es = omega arith
in_deques_append t (d ∷ ds) es = omega (arith, in_deques_append t ds es)

-- deques in reverse hold what they held
pub in_deques_reverse : (t : ℕ) (ds : List (List ℕ)) → in_deques t (reverse ds) ≡ in_deques t ds
unfolding in_deques
in_deques_reverse t [] = refl
in_deques_reverse t (d ∷ ds) =
    rw (reverse-cons d ds) (omega (arith, in_deques_append t (reverse ds) (d ∷ []), in_deques_reverse t ds))

pub in_deques_split : (t n : ℕ) (ds : List (List ℕ)) → in_deques t (take n ds) + in_deques t (drop n ds) ≡ in_deques t ds
in_deques_split t n ds = sym (in_deques_append t (take n ds) (drop n ds)) ∙ ap (in_deques t) (take-append-drop n ds)

-- the count after one deque is replaced
pub in_deques_set : (t : ℕ) (ds : List (List ℕ)) (w : ℕ) (d : List ℕ) → w < length ds →
    in_deques t (set ds w d) + occurrences t (get_or ds w []) ≡ in_deques t ds + occurrences t d
unfolding in_deques
in_deques_set t [] w d h = absurd (not-suc-le-zero h)
in_deques_set t (x ∷ ds) zero d h = omega arith
in_deques_set t (x ∷ ds) (suc w) d h = omega (arith, in_deques_set t ds w d (le_of_suc-le-suc h))

pub one_deque : (t : ℕ) (ds : List (List ℕ)) (w : ℕ) → occurrences t (get_or ds w []) ≤ in_deques t ds
unfolding in_deques occurrences
one_deque t [] w = omega arith
one_deque t (x ∷ ds) zero = omega arith
one_deque t (x ∷ ds) (suc w) = omega (arith, one_deque t ds w)

-- some deque has it
pub which_deque : (t : ℕ) (ds : List (List ℕ)) → 1 ≤ in_deques t ds → (w : ℕ) × (w < length ds) × (1 ≤ occurrences t (get_or ds w []))
unfolding in_deques
which_deque t [] h = absurd (not-suc-le-zero h)
which_deque t (d ∷ ds) h = go (occurrences t d) refl (which_deque t ds)
  where
    go : (n : ℕ) → occurrences t d ≡ n → (1 ≤ in_deques t ds → (w : ℕ) × (w < length ds) × (1 ≤ occurrences t (get_or ds w []))) →
        (w : ℕ) × (w < suc (length ds)) × (1 ≤ occurrences t (get_or (d ∷ ds) w []))
    go zero e onward = let r = onward (omega arith) in (suc r.0, omega (arith, r.1), r.2)
    go (suc n) e onward = (zero, omega arith, omega arith)

abbrev pub non_empty : List ℕ → Bool
non_empty d = not (is_empty d)

-- empty deques hold nothing
pub in_deques_non_empty : (t : ℕ) (ds : List (List ℕ)) → in_deques t (keep non_empty ds) ≡ in_deques t ds
unfolding in_deques keep occurrences
in_deques_non_empty t [] = refl
in_deques_non_empty t ([] ∷ ds) = omega (arith, in_deques_non_empty t ds)
in_deques_non_empty t ((x ∷ d) ∷ ds) = omega (arith, in_deques_non_empty t ds)

pub in_deques_empty : (t n : ℕ) → in_deques t (replicate n []) ≡ 0
unfolding in_deques occurrences
in_deques_empty t zero = refl
in_deques_empty t (suc n) = omega (arith, in_deques_empty t n)

-- ---- how many are not empty

abbrev pub one_if_filled : List ℕ → ℕ
one_if_filled d = cond (is_empty d) 0 1

pub one_at_most : (d : List ℕ) → one_if_filled d ≤ 1
one_at_most [] = omega arith
one_at_most (x ∷ d) = omega arith

pub filled_is_one : (d : List ℕ) → 1 ≤ length d → one_if_filled d ≡ 1
filled_is_one [] h = absurd (not-suc-le-zero h)
filled_is_one (x ∷ d) h = refl

pub empty_or_filled : (d : List ℕ) → one_if_filled d + cond (is_empty d) 1 0 ≡ 1
empty_or_filled [] = refl
empty_or_filled (x ∷ d) = refl

pub busy_set : (ds : List (List ℕ)) (w : ℕ) (d : List ℕ) → w < length ds →
    busy (set ds w d) + one_if_filled (get_or ds w []) ≡ busy ds + one_if_filled d
unfolding busy
busy_set [] w d h = absurd (not-suc-le-zero h)
busy_set (x ∷ ds) zero d h = omega arith
busy_set (x ∷ ds) (suc w) d h = omega (arith, busy_set ds w d (le_of_suc-le-suc h))

pub busy_at_most : (ds : List (List ℕ)) → busy ds ≤ length ds
unfolding busy
busy_at_most [] = omega arith
busy_at_most (d ∷ ds) = omega (arith, busy_at_most ds, one_at_most d)

pub busy_append : (ds es : List (List ℕ)) → busy (ds ++ es) ≡ busy ds + busy es
unfolding busy
busy_append [] es = omega arith
busy_append (d ∷ ds) es = omega (arith, busy_append ds es)

pub busy_split : (n : ℕ) (ds : List (List ℕ)) → busy (take n ds) + busy (drop n ds) ≡ busy ds
busy_split n ds = sym (busy_append (take n ds) (drop n ds)) ∙ ap busy (take-append-drop n ds)

pub busy_non_empty : (ds : List (List ℕ)) → length (keep non_empty ds) ≡ busy ds
unfolding busy keep
busy_non_empty [] = refl
busy_non_empty ([] ∷ ds) = omega (arith, busy_non_empty ds)
busy_non_empty ((x ∷ d) ∷ ds) = omega (arith, busy_non_empty ds)

pub busy_empty : (n : ℕ) → busy (replicate n []) ≡ 0
unfolding busy
busy_empty zero = refl
busy_empty (suc n) = omega (arith, busy_empty n)

-- ---- flags

-- where a deque has tasks there is a worker
pub filled_within : (ds : List (List ℕ)) (w : ℕ) → 1 ≤ length (get_or ds w []) → w < length ds
filled_within [] w h = absurd (not-suc-le-zero h)
filled_within (d ∷ ds) zero h = omega arith
filled_within (d ∷ ds) (suc w) h = omega (arith, filled_within ds w h)
