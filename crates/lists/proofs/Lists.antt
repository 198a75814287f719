-- Lists of numbers and of flags: places and members, what tests over a whole list say, and what a test keeps.
-- Assumes nothing.
use mathlib.Core.Path.{◌≡◌, refl, sym, ap, ◌∙◌}
use mathlib.Core.Logic.{◌⊎◌, inl, inr}
use mathlib.Core.Bool.{Bool, true, false, cond}
use mathlib.Core.List.Memᴰ
use mathlib.Core.List.{List, [], ◌∷◌, ◌++◌, reverse, reverse-cons, Memᴰ}
use Prim.Native.Nat.{ℕ, zero, suc, ◌≤◌, ◌<◌}
use native.Mathlib.Nat.{le_of_suc-le-suc, not-suc-le-zero}
use native.Mathlib.Omega.{arith}
use lib.Dec.{eqb}
use lib.ListN.{length, get_or, set, replicate}
use borrow.Author.Tests.{eqb-true, eqb-false, eq-eqb}
use Rattle.model.specs.Tests.{below, every, keep, member, count_set, all_set}
use Rattle.lists.proofs.Tests.{true_is_not_false, and_left, and_right, both}

-- ---- places in a list

pub place_of : (t : ℕ) (xs : List ℕ) → Memᴰ t xs → (i : ℕ) × (i < length xs) × (get_or xs i 0 ≡ t)
place_of t [] x' = elim x' [ ]
place_of t (x ∷ xs) (Memᴰ.head e) = (zero, omega arith, sym e)
place_of t (x ∷ xs) (Memᴰ.tail m) = let r = place_of t xs m in (suc r.0, omega (arith, r.1), r.2)

pub at_place : (xs : List ℕ) (i : ℕ) → i < length xs → Memᴰ (get_or xs i 0) xs
at_place [] i l = absurd (not-suc-le-zero l)
at_place (x ∷ xs) zero l = Memᴰ.head refl
at_place (x ∷ xs) (suc i) l = Memᴰ.tail (at_place xs i (le_of_suc-le-suc l))

-- ---- membership

pub is_member : (t : ℕ) (xs : List ℕ) → member t xs ≡ true → Memᴰ t xs
unfolding member
is_member t [] h = absurd (true_is_not_false h refl)
is_member t (x ∷ xs) h = go (eqb t x) refl (is_member t xs) h
  where
    go : (b : Bool) → eqb t x ≡ b → (member t xs ≡ true → Memᴰ t xs) → cond b true (member t xs) ≡ true → Memᴰ t (x ∷ xs)
    go true e onward h = Memᴰ.head (eqb-true t x e)
    go false e onward h = Memᴰ.tail (onward h)

pub member_is : (t : ℕ) (xs : List ℕ) → Memᴰ t xs → member t xs ≡ true
unfolding member
member_is t [] x' = elim x' [ ]
member_is t (x ∷ xs) (Memᴰ.head e) = rw (eq-eqb t x e) refl
member_is t (x ∷ xs) (Memᴰ.tail m) = go (eqb t x) (member_is t xs m)
  where
    go : (b : Bool) → member t xs ≡ true → cond b true (member t xs) ≡ true
    go true h = refl
    go false h = h

module _ {A : Type 0} (test : A → Bool) where
  pub every_at : (xs : List A) → every test xs ≡ true → (x : A) → Memᴰ x xs → test x ≡ true
  unfolding every
  every_at [] h x x4 = elim x4 [ ]
  every_at (y ∷ xs) h x (Memᴰ.head e) = rw e (and_left (test y) (every test xs) h)
  every_at (y ∷ xs) h x (Memᴰ.tail m) = every_at xs (and_right (test y) (every test xs) h) x m

  pub every_from : (xs : List A) → ((x : A) → Memᴰ x xs → test x ≡ true) → every test xs ≡ true
  unfolding every
  every_from [] h = refl
  every_from (x ∷ xs) h = both (test x) (every test xs) (h x (Memᴰ.head refl)) (every_from xs (λ y m. h y (Memᴰ.tail m)))

  pub every_append : (xs ys : List A) → every test xs ≡ true → every test ys ≡ true → every test (xs ++ ys) ≡ true
  unfolding every
  every_append [] ys p q = q
  every_append (x ∷ xs) ys p q =
      both (test x) (every test (xs ++ ys)) (and_left (test x) (every test xs) p)
      (every_append xs ys (and_right (test x) (every test xs) p) q)

  pub every_reverse : (xs : List A) → every test xs ≡ true → every test (reverse xs) ≡ true
  unfolding every
  every_reverse [] p = refl
  every_reverse (x ∷ xs) p =
      rw (reverse-cons x xs)
      (every_append (reverse xs) (x ∷ []) (every_reverse xs (and_right (test x) (every test xs) p))
      (both (test x) true (and_left (test x) (every test xs) p) refl))

  pub keep_append : (xs ys : List A) → keep test (xs ++ ys) ≡ keep test xs ++ keep test ys
  unfolding keep
  keep_append [] ys = refl
  keep_append (x ∷ xs) ys = by (keep_append xs ys) (test x)
    where
      by : keep test (xs ++ ys) ≡ keep test xs ++ keep test ys → (b : Bool) →
          cond b (x ∷ keep test (xs ++ ys)) (keep test (xs ++ ys)) ≡ cond b (x ∷ keep test xs) (keep test xs) ++ keep test ys
      by rest true = ap (λ l. x ∷ l) rest
      by rest false = rest

  pub kept_passes : (xs : List A) → every test (keep test xs) ≡ true
  unfolding every keep
  kept_passes [] = refl
  kept_passes (x ∷ xs) = go (test x) refl (kept_passes xs)
    where
      go : (b : Bool) → test x ≡ b → every test (keep test xs) ≡ true → every test (cond b (x ∷ keep test xs) (keep test xs)) ≡ true
      go true e h = both (test x) (every test (keep test xs)) e h
      go false e h = h

  pub kept_from : (xs : List A) (x : A) → Memᴰ x (keep test xs) → Memᴰ x xs × (test x ≡ true)
  unfolding keep
  kept_from [] x m = absurd (Memᴰ.not-nil m)
  kept_from (y ∷ xs) x m = go (test y) refl (kept_from xs x) m
    where
      more : Memᴰ x xs × (test x ≡ true) → Memᴰ x (y ∷ xs) × (test x ≡ true)
      more r = (Memᴰ.tail r.0, r.1)

      head : test y ≡ true → (Memᴰ x (keep test xs) → Memᴰ x xs × (test x ≡ true)) →
          (x ≡ y) ⊎ Memᴰ x (keep test xs) → Memᴰ x (y ∷ xs) × (test x ≡ true)
      head e onward (inl q) = (Memᴰ.head q, rw q e)
      head e onward (inr m) = more (onward m)

      go : (b : Bool) → test y ≡ b → (Memᴰ x (keep test xs) → Memᴰ x xs × (test x ≡ true)) →
          Memᴰ x (cond b (y ∷ keep test xs) (keep test xs)) → Memᴰ x (y ∷ xs) × (test x ≡ true)
      go true e onward m = head e onward (Memᴰ.cases_cons m)
      go false e onward m = more (onward m)

  pub kept_if : (xs : List A) (x : A) → Memᴰ x xs → test x ≡ true → Memᴰ x (keep test xs)
  unfolding keep
  kept_if [] x x4 h = elim x4 [ ]
  kept_if (y ∷ xs) x (Memᴰ.head q) h = rw (ap test (sym q) ∙ h) (Memᴰ.head q)
  kept_if (y ∷ xs) x (Memᴰ.tail m) h = go (test y) (kept_if xs x m h)
    where
      go : (b : Bool) → Memᴰ x (keep test xs) → Memᴰ x (cond b (y ∷ keep test xs) (keep test xs))
      go true m = Memᴰ.tail m
      go false m = m

pub below_has : (n x : ℕ) → x < n → Memᴰ x (below n)
unfolding below
below_has zero x h = absurd (not-suc-le-zero h)
below_has (suc n) x h = go (eqb x n) refl (below_has n x)
  where
    go : (b : Bool) → eqb x n ≡ b → (x < n → Memᴰ x (below n)) → Memᴰ x (below n ++ (n ∷ []))
    go true e onward = Memᴰ.append_right (below n) (Memᴰ.head (eqb-true x n e))
    go false e onward = let ne = eqb-false x n e in Memᴰ.append_left (n ∷ []) (onward (omega arith))

pub below_is : (n x : ℕ) → Memᴰ x (below n) → x < n
unfolding below
below_is zero x m = absurd (Memᴰ.not-nil m)
below_is (suc n) x m = go (Memᴰ.append_cases (below n) m) (below_is n x)
  where
    go : Memᴰ x (below n) ⊎ Memᴰ x (n ∷ []) → (Memᴰ x (below n) → x < n) → x < suc n
    go (inl m) onward = omega (arith, onward m)
    go (inr m) onward = omega (arith, Memᴰ.eq_of_singleton m)

-- ---- flags

pub count_set_more : (flags : List Bool) (t : ℕ) → t < length flags → get_or flags t false ≡ false →
    count_set (set flags t true) ≡ suc (count_set flags)
unfolding count_set
count_set_more [] t h e = absurd (not-suc-le-zero h)
count_set_more (true ∷ flags) zero h e = absurd (true_is_not_false refl e)
count_set_more (false ∷ flags) zero h e = refl
count_set_more (true ∷ flags) (suc t) h e = ap suc (count_set_more flags t (le_of_suc-le-suc h) e)
count_set_more (false ∷ flags) (suc t) h e = count_set_more flags t (le_of_suc-le-suc h) e

pub count_set_at_most : (flags : List Bool) → count_set flags ≤ length flags
unfolding count_set
count_set_at_most [] = omega arith
count_set_at_most (true ∷ flags) = omega (arith, count_set_at_most flags)
count_set_at_most (false ∷ flags) = omega (arith, count_set_at_most flags)

pub count_set_none : (n : ℕ) → count_set (replicate n false) ≡ 0
unfolding count_set
count_set_none zero = refl
count_set_none (suc n) = count_set_none n

-- the same stands at every place, and past the end
pub alike : {A : Type 0} (n t : ℕ) (a : A) → get_or (replicate n a) t a ≡ a
alike zero t a = refl
alike (suc n) zero a = refl
alike (suc n) (suc t) a = alike n t a

-- no element is above a bound after one was stored that is not
pub stored_most : (xs : List ℕ) (i v most : ℕ) → v ≤ most → ((u : ℕ) → get_or xs u 0 ≤ most) → (u : ℕ) → get_or (set xs i v) u 0 ≤ most
stored_most [] i v most fits few u = omega arith
stored_most (x ∷ xs) zero v most fits few zero = fits
stored_most (x ∷ xs) zero v most fits few (suc u) = few (suc u)
stored_most (x ∷ xs) (suc i) v most fits few zero = few zero
stored_most (x ∷ xs) (suc i) v most fits few (suc u) = stored_most xs i v most fits (λ w. few (suc w)) u

pub all_set_at : (flags : List Bool) → all_set flags ≡ true → (t : ℕ) → t < length flags → get_or flags t false ≡ true
unfolding all_set
all_set_at [] h t l = absurd (not-suc-le-zero l)
all_set_at (f ∷ flags) h zero l = and_left f (all_set flags) h
all_set_at (f ∷ flags) h (suc t) l = all_set_at flags (and_right f (all_set flags) h) t (le_of_suc-le-suc l)

pub all_set_from : (flags : List Bool) → ((t : ℕ) → t < length flags → get_or flags t false ≡ true) → all_set flags ≡ true
unfolding all_set
all_set_from [] h = refl
all_set_from (f ∷ flags) h = both f (all_set flags) (h 0 (omega arith)) (all_set_from flags (λ t l. h (suc t) (omega arith)))

-- the first flag that is not set
pub first_unset : (flags : List Bool) → all_set flags ≡ false →
    (i : ℕ) × (i < length flags) × (get_or flags i false ≡ false) × ((j : ℕ) → j < i → get_or flags j false ≡ true)
unfolding all_set
first_unset [] h = absurd (true_is_not_false refl h)
first_unset (false ∷ flags) h = (zero, omega arith, refl, λ j l. absurd (not-suc-le-zero l))
first_unset (true ∷ flags) h = let r = first_unset flags h in (suc r.0, omega (arith, r.1), r.2, sets_below r)
  where
    sets_below : (r : (i : ℕ) × (i < length flags) × (get_or flags i false ≡ false) × ((j : ℕ) → j < i → get_or flags j false ≡ true)) →
        (j : ℕ) → j < suc r.0 → get_or (true ∷ flags) j false ≡ true
    sets_below r zero l = refl
    sets_below r (suc j) l = r.3 j (le_of_suc-le-suc l)

-- an element read of a list is one of it
pub set_within : (flags : List Bool) (t : ℕ) → get_or flags t false ≡ true → t < length flags
set_within [] t h = absurd (true_is_not_false h refl)
set_within (f ∷ flags) zero h = omega arith
set_within (f ∷ flags) (suc t) h = omega (arith, set_within flags t h)
