-- Laws of the numbers below n, and of those from 1: what `every`, `keep` and `flat_map` are over one number more.
use mathlib.Core.Path.{◌≡◌, refl, sym, ◌∙◌, ap}
use mathlib.Core.Bool.{Bool, true, false, cond, ◌&&◌, and-true, and_assoc}
use mathlib.Core.Logic.{⊎_elim}
use mathlib.Core.List.Memᴰ
use mathlib.Core.List.{List, [], ◌∷◌, ◌++◌, flat_map, append_assoc, append-nil, Memᴰ}
use Prim.Native.Nat.{ℕ, zero, suc, ◌+◌, ◌≤◌, ◌<◌}
use native.Mathlib.Nat.{eq-or-lt_of_le, le_of_suc-le-suc}
use native.Mathlib.Omega.{arith}
use native.Mathlib.Numerals.{add-one}
use lib.ListN.{length, get_or, drop, length-append}
use lib.Seq.{drop-append-le}
use Rattle.model.specs.Tests.{below, every, keep}
use Rattle.lists.proofs.Lists.{at_place, keep_append, kept_from}

-- ---- below

length_below : (n : ℕ) → length (below n) ≡ n
unfolding below
length_below zero = refl
length_below (suc n) = length-append (below n) (n ∷ []) ∙ (ap (λ m. m + 1) (length_below n) ∙ add-one n)

module _ {A : Type 0} where
  flatMap_append : (f : ℕ → List A) (xs ys : List ℕ) → flat_map f (xs ++ ys) ≡ flat_map f xs ++ flat_map f ys
  unfolding flat_map
  flatMap_append f [] ys = refl
  flatMap_append f (x ∷ xs) ys = ap (λ l. f x ++ l) (flatMap_append f xs ys) ∙ sym (append_assoc (f x) (flat_map f xs) (flat_map f ys))

  pub flatMap_below : (f : ℕ → List A) (n : ℕ) → flat_map f (below (suc n)) ≡ flat_map f (below n) ++ f n
  unfolding below flat_map
  flatMap_below f n = flatMap_append f (below n) (n ∷ []) ∙ ap (λ l. flat_map f (below n) ++ l) (append-nil (f n))

-- ---- drop 1 of below: the numbers from 1

pub mem_from_one : (t n : ℕ) → 1 ≤ t → t < n → Memᴰ t (drop 1 (below n))
unfolding below
mem_from_one t zero p h = absurd (omega arith)
mem_from_one t (suc zero) p h = absurd (omega arith)
mem_from_one t (suc (suc n)) p h =
    rw (drop-append-le 1 (below (suc n)) (suc n ∷ []) (omega (arith, length_below (suc n))))
    (⊎_elim
    (λ e. Memᴰ.append_right (drop 1 (below (suc n))) (Memᴰ.head e))
    (λ l. Memᴰ.append_left (suc n ∷ []) (mem_from_one t (suc n) p l))
    (eq-or-lt_of_le (le_of_suc-le-suc h)))

pub from_one_mem : (t n : ℕ) → Memᴰ t (drop 1 (below n)) → (1 ≤ t) × (t < n)
unfolding below
from_one_mem t zero m = absurd (Memᴰ.not-nil m)
from_one_mem t (suc zero) m = absurd (Memᴰ.not-nil m)
from_one_mem t (suc (suc n)) m =
    ⊎_elim
    (λ l. let h : (1 ≤ t) × (t < suc n) = from_one_mem t (suc n) l in omega arith)
    (λ r. let e : t ≡ suc n = Memᴰ.eq_of_singleton r in omega arith)
    (Memᴰ.append_cases (drop 1 (below (suc n)))
    (rw (drop-append-le 1 (below (suc n)) (suc n ∷ []) (omega (arith, length_below (suc n)))) at m))

-- ---- every

module _ {A : Type 0} where
  pub every_cong : (f g : A → Bool) (xs : List A) → ((x : A) → Memᴰ x xs → f x ≡ g x) → every f xs ≡ every g xs
  unfolding every
  every_cong f g [] h = refl
  every_cong f g (x ∷ xs) h = cc (h x (Memᴰ.head refl), every_cong f g xs (λ y m. h y (Memᴰ.tail m)))

  every_append : (test : A → Bool) (xs : List A) (x : A) → every test (xs ++ (x ∷ [])) ≡ (every test xs && test x)
  unfolding every
  every_append test [] x = and-true (test x)
  every_append test (y ∷ ys) x = ap (λ b. test y && b) (every_append test ys x) ∙ sym (and_assoc (test y) (every test ys) (test x))

-- one number more
pub every_below : (test : ℕ → Bool) (n : ℕ) → every test (below (suc n)) ≡ (every test (below n) && test n)
unfolding below
every_below test n = every_append test (below n) n

-- one number more of those from 1
pub every_from_one : (test : ℕ → Bool) (t : ℕ) → 1 ≤ t → every test (drop 1 (below (suc t))) ≡ (every test (drop 1 (below t)) && test t)
unfolding below
every_from_one test t l =
    ap (every test) (drop-append-le 1 (below t) (t ∷ []) (omega (arith, length_below t))) ∙ every_append test (drop 1 (below t)) t

-- ---- keep

pub keep_cong : (f g : ℕ → Bool) (xs : List ℕ) → ((t : ℕ) → Memᴰ t xs → f t ≡ g t) → keep f xs ≡ keep g xs
unfolding keep
keep_cong f g [] h = refl
keep_cong f g (x ∷ xs) h = cc (h x (Memᴰ.head refl), keep_cong f g xs (λ t m. h t (Memᴰ.tail m)))

-- one more number in the list adds one where the test holds of it
pub keep_below : (test : ℕ → Bool) (n : ℕ) → length (keep test (below (suc n))) ≡ length (keep test (below n)) + cond (test n) 1 0
unfolding below keep
keep_below test n =
    ap length (keep_append test (below n) (n ∷ [])) ∙ (length-append (keep test (below n)) (keep test (n ∷ [])) ∙ by (test n))
  where
    by : (b : Bool) → length (keep test (below n)) + length (cond b (n ∷ []) []) ≡ length (keep test (below n)) + cond b 1 0
    by true = refl
    by false = refl

-- where something is kept, it was there and the test holds of it
pub keep_some : (test : ℕ → Bool) (xs : List ℕ) → 1 ≤ length (keep test xs) → (x : ℕ) × Memᴰ x xs × (test x ≡ true)
keep_some test xs h =
    let m = kept_from test xs (get_or (keep test xs) 0 0) (at_place (keep test xs) 0 h) in (get_or (keep test xs) 0 0, m.0, m.1)
