-- The first "no" of a list of questions, by its parts.
use mathlib.Core.Path.{◌≡◌, refl, sym, ◌∙◌, ap}
use mathlib.Core.Bool.{Bool, true, false, cond}
use mathlib.Core.Logic.{⊎_elim}
use mathlib.Core.List.{List, [], ◌∷◌, ◌++◌, flat_map}
use Prim.Native.Nat.{ℕ, zero, suc, ◌≤◌, ◌<◌}
use native.Mathlib.Nat.{eq-or-lt_of_le, le_of_suc-le-suc}
use native.Mathlib.Omega.{arith}
use Rattle.model.specs.Tests.{below}
use Rattle.model.specs.Questions.{Question, Answer, accepted, refused, ask, first_no}
use Rattle.lists.proofs.Ranges.{flatMap_below}

-- an answer, and where it is acceptance another
abbrev pub and_then : Answer → Answer → Answer
and_then accepted b = b
and_then (refused n) b = refused n

pub first_no_append : (xs ys : List Question) → first_no (xs ++ ys) ≡ and_then (first_no xs) (first_no ys)
unfolding first_no
first_no_append [] ys = refl
first_no_append (q ∷ qs) ys = by (first_no_append qs ys) q.holds
  where
    by : first_no (qs ++ ys) ≡ and_then (first_no qs) (first_no ys) → (b : Bool) →
        cond b (first_no (qs ++ ys)) (refused q.number) ≡ and_then (cond b (first_no qs) (refused q.number)) (first_no ys)
    by rest true = rest
    by rest false = refl

pub first_accepted : (a b : Answer) → and_then a b ≡ accepted → a ≡ accepted
first_accepted accepted b h = refl
first_accepted (refused n) b h = h

pub second_accepted : (a b : Answer) → and_then a b ≡ accepted → b ≡ accepted
second_accepted accepted b h = h
second_accepted (refused n) b h = let z : ◌≡◌ {A = ℕ} 0 1 = cc in absurd (omega arith)

-- a question first: it holds, and so do the others
pub ask_accepted : (b : Bool) (n : ℕ) (qs : List Question) → first_no (ask b n ∷ qs) ≡ accepted → (b ≡ true) × (first_no qs ≡ accepted)
unfolding first_no
ask_accepted true n qs h = (refl, h)
ask_accepted false n qs h = let z : ◌≡◌ {A = ℕ} 0 1 = cc in absurd (omega arith)

-- a question first, and a refusal: one of another number is that of the others, and the question holds
pub ask_passes : (b : Bool) (n m : ℕ) (qs : List Question) → (n ≡ m → ⊥) → first_no (ask b n ∷ qs) ≡ refused m →
    (b ≡ true) × (first_no qs ≡ refused m)
unfolding first_no
ask_passes true n m qs other h = (refl, h)
ask_passes false n m qs other h = absurd (other cc)

-- .. and one of its own number, which the others never give, is its own: it does not hold
pub ask_refuses : (b : Bool) (n : ℕ) (qs : List Question) → (first_no qs ≡ refused n → ⊥) → first_no (ask b n ∷ qs) ≡ refused n → b ≡ false
unfolding first_no
ask_refuses true n qs never h = absurd (never h)
ask_refuses false n qs never h = refl

-- no question, no refusal
pub none_refuses : (n : ℕ) → first_no [] ≡ refused n → ⊥
unfolding first_no
none_refuses n h = let z : ◌≡◌ {A = ℕ} 0 1 = cc in omega arith

-- of two questions: both hold; the first does not; the second does not
pub two_accepted : {a b : Bool} (m n : ℕ) → a ≡ true → b ≡ true → first_no (ask a m ∷ ask b n ∷ []) ≡ accepted
unfolding first_no
two_accepted m n p q = rw (p, q)

pub first_refused : {a : Bool} (b : Bool) (m n : ℕ) → a ≡ false → first_no (ask a m ∷ ask b n ∷ []) ≡ refused m
unfolding first_no
first_refused b m n p = rw p

pub second_refused : {a b : Bool} (m n : ℕ) → a ≡ true → b ≡ false → first_no (ask a m ∷ ask b n ∷ []) ≡ refused n
unfolding first_no
second_refused m n p q = rw (p, q)

module _ (f : ℕ → List Question) where
  -- the questions of the tasks up to one more
  pub first_no_below : (n : ℕ) → first_no (flat_map f (below (suc n))) ≡ and_then (first_no (flat_map f (below n))) (first_no (f n))
  first_no_below n = ap first_no (flatMap_below f n) ∙ first_no_append (flat_map f (below n)) (f n)

  -- what is refused early is refused
  pub refused_early : (i n k : ℕ) → i ≤ n → first_no (flat_map f (below i)) ≡ refused k → first_no (flat_map f (below n)) ≡ refused k
  refused_early i zero k l h =
      let e : i ≡ 0 = omega arith in
      ap (λ m. first_no (flat_map f (below m))) (sym e) ∙ h
  refused_early i (suc n) k l h = ⊎_elim at_once (λ b. before (refused_early i n k (omega arith) h)) (eq-or-lt_of_le l)
    where
      at_once : i ≡ suc n → first_no (flat_map f (below (suc n))) ≡ refused k
      at_once e = ap (λ m. first_no (flat_map f (below m))) (sym e) ∙ h

      before : first_no (flat_map f (below n)) ≡ refused k → first_no (flat_map f (below (suc n))) ≡ refused k
      before r = first_no_below n ∙ ap (λ a. and_then a (first_no (f n))) r

  -- where all below i are accepted and i's are not, the answer is i's
  pub refused_at : (i n k : ℕ) → i < n → first_no (flat_map f (below i)) ≡ accepted → first_no (f i) ≡ refused k →
      first_no (flat_map f (below n)) ≡ refused k
  refused_at i n k l a r =
      refused_early (suc i) n k l (first_no_below i ∙ (ap (λ x. and_then x (first_no (f i))) a ∙ r))

  pub accepted_below : (n : ℕ) → ((t : ℕ) → t < n → first_no (f t) ≡ accepted) → first_no (flat_map f (below n)) ≡ accepted
  unfolding below flat_map first_no
  accepted_below zero h = refl
  accepted_below (suc n) h =
      first_no_below n ∙ (ap (λ a. and_then a (first_no (f n))) (accepted_below n (λ t l. h t (omega arith))) ∙ h n (omega arith))

  pub accepted_at : (n : ℕ) → first_no (flat_map f (below n)) ≡ accepted → (t : ℕ) → t < n → first_no (f t) ≡ accepted
  accepted_at zero h t l = absurd (omega arith)
  accepted_at (suc n) h t l =
      ⊎_elim
      (λ e. ap (λ m. first_no (f m)) e ∙ second_accepted (first_no (flat_map f (below n))) (first_no (f n)) whole)
      (λ b. accepted_at n (first_accepted (first_no (flat_map f (below n))) (first_no (f n)) whole) t b)
      (eq-or-lt_of_le (le_of_suc-le-suc l))
    where
      whole : and_then (first_no (flat_map f (below n))) (first_no (f n)) ≡ accepted
      whole = sym (first_no_below n) ∙ h
