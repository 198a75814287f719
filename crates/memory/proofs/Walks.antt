-- A deque over the links: its length, its front, and what a store does to it.
use mathlib.Core.Path.{◌≡◌, refl, sym, ap}
use mathlib.Core.Bool.{Bool, true, false, cond}
use mathlib.Core.List.{List, ◌∷◌}
use Prim.Native.Nat.{ℕ, zero, suc, ◌+◌, ◌-◌, ◌≤◌, ◌<◌}
use native.Mathlib.Omega.{arith}
use native.Mathlib.Numerals.{add-one}
use lib.Dec.{eqb}
use lib.ListN.{length, get_or, set}
use lib.Seq.{get_or-set_same, get_or-set_other}
use borrow.Author.Tests.{eqb-false}
use Rattle.model.specs.Tests.{occurrences}
use Rattle.memory.specs.View.{walk}

-- a task that stands nowhere in a deque is not its front, and stands nowhere in the rest
pub record NotIn (t x : ℕ) (xs : List ℕ) : Type 0 where
  pub not_front : t ≡ x → ⊥
  pub not_rest : occurrences t xs ≡ 0

not_in_by : (t x : ℕ) (xs : List ℕ) (b : Bool) → eqb t x ≡ b → cond b 1 0 + occurrences t xs ≡ 0 → NotIn t x xs
not_in_by t x xs true e h = record { not_front = λ _. omega arith; not_rest = omega arith }
not_in_by t x xs false e h = record { not_front = eqb-false t x e; not_rest = omega arith }

pub not_in : (t x : ℕ) (xs : List ℕ) → occurrences t (x ∷ xs) ≡ 0 → NotIn t x xs
unfolding occurrences
not_in t x xs h = not_in_by t x xs (eqb t x) refl h

pub length_walk : (next : List ℕ) (front size : ℕ) → length (walk next front size) ≡ size
unfolding walk
length_walk next front zero = refl
length_walk next front (suc size) = ap suc (length_walk next (get_or next front 0) size)

-- a deque's first task stands before the walk from its link
pub walk_front : (next : List ℕ) (front size : ℕ) → 1 ≤ size → walk next front size ≡ front ∷ walk next (get_or next front 0) (size - 1)
unfolding walk
walk_front next front zero h = absurd (omega arith)
walk_front next front (suc size) h = let less : suc size - 1 ≡ size = omega arith in rw less

-- a store at a task that does not stand in the deque leaves it as it was
pub walk_set : (next : List ℕ) (t v front size : ℕ) → occurrences t (walk next front size) ≡ 0 →
    walk (set next t v) front size ≡ walk next front size
unfolding walk
walk_set next t v front zero h = refl
walk_set next t v front (suc size) h =
    let n = not_in t front (walk next (get_or next front 0) size) h in
    let other = get_or-set_other next t front v 0 (λ e. n.not_front (sym e)) in
    rw other (ap (λ (l : List ℕ). front ∷ l) (walk_set next t v (get_or next front 0) size n.not_rest))

-- a task that is linked to a deque's front stands before it
pub walk_push : (next : List ℕ) (t front size : ℕ) → t < length next → occurrences t (walk next front size) ≡ 0 →
    walk (set next t front) t (size + 1) ≡ t ∷ walk next front size
unfolding walk
walk_push next t front size inside h =
    rw (add-one, get_or-set_same next t front 0 inside) (ap (λ (l : List ℕ). t ∷ l) (walk_set next t front front size h))
