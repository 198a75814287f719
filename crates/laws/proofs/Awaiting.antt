-- How many predecessors a task still awaits: none exactly when it is ready; one less for each successor of a task that is worked, and no
-- change elsewhere; all of them at the beginning.
-- Assumes nothing.
use mathlib.Core.Path.{◌≡◌, refl, sym, ap, ◌∙◌}
use mathlib.Core.Bool.{Bool, true, false, cond, not, ◌&&◌}
use mathlib.Core.List.{List, [], ◌∷◌}
use Prim.Native.Nat.{ℕ, zero, suc, ◌+◌, ◌≤◌, ◌<◌}
use native.Mathlib.Nat.{not-suc-le-zero}
use native.Mathlib.Omega.{arith}
use lib.Dec.{eqb}
use lib.ListN.{length, get_or, set, replicate}
use lib.Seq.{get_or-set_same, get_or-set_other}
use borrow.Author.Tests.{eqb-true, eqb-false, ne_eqb}
use Rattle.model.specs.Tests.{below, every, keep, member, occurrences}
use Rattle.model.specs.Plan.{Graph, tasks, successors_of, predecessors}
use Rattle.model.specs.Machine.{ready}
use Rattle.laws.specs.Awaited.{completed, still_awaited}
use Rattle.lists.proofs.Lists.{alike}
use Rattle.laws.proofs.Deques.{occurrences_append, occurrences_keep}

-- ---- lists

-- no element fails a test exactly when every element passes it
none_fails : (test : ℕ → Bool) (xs : List ℕ) → eqb (length (keep (λ x. not (test x)) xs)) 0 ≡ every test xs
unfolding keep every
none_fails test [] = refl
none_fails test (x ∷ xs) = go (test x) (none_fails test xs)
  where
    failing : List ℕ
    failing = keep (λ y. not (test y)) xs

    go : (b : Bool) → eqb (length failing) 0 ≡ every test xs →
        eqb (length (cond (not b) (x ∷ failing) failing)) 0 ≡ (b && every test xs)
    go true h = h
    go false h = ne_eqb (suc (length failing)) 0 (omega arith)

-- a test that fails at t, where another holds, and agrees elsewhere keeps fewer by how often t stands there
one_fails : (t : ℕ) (test fewer : ℕ → Bool) → test t ≡ true → fewer t ≡ false → ((x : ℕ) → (x ≡ t → ⊥) → fewer x ≡ test x) → (xs : List ℕ) →
    length (keep test xs) ≡ length (keep fewer xs) + occurrences t xs
unfolding keep occurrences
one_fails t test fewer yes_t no_t others [] = refl
one_fails t test fewer yes_t no_t others (x ∷ xs) = go (eqb t x) refl (one_fails t test fewer yes_t no_t others xs)
  where
    either : (b : Bool) → length (keep test xs) ≡ length (keep fewer xs) + occurrences t xs →
        length (cond b (x ∷ keep test xs) (keep test xs)) ≡ length (cond b (x ∷ keep fewer xs) (keep fewer xs)) + (0 + occurrences t xs)
    either true h = omega arith
    either false h = omega arith

    go : (b : Bool) → eqb t x ≡ b → length (keep test xs) ≡ length (keep fewer xs) + occurrences t xs →
        length (cond (test x) (x ∷ keep test xs) (keep test xs))
        ≡ length (cond (fewer x) (x ∷ keep fewer xs) (keep fewer xs)) + (cond b 1 0 + occurrences t xs)
    go true e h = rw (← eqb-true t x e, yes_t, no_t) (omega arith)
    go false e h = rw (others x (λ q. eqb-false t x e (sym q))) (either (test x) h)

-- a number stands once below a larger one
occurrences_below : (t n : ℕ) → t < n → occurrences t (below n) ≡ 1
unfolding below occurrences
occurrences_below t zero l = absurd (not-suc-le-zero l)
occurrences_below t (suc n) l = occurrences_append t (below n) (n ∷ []) ∙ go (eqb t n) refl (occurrences_below t n)
  where
    absent : (m : ℕ) → m ≤ t → occurrences t (below m) ≡ 0
    absent zero h = refl
    absent (suc m) h =
        let other = ne_eqb t m (omega arith) in
        occurrences_append t (below m) (m ∷ []) ∙ rw other (omega (arith, absent m (omega arith)))

    go : (b : Bool) → eqb t n ≡ b → (t < n → occurrences t (below n) ≡ 1) → occurrences t (below n) + (cond b 1 0 + 0) ≡ 1
    go true e onward = let last = eqb-true t n e in omega (arith, absent n (omega arith))
    go false e onward = let other = eqb-false t n e in omega (arith, onward (omega arith))

all_kept : (xs : List ℕ) (test : ℕ → Bool) → ((x : ℕ) → test x ≡ true) → length (keep test xs) ≡ length xs
unfolding keep
all_kept [] test h = refl
all_kept (x ∷ xs) test h = rw (h x) (ap suc (all_kept xs test h))

-- ---- tasks

module _ (graph : Graph) where
  pub awaits_none : (worked : List Bool) (t : ℕ) → eqb (still_awaited graph worked t) 0 ≡ ready graph worked t
  unfolding ready
  awaits_none worked t = none_fails (λ p. get_or worked p false) (predecessors graph t)

  pub awaited_at_first : (t : ℕ) → still_awaited graph (replicate (tasks graph) false) t ≡ length (predecessors graph t)
  awaited_at_first t =
      all_kept (predecessors graph t) (λ p. not (get_or (replicate (tasks graph) false) p false))
      (λ p. rw (alike (tasks graph) p false) refl)

  -- a task is before another once, or not at all
  before_times : (t x : ℕ) → t < tasks graph → occurrences t (predecessors graph x) ≡ cond (member x (successors_of graph t)) 1 0
  unfolding predecessors
  before_times t x l =
      occurrences_keep (λ p. member x (successors_of graph p)) t (below (tasks graph))
      ∙ ap (λ (n : ℕ). cond (member x (successors_of graph t)) n 0) (occurrences_below t (tasks graph) l)

  module _ (worked : List Bool) (t : ℕ) (l : t < tasks graph) (flags : length worked ≡ tasks graph)
      (u : get_or worked t false ≡ false) where
    awaited_change : (x : ℕ) →
        still_awaited graph worked x ≡ still_awaited graph (completed t worked) x + cond (member x (successors_of graph t)) 1 0
    awaited_change x =
        one_fails t (λ p. not (get_or worked p false)) (λ p. not (get_or (set worked t true) p false))
        (rw u refl)
        (rw (get_or-set_same worked t true false (omega arith)) refl)
        (λ p ne. rw (get_or-set_other worked t p true false ne) refl)
        (predecessors graph x)
        ∙ ap (λ (n : ℕ). still_awaited graph (completed t worked) x + n) (before_times t x l)

    -- working a task: one less for each of its successors
    pub successor_awaits : (x : ℕ) → member x (successors_of graph t) ≡ true →
        still_awaited graph worked x ≡ suc (still_awaited graph (completed t worked) x)
    successor_awaits x m = let c = awaited_change x in omega (arith, rw m at c)

    -- and no change for any other task
    pub other_awaits : (x : ℕ) → member x (successors_of graph t) ≡ false →
        still_awaited graph (completed t worked) x ≡ still_awaited graph worked x
    other_awaits x m = let c = awaited_change x in omega (arith, rw m at c)
