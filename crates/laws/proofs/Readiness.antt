-- When a task is ready, over a sound graph's successors; and what working a task changes of it.
-- Assumes nothing.
use mathlib.Core.Path.{◌≡◌, refl, sym, ◌∙◌}
use mathlib.Core.Bool.{Bool, true, false, cond, not, ◌&&◌}
use mathlib.Core.List.{List, [], ◌∷◌, Memᴰ}
use Prim.Native.Nat.{ℕ, ◌+◌, ◌≤◌, ◌<◌}
use native.Mathlib.Nat.{le_of_suc-le-suc, not-suc-le-zero}
use native.Mathlib.Omega.{arith}
use lib.Dec.{eqb, ltb}
use lib.ListN.{get_or, set, replicate}
use lib.Seq.{get_or-set_same, get_or-set_other}
use borrow.Author.Tests.{eqb-true, eqb-false, ltb-true, lt-ltb, not-true}
use Rattle.model.specs.Tests.{member, below, occurrences}
use Rattle.model.specs.Plan.{Graph, tasks, successors_of, predecessors}
use Rattle.model.specs.Machine.{ready}
use Rattle.model.specs.Statements.{SoundGraph}
use Rattle.laws.specs.Invariants.{waiting_work}
use Rattle.lists.proofs.Tests.{true_is_not_false, same_test, not_true_is_false, and_left, and_right}
use Rattle.lists.proofs.Lists.{is_member, every_at, every_from}
use Rattle.lists.proofs.Lists.{kept_from, kept_if, below_has, below_is, set_within, alike}

-- ---- predecessors

module _ (graph : Graph) where
  pub is_predecessor : (t p : ℕ) → Memᴰ p (predecessors graph t) → (p < tasks graph) × (member t (successors_of graph p) ≡ true)
  unfolding predecessors
  is_predecessor t p m =
      let r = kept_from (λ q. member t (successors_of graph q)) (below (tasks graph)) p m in
      (below_is (tasks graph) p r.0, r.1)

  pub predecessor_is : (t p : ℕ) → p < tasks graph → member t (successors_of graph p) ≡ true → Memᴰ p (predecessors graph t)
  unfolding predecessors
  predecessor_is t p l h = kept_if (λ q. member t (successors_of graph q)) (below (tasks graph)) p (below_has (tasks graph) p l) h

  -- every task before t is worked
  abbrev pub AllBefore : List Bool → ℕ → Type 0
  AllBefore worked t = (p : ℕ) → p < tasks graph → member t (successors_of graph p) ≡ true → get_or worked p false ≡ true

  pub ready_is : (worked : List Bool) (t : ℕ) → ready graph worked t ≡ true → AllBefore worked t
  unfolding ready
  ready_is worked t h p l m = every_at (λ q. get_or worked q false) (predecessors graph t) h p (predecessor_is t p l m)

  pub is_ready : (worked : List Bool) (t : ℕ) → AllBefore worked t → ready graph worked t ≡ true
  unfolding ready
  is_ready worked t h =
      every_from (λ q. get_or worked q false) (predecessors graph t) (λ p m. let r = is_predecessor t p m in h p r.0 r.1)

  -- a task with an unworked task before it is not ready
  pub not_ready : (worked : List Bool) (t p : ℕ) → p < tasks graph → member t (successors_of graph p) ≡ true →
      get_or worked p false ≡ false →
      ready graph worked t ≡ false
  not_ready worked t p l m u = not_true_is_false (ready graph worked t) (λ h. true_is_not_false (ready_is worked t h p l m) u)

  -- working a task changes the readiness of its successors only
  pub ready_elsewhere : (worked : List Bool) (t x : ℕ) → member x (successors_of graph t) ≡ false →
      ready graph (set worked t true) x ≡ ready graph worked x
  ready_elsewhere worked t x no_successor =
      same_test
      (ready graph (set worked t true) x)
      (ready graph worked x)
      (λ h. is_ready worked x (λ p l m. sym (get_or-set_other worked t p true false (apart p m)) ∙ ready_is (set worked t true) x h p l m))
      (λ h. is_ready (set worked t true) x (λ p l m. get_or-set_other worked t p true false (apart p m) ∙ ready_is worked x h p l m))
    where
      apart : (p : ℕ) → member x (successors_of graph p) ≡ true → p ≡ t → ⊥
      apart p m e = true_is_not_false m (rw e no_successor)

  -- working a task leaves a ready task ready
  pub ready_kept : (worked : List Bool) (t x : ℕ) → ready graph worked x ≡ true → ready graph (set worked t true) x ≡ true
  ready_kept worked t x h = is_ready (set worked t true) x (λ p l m. stays p (eqb p t) refl (ready_is worked x h p l m))
    where
      stays : (p : ℕ) (b : Bool) → eqb p t ≡ b → get_or worked p false ≡ true → get_or (set worked t true) p false ≡ true
      stays p true e g = rw (eqb-true p t e) (get_or-set_same worked t true false (rw (eqb-true p t e) at (set_within worked p g)))
      stays p false e g = get_or-set_other worked t p true false (eqb-false p t e) ∙ g

-- ---- the successors of a task of a sound graph

module _ {graph : Graph} (sound : SoundGraph graph) where
  pub above : (t x : ℕ) → t < tasks graph → member x (successors_of graph t) ≡ true → t < x
  above t x l m = sound.upward t x l (is_member x (successors_of graph t) m)

  pub inside : (t x : ℕ) → t < tasks graph → member x (successors_of graph t) ≡ true → x < tasks graph
  inside t x l m = sound.inside t x l (is_member x (successors_of graph t) m)

  -- each successor stands once among the successors
  pub successor_once : (t x : ℕ) → t < tasks graph → member x (successors_of graph t) ≡ true → occurrences x (successors_of graph t) ≡ 1
  unfolding occurrences member
  successor_once t x l m = go (successors_of graph t) refl m
    where
      both_of : (a b : ℕ) → successors_of graph t ≡ a ∷ b ∷ [] → (c d : Bool) → eqb x a ≡ c → eqb x b ≡ d →
          cond c true (cond d true false) ≡ true → cond c 1 0 + (cond d 1 0 + 0) ≡ 1
      both_of a b e true true p q m = absurd (sound.apart t a b l e (sym (eqb-true x a p) ∙ eqb-true x b q))
      both_of a b e true false p q m = refl
      both_of a b e false true p q m = refl
      both_of a b e false false p q m = absurd (true_is_not_false m refl)

      one_of : (a : ℕ) (c : Bool) → cond c true false ≡ true → cond c 1 0 + 0 ≡ 1
      one_of a true m = refl
      one_of a false m = absurd (true_is_not_false m refl)

      go : (xs : List ℕ) → successors_of graph t ≡ xs → member x xs ≡ true → occurrences x xs ≡ 1
      go [] e m = absurd (true_is_not_false m refl)
      go (a ∷ []) e m = one_of a (eqb x a) m
      go (a ∷ b ∷ []) e m = both_of a b e (eqb x a) (eqb x b) refl refl m
      go (a ∷ b ∷ c ∷ xs) e m = absurd (not-suc-le-zero (le_of_suc-le-suc (le_of_suc-le-suc (rw e at (sound.two_at_most t l)))))

  -- task 0 is before no task's successor: it is always ready
  pub first_ready : (worked : List Bool) → ready graph worked 0 ≡ true
  first_ready worked = is_ready graph worked 0 (λ p l m. absurd (not-suc-le-zero (above p 0 l m)))

  -- at the beginning every other task waits for a predecessor
  pub others_not_ready : (t : ℕ) → 1 ≤ t → t < tasks graph → ready graph (replicate (tasks graph) false) t ≡ false
  others_not_ready t h l = go (predecessors graph t) refl
    where
      go : (ps : List ℕ) → predecessors graph t ≡ ps → ready graph (replicate (tasks graph) false) t ≡ false
      go [] e = absurd (not-suc-le-zero (rw e at (sound.preceded t h l)))
      go (p ∷ ps) e =
          let r = is_predecessor graph t p (rw e (Memᴰ.head refl)) in
          not_ready graph (replicate (tasks graph) false) t p r.0 r.1 (alike (tasks graph) p false)

-- ---- tasks that wait for a worker

module _ (graph : Graph) (worked : List Bool) (t : ℕ) where
  pub record Waits : Type 0 where
    pub of_plan : t < tasks graph
    pub is_ready : ready graph worked t ≡ true
    pub unworked : get_or worked t false ≡ false

  pub waits : waiting_work graph worked t ≡ true → Waits
  unfolding waiting_work
  waits h =
      record {
        of_plan = ltb-true t (tasks graph) (and_left (ltb t (tasks graph)) (ready graph worked t && not (get_or worked t false)) h);
        is_ready = and_left (ready graph worked t) (not (get_or worked t false)) second;
        unworked = not-true (get_or worked t false) (and_right (ready graph worked t) (not (get_or worked t false)) second);
      }
    where
      second : (ready graph worked t && not (get_or worked t false)) ≡ true
      second = and_right (ltb t (tasks graph)) (ready graph worked t && not (get_or worked t false)) h

  pub is_waiting : Waits → waiting_work graph worked t ≡ true
  unfolding waiting_work
  is_waiting h = rw (lt-ltb t (tasks graph) h.of_plan, h.is_ready, h.unworked) refl

  pub not_waiting_unready : ready graph worked t ≡ false → waiting_work graph worked t ≡ false
  not_waiting_unready h = not_true_is_false (waiting_work graph worked t) (λ w. true_is_not_false (waits w).is_ready h)

  pub not_waiting_worked : get_or worked t false ≡ true → waiting_work graph worked t ≡ false
  not_waiting_worked h = not_true_is_false (waiting_work graph worked t) (λ w. true_is_not_false h (waits w).unworked)

  pub not_waiting_outside : tasks graph ≤ t → waiting_work graph worked t ≡ false
  not_waiting_outside h = not_true_is_false (waiting_work graph worked t) (λ w. let l = (waits w).of_plan in omega arith)
