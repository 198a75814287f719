-- A grant moves deques and loses none: the tasks stay placed, the first grant above 0 puts task 0 into worker 0's deque, and the deques
-- number at most the largest count granted.
-- Assumes nothing.
use mathlib.Core.Path.{◌≡◌, refl, sym, ap, ◌∙◌}
use mathlib.Core.Bool.{Bool, true, false, cond}
use mathlib.Core.List.{List, [], ◌∷◌, append-nil}
use Prim.Native.Nat.{ℕ, zero, suc, ◌+◌, ◌-◌, ◌≤◌, max}
use native.Mathlib.Nat.{not-suc-le-zero, sub-zero, zero-sub}
use native.Mathlib.Omega.{arith}
use lib.Dec.{eqb, ltb}
use lib.ListN.{length, take, drop, replicate, length-append, length-take, length-replicate, length-reverse}
use borrow.Author.Tests.{ltb-true, ltb-false, ne_eqb}
use Rattle.model.specs.Tests.{every, keep, occurrences, zeros}
use Rattle.model.specs.Plan.{Plan, Graph, tasks}
use Rattle.model.specs.Machine.{State, allotment, kept_deques, withdrawn_deques, first_task_placed, place_first_task, grant}
use Rattle.model.specs.Statements.{SoundPlan, SoundGraph}
use Rattle.model.specs.Lines.{busy, deques_in_use}
use Rattle.laws.specs.Invariants.{in_deques, waiting_work, Placed, Bounded}
use Rattle.laws.specs.Reached.{Unstarted}
use Rattle.lists.proofs.Tests.{true_is_not_false}
use Rattle.laws.proofs.Deques.{non_empty, in_deques_append, in_deques_reverse, in_deques_split, in_deques_non_empty, in_deques_empty}
use Rattle.lists.proofs.Lists.{every_append, every_reverse, kept_passes, alike}
use Rattle.lists.proofs.Sums.{zeros_none}
use Rattle.laws.proofs.Deques.{busy_append, busy_split, busy_non_empty, busy_empty, busy_at_most}
use Rattle.laws.proofs.Withdrawals.{none_withdrawn}
use Rattle.laws.proofs.Readiness.{is_waiting, first_ready, others_not_ready, not_waiting_unready, not_waiting_outside}

-- ---- kept and withdrawn deques

module _ (g : ℕ) (ds : List (List ℕ)) where
  new_deques : List (List ℕ)
  new_deques = replicate (g - length ds) []

  pub kept_length : length (kept_deques g ds) ≡ g
  unfolding kept_deques new_deques
  kept_length =
      let none : List ℕ = [] in
      omega (arith, length-append (take g ds) new_deques, length-take g ds, length-replicate (g - length ds) none)

  pub kept_and_withdrawn : (t : ℕ) → in_deques t (kept_deques g ds) + in_deques t (withdrawn_deques g ds) ≡ in_deques t ds
  unfolding kept_deques withdrawn_deques new_deques
  kept_and_withdrawn t =
      omega (
        arith,
        in_deques_append t (take g ds) new_deques,
        in_deques_empty t (g - length ds),
        in_deques_reverse t (keep non_empty (drop g ds)),
        in_deques_non_empty t (drop g ds),
        in_deques_split t g ds,
      )

  pub kept_and_withdrawn_busy : busy (kept_deques g ds) + length (withdrawn_deques g ds) ≡ busy ds
  unfolding kept_deques withdrawn_deques new_deques
  kept_and_withdrawn_busy =
      omega (
        arith,
        busy_append (take g ds) new_deques,
        busy_empty (g - length ds),
        length-reverse (keep non_empty (drop g ds)),
        busy_non_empty (drop g ds),
        busy_split g ds,
      )

  pub withdrawn_filled : every non_empty (withdrawn_deques g ds) ≡ true
  unfolding withdrawn_deques
  withdrawn_filled = every_reverse non_empty (keep non_empty (drop g ds)) (kept_passes non_empty (drop g ds))

-- the first workers' deques are empty
first_deques : (n : ℕ) → kept_deques (suc n) [] ≡ [] ∷ replicate n []
unfolding kept_deques
first_deques n = rw (sub-zero (suc n)) refl

place_first_length : (ds : List (List ℕ)) → length (place_first_task ds) ≡ length ds
place_first_length [] = refl
place_first_length (d ∷ ds) = refl

-- ---- the allotment is the count granted

pub grant_allotment : (g : ℕ) (s : State) → allotment (grant g s) ≡ g
unfolding grant first_task_placed
grant_allotment g s = go s.started
  where
    go : (b : Bool) → length (cond b (kept_deques g s.execution.deques) (place_first_task (kept_deques g s.execution.deques))) ≡ g
    go true = kept_length g s.execution.deques
    go false = place_first_length (kept_deques g s.execution.deques) ∙ kept_length g s.execution.deques

-- a grant withdraws no more workers than there were
pub withdrawn_at_most : (g : ℕ) (s : State) → length (grant g s).execution.muggable ≤ length s.execution.muggable + allotment s
unfolding grant
withdrawn_at_most g s =
    omega (
      arith,
      length-append s.execution.muggable (withdrawn_deques g s.execution.deques),
      kept_and_withdrawn_busy g s.execution.deques,
      busy_at_most s.execution.deques,
    )

-- ---- a grant to a job that has started

module _ (s : State) (on : s.started ≡ true) (g : ℕ) where
  pub grant_placed : {graph : Graph} → Placed graph s.execution → Placed graph (grant g s).execution
  unfolding grant first_task_placed
  grant_placed placed =
      rw on
      (record {
        each_left = placed.each_left;
        once = λ t.
            omega (
              arith,
              in_deques_append t s.execution.muggable (withdrawn_deques g s.execution.deques),
              kept_and_withdrawn g s.execution.deques t,
              placed.once t,
            );
        filled =
            every_append non_empty s.execution.muggable (withdrawn_deques g s.execution.deques)
            placed.filled
            (withdrawn_filled g s.execution.deques);
        ordered = placed.ordered;
      })

  -- a withdrawn line becomes an orphan, and a new one is empty
  pub grant_lines : deques_in_use (grant g s).execution ≡ deques_in_use s.execution
  unfolding grant first_task_placed
  grant_lines =
      rw on
      (omega (
        arith,
        length-append s.execution.muggable (withdrawn_deques g s.execution.deques),
        kept_and_withdrawn_busy g s.execution.deques,
      ))

  pub grant_bounded : {most : ℕ} → Bounded most s.execution → Bounded (max most g) (grant g s).execution
  grant_bounded b = record { workers = omega (arith, grant_allotment g s); lines = omega (arith, grant_lines, b.lines) }

-- ---- a grant of 0, started or not

-- no deque is kept in which task 0 could be placed
none_kept : (started : Bool) (ds : List (List ℕ)) → first_task_placed started (kept_deques 0 ds) ≡ kept_deques 0 ds
unfolding first_task_placed kept_deques
none_kept true ds = refl
none_kept false ds = rw (zero-sub (length ds)) refl

pub grant_of_0_lines : (s : State) → deques_in_use (grant 0 s).execution ≡ deques_in_use s.execution
unfolding grant
grant_of_0_lines s =
    let ds = s.execution.deques in
    omega (
      arith,
      ap busy (none_kept s.started ds),
      length-append s.execution.muggable (withdrawn_deques 0 ds),
      kept_and_withdrawn_busy 0 ds,
    )

-- ---- the first grant above 0

-- at the beginning no task is worked: each has a tick left
pub none_worked : {plan : Plan} → SoundPlan plan → zeros plan.durations ≡ replicate (tasks plan.graph) false
none_worked {plan} sound =
    zeros_none plan.durations (λ t l. sound.lasting t (rw sound.each_lasts at l))
    ∙ ap (λ (n : ℕ). replicate n false) sound.each_lasts

-- .. and task 0 alone is ready
first_waiting : {graph : Graph} → SoundGraph graph → (t : ℕ) → waiting_work graph (replicate (tasks graph) false) t ≡ eqb t 0
first_waiting {graph} sound zero =
    is_waiting graph (replicate (tasks graph) false) 0
    (record {
      of_plan = sound.some_task;
      is_ready = first_ready sound (replicate (tasks graph) false);
      unworked = alike (tasks graph) 0 false;
    })
first_waiting {graph} sound (suc t) = go (ltb (suc t) (tasks graph)) refl ∙ sym (ne_eqb (suc t) 0 (omega arith))
  where
    go : (b : Bool) → ltb (suc t) (tasks graph) ≡ b → waiting_work graph (replicate (tasks graph) false) (suc t) ≡ false
    go true h =
        not_waiting_unready graph (replicate (tasks graph) false) (suc t)
        (others_not_ready sound (suc t) (omega arith) (ltb-true (suc t) (tasks graph) h))
    go false h = not_waiting_outside graph (replicate (tasks graph) false) (suc t) (ltb-false (suc t) (tasks graph) h)

-- .. and its deque is the only one
pub first_grant_lines : (g : ℕ) (s : State) → s.started ≡ false → s.execution.deques ≡ [] → 1 ≤ g →
    deques_in_use (grant g s).execution ≡ suc (deques_in_use s.execution)
unfolding grant first_task_placed busy
first_grant_lines zero s off none l = absurd (not-suc-le-zero l)
first_grant_lines (suc n) s off none l =
    rw (off, none, first_deques n, none_withdrawn (suc n) [] (omega arith), append-nil) (omega (arith, busy_empty n))

module _ {plan : Plan} (s : State) (off : s.started ≡ false) (u : Unstarted plan s.execution) where
  pub first_grant_placed : SoundPlan plan → (g : ℕ) → 1 ≤ g → Placed plan.graph (grant g s).execution
  unfolding grant first_task_placed every in_deques occurrences
  first_grant_placed sound zero l = absurd (not-suc-le-zero l)
  first_grant_placed sound (suc n) l =
      rw (off, u.no_deques, u.no_muggable, u.none_begun, first_deques n, none_withdrawn (suc n) [] (omega arith))
      (record {
        each_left = sound.each_lasts;
        once = λ t.
            rw (none_worked sound)
            (omega (arith, in_deques_empty t n, ap (λ (b : Bool). cond {A = ℕ} b 1 0) (first_waiting sound.graph t)));
        filled = refl;
        ordered = rw (none_worked sound) (λ t h. absurd (true_is_not_false h (alike (tasks plan.graph) t false)));
      })

  pub first_grant_bounded : (g : ℕ) → 1 ≤ g → Bounded g (grant g s).execution
  unfolding busy
  first_grant_bounded g l =
      let none_before : deques_in_use s.execution ≡ 0 = rw (u.no_deques, u.no_muggable) refl in
      record {
        workers = omega (arith, grant_allotment g s);
        lines = omega (arith, first_grant_lines g s off u.no_deques l);
      }

  -- a grant of 0 before it leaves nothing anywhere
  pub no_grant_unstarted : Unstarted plan (grant 0 s).execution
  unfolding grant first_task_placed kept_deques
  no_grant_unstarted =
      rw (off, u.no_deques, u.no_muggable, u.none_begun, none_withdrawn 0 [] (omega arith))
      (record { none_begun = refl; no_deques = refl; no_muggable = refl })
