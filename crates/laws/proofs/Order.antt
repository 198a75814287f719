-- Each task is completed at most once, no tick of it is done before all its predecessors are completed, and none after its last; the flags
-- show the tasks that the order of work ticks completes; the ticks done and those left are all ticks of the tasks; and a job shows as
-- finished exactly when all tasks are worked. By induction over the cycles: a worker works at a task that is ready and unworked.
-- Assumes nothing.
use mathlib.Core.Path.{◌≡◌, refl, sym, ap, ◌∙◌}
use mathlib.Core.Bool.{Bool, true, false, cond, not}
use mathlib.Core.List.{List, [], ◌∷◌, ◌++◌, append-nil, Memᴰ}
use Prim.Native.Nat.{ℕ, suc, ◌+◌, ◌-◌, ◌≤◌, ◌<◌}
use native.Mathlib.Nat.{not-suc-le-zero}
use native.Mathlib.Omega.{arith}
use lib.Dec.{eqb, ltb}
use lib.ListN.{length, get_or, take, length-append, get_or-append}
use lib.Seq.{get_or-set_same, get_or-set_other, get_or_at, take_at, take-append-le}
use borrow.Author.Tests.{eqb-true, eqb-false, eq-eqb, ltb-true, ltb-false}
use Rattle.model.specs.Tests.{all_set, count_set, occurrences, zeros}
use Rattle.model.specs.Plan.{Plan, tasks, predecessors, duration_of}
use Rattle.model.specs.Machine.{worked, Execution, State, allotment, finished, one_tick_less, work_cycle, mug_cycle, successful_steal}
use Rattle.model.specs.Machine.{failed_steal, Cycle, works_on, mugs_deque, steals_from, steals_nothing, cycle, cycle_of, cycles}
use Rattle.model.specs.Machine.{cycles_made, fresh, grant, status, Call}
use Rattle.model.specs.History.{History, beginning, history_grant, history_tick, tasks_in, work_order, ticks_done, run}
use Rattle.model.specs.Statements.{SoundPlan, Completes, CompletedBefore, OnceAndInOrder, FinishedExactly}
use Rattle.model.specs.Lasting.{TicksAreWork, WorkIsTasks}
use Rattle.laws.specs.Invariants.{Placed}
use Rattle.laws.specs.Meaning.{count_of, works_in}
use Rattle.lists.proofs.Lists.{all_set_at, all_set_from, set_within, count_set_none}
use Rattle.lists.proofs.Sums.{zeros_length, zeros_at, some_within, total_of_ones}
use Rattle.laws.proofs.Deques.{occurrences_append, occurs}
use Rattle.laws.proofs.Occurrences.{taken_at_most, taken_some, taken_more, last_place, length_is_sum}
use Rattle.laws.proofs.Readiness.{Waits, is_predecessor, ready_is}
use Rattle.laws.proofs.WorkTicks.{some_left}
use Rattle.laws.proofs.Placement.{front_waits, vain_placed, cycle_placed}
use Rattle.laws.proofs.Cycles.{cycle_cases, cycles_made_keep}
use Rattle.laws.proofs.Grants.{none_worked}
use Rattle.laws.proofs.Meaning.{counts_mean}
use Rattle.laws.proofs.Histories.{arranged, unstarted_cycles, left_length, flags_length}
use Rattle.laws.proofs.Accepted.{TickAccepted, tick_execution}
use Rattle.laws.proofs.Runs.{run_keeps}

-- ---- the work order

pub tasks_in_append : (xs ys : List Cycle) → tasks_in (xs ++ ys) ≡ tasks_in xs ++ tasks_in ys
unfolding tasks_in
tasks_in_append [] ys = refl
tasks_in_append (works_on t ∷ xs) ys = ap (λ (l : List ℕ). t ∷ l) (tasks_in_append xs ys)
tasks_in_append (mugs_deque d ∷ xs) ys = tasks_in_append xs ys
tasks_in_append (steals_from v ∷ xs) ys = tasks_in_append xs ys
tasks_in_append (steals_nothing ∷ xs) ys = tasks_in_append xs ys

-- as many as work cycles
works_are_tasks : (made : List Cycle) → works_in made ≡ length (tasks_in made)
unfolding tasks_in count_of
works_are_tasks [] = refl
works_are_tasks (works_on t ∷ made) = omega (arith, works_are_tasks made)
works_are_tasks (mugs_deque d ∷ made) = omega (arith, works_are_tasks made)
works_are_tasks (steals_from v ∷ made) = omega (arith, works_are_tasks made)
works_are_tasks (steals_nothing ∷ made) = omega (arith, works_are_tasks made)

record InOrder (plan : Plan) (order left : List ℕ) : Type 0 where
  -- each tick of a task stands in the order or is left
  shared : (t : ℕ) → occurrences t order + get_or left t 0 ≡ duration_of plan t
  after_all : (i p : ℕ) → i < length order → Memᴰ p (predecessors plan.graph (get_or order i 0)) → CompletedBefore plan order i p

-- one tick more of a ready and unworked task
one_more : {plan : Plan} {order left : List ℕ} (t : ℕ) → length left ≡ tasks plan.graph → Waits plan.graph (zeros left) t →
    InOrder plan order left → InOrder plan (order ++ (t ∷ [])) (one_tick_less t left)
one_more {plan} {order} {left} t all front o = record { shared = ticks_of; after_all = places }
  where
    l : t < length left
    l = rw all front.of_plan

    ticks_of : (x : ℕ) → occurrences x (order ++ (t ∷ [])) + get_or (one_tick_less t left) x 0 ≡ duration_of plan x
    ticks_of x = go (eqb x t) refl
      where
        go : (b : Bool) → eqb x t ≡ b → occurrences x (order ++ (t ∷ [])) + get_or (one_tick_less t left) x 0 ≡ duration_of plan x
        go true e =
            unfold occurrences in
            let some = some_left left t l front.unworked in
            let here : cond {A = ℕ} (eqb t t) 1 0 ≡ 1 = rw (eq-eqb t t refl) refl in
            rw (eqb-true x t e, get_or-set_same left t (get_or left t 0 - 1) 0 l)
            (omega (arith, o.shared t, occurrences_append t order (t ∷ []), here))
        go false e =
            unfold occurrences in
            let elsewhere : cond {A = ℕ} (eqb x t) 1 0 ≡ 0 = rw e refl in
            rw (get_or-set_other left t x (get_or left t 0 - 1) 0 (eqb-false x t e))
            (omega (arith, o.shared x, occurrences_append x order (t ∷ []), elsewhere))

    before : (i : ℕ) → i < length order → get_or (order ++ (t ∷ [])) i 0 ≡ get_or order i 0
    before i h = get_or-append order (t ∷ []) 0 i h

    places : (i p : ℕ) → i < length (order ++ (t ∷ [])) → Memᴰ p (predecessors plan.graph (get_or (order ++ (t ∷ [])) i 0)) →
        CompletedBefore plan (order ++ (t ∷ [])) i p
    places i p h m = go (eqb i (length order)) refl
      where
        longer : length (order ++ (t ∷ [])) ≡ length order + 1
        longer = length-append order (t ∷ [])

        go : (b : Bool) → eqb i (length order) ≡ b → CompletedBefore plan (order ++ (t ∷ [])) i p
        go true e =
            let last = eqb-true i (length order) e in
            let is_t = get_or_at order t [] 0 i (sym last) in
            let r = is_predecessor plan.graph t p (rw is_t at m) in
            let done = ready_is plan.graph (zeros left) t front.is_ready p r.0 r.1 in
            let none = eqb-true (get_or left p 0) 0 (sym (zeros_at left p (rw all r.0)) ∙ done) in
            rw (take_at order (t ∷ []) i (sym last)) (omega (arith, o.shared p))
        go false e =
            let inner : i < length order = let ne = eqb-false i (length order) e in omega (arith, longer) in
            rw (take-append-le i order (t ∷ []) (omega arith)) (o.after_all i p inner (rw (before i inner) at m))

-- ---- a cycle, a tick

module _ {plan : Plan} (sound : SoundPlan plan) where
  vain_in_order : (made : List Cycle) (e : Execution) → InOrder plan (tasks_in made) e.left →
      InOrder plan (tasks_in (made ++ (steals_nothing ∷ []))) (failed_steal e).left
  unfolding failed_steal tasks_in
  vain_in_order made e o = rw (tasks_in_append made (steals_nothing ∷ []), append-nil) o

  cycle_in_order : (made : List Cycle) (w choice : ℕ) (e : Execution) → Placed plan.graph e → InOrder plan (tasks_in made) e.left →
      InOrder plan (tasks_in (made ++ (cycle_of w choice e ∷ []))) (cycle plan.graph w choice e).left
  cycle_in_order made w choice e placed o =
      cycle_cases plan.graph w choice e
      (λ c after. InOrder plan (tasks_in (made ++ (c ∷ []))) after.left)
      (unfold work_cycle mug_cycle successful_steal tasks_in in
      record {
        working = λ t rest own.
            rw (tasks_in_append made (works_on t ∷ [])) (one_more t placed.each_left (front_waits placed w t rest own) o);
        mugging = λ oldest others own waiting. rw (tasks_in_append made (mugs_deque oldest ∷ []), append-nil) o;
        stealing = λ own none two. rw (tasks_in_append made (steals_from choice ∷ []), append-nil) o;
        failing = λ own none few. vain_in_order made e o;
      })

  record Ordered (made : List Cycle) (e : Execution) : Type 0 where
    place : Placed plan.graph e
    order : InOrder plan (tasks_in made) e.left

  cycles_in_order : (choices : List ℕ) (made : List Cycle) (e : Execution) → length choices ≤ length e.deques → Placed plan.graph e →
      InOrder plan (tasks_in made) e.left →
      InOrder plan (tasks_in (made ++ cycles_made plan.graph 0 choices e)) (cycles plan.graph 0 choices e).left
  cycles_in_order choices made e h placed o =
      (cycles_made_keep plan.graph Ordered
      (λ made w choice e l q.
      record { place = cycle_placed sound.graph q.place w choice l; order = cycle_in_order made w choice e q.place q.order })
      (λ made e q. record { place = vain_placed q.place; order = vain_in_order made e q.order })
      choices
      made
      0
      e
      (omega arith)
      (record { place = placed; order = o })
      ).order

  -- ---- a history

  abbrev OrderKept : History → Type 0
  OrderKept h = InOrder plan (work_order h) h.state.execution.left

  order_at_first : OrderKept (beginning plan)
  unfolding beginning fresh tasks_in occurrences
  order_at_first = record { shared = λ t. omega arith; after_all = λ i p l m. absurd (not-suc-le-zero l) }

  order_kept : (done : List Call) (choices : List ℕ) → TickAccepted choices (run plan done).state → OrderKept (run plan done) →
      OrderKept (history_tick plan choices (run plan done))
  unfolding history_tick
  order_kept done choices t o = rw (tick_execution plan choices (run plan done).state) (go (run plan done).state.started refl)
    where
      e : Execution
      e = (run plan done).state.execution

      go : (b : Bool) → (run plan done).state.started ≡ b →
          InOrder plan (tasks_in ((run plan done).made ++ cycles_made plan.graph 0 choices e)) (cycles plan.graph 0 choices e).left
      go true on = cycles_in_order choices (run plan done).made e (omega (arith, t.one_each)) ((arranged sound done).after on) o
      go false off =
          let same = unstarted_cycles e ((arranged sound done).before off) choices t.one_each in
          rw (same.0, same.1, append-nil) o

  in_order : (calls : List Call) → OrderKept (run plan calls)
  unfolding history_grant grant
  in_order = run_keeps plan OrderKept order_at_first (λ h note o. o) (λ done g t o. o) order_kept

  -- a task of the order is one of the plan
  of_plan : (calls : List Call) (t : ℕ) → 1 ≤ ticks_done (run plan calls) t → t < tasks plan.graph
  of_plan calls t h = rw sound.each_lasts at (some_within plan.durations t (omega (arith, (in_order calls).shared t)))

  pub once_and_in_order : (calls : List Call) → OnceAndInOrder plan (run plan calls)
  once_and_in_order calls =
      record {
        none_after = last_one;
        once = λ i j p q e. let a = last_one i j p q.0 (sym e) in let b = last_one j i q p.0 e in omega arith;
        in_order = o.after_all;
        marked = λ t. (last_tick t, λ r. is_worked t r.0 r.1 r.2);
      }
    where
      order : List ℕ
      order = work_order (run plan calls)

      left : List ℕ
      left = (run plan calls).state.execution.left

      o : InOrder plan order left
      o = in_order calls

      all : length left ≡ tasks plan.graph
      all = left_length (arranged sound calls) sound

      last_one : (i j : ℕ) → Completes plan order i → j < length order → get_or order j 0 ≡ get_or order i 0 → j ≤ i
      last_one i j p l e = go (ltb i j) refl
        where
          go : (b : Bool) → ltb i j ≡ b → j ≤ i
          go true b =
              let more = taken_more (get_or order i 0) order i j (ltb-true i j b) l e in
              absurd (omega (arith, p.1, taken_at_most (get_or order i 0) (suc j) order, o.shared (get_or order i 0)))
          go false b = ltb-false i j b

      last_tick : (t : ℕ) → get_or (zeros left) t false ≡ true → (i : ℕ) × Completes plan order i × (get_or order i 0 ≡ t)
      last_tick t h =
          let l : t < length left = rw (zeros_length left) at (set_within (zeros left) t h) in
          let none = eqb-true (get_or left t 0) 0 (sym (zeros_at left t l) ∙ h) in
          let lasts = sound.lasting t (rw all at l) in
          let r = last_place t order (omega (arith, o.shared t)) in
          (r.0, (r.1, rw r.2 (omega (arith, r.3, o.shared t))), r.2)

      is_worked : (t i : ℕ) → Completes plan order i → get_or order i 0 ≡ t → get_or (zeros left) t false ≡ true
      is_worked t i c e =
          let full : occurrences t (take (suc i) order) ≡ duration_of plan t = rw e at c.1 in
          let some = taken_some t order i c.0 e in
          let l : t < length left = rw all (of_plan calls t (omega (arith, taken_at_most t (suc i) order))) in
          zeros_at left t l ∙ eq-eqb (get_or left t 0) 0 (omega (arith, o.shared t, taken_at_most t (suc i) order))

  pub ticks_are_work : (calls : List Call) → TicksAreWork plan (run plan calls)
  ticks_are_work calls =
      let o = in_order calls in
      record {
        at_most = λ t. omega (arith, o.shared t);
        others_left = o.shared;
        work_is_ticks =
            (counts_mean plan calls).work
            ∙ works_are_tasks (run plan calls).made
            ∙ length_is_sum (tasks plan.graph) (work_order (run plan calls))
            (λ x m. of_plan calls x (occurs x (work_order (run plan calls)) m));
      }

  pub work_is_tasks : (calls : List Call) → WorkIsTasks plan (run plan calls)
  work_is_tasks calls one =
      let a = arranged sound calls in
      let left = (run plan calls).state.execution.left in
      let none : count_set (zeros plan.durations) ≡ 0 = ap count_set (none_worked sound) ∙ count_set_none (tasks plan.graph) in
      omega (
        arith,
        a.tally.work_is_ticks,
        total_of_ones plan.durations one,
        total_of_ones left (λ t. omega (arith, (in_order calls).shared t, one t)),
        left_length a sound,
        sound.each_lasts,
      )

  pub finished_exactly : (calls : List Call) → FinishedExactly plan (run plan calls)
  unfolding status finished
  finished_exactly calls = (
    λ h t l. all_set_at flags (shown (all_set flags) refl h) t (rw each l),
    λ all. rw (all_set_from flags (λ t l. all t (rw each at l))) refl,
  )
    where
      s : State
      s = (run plan calls).state

      flags : List Bool
      flags = worked s.execution

      each : length flags ≡ tasks plan.graph
      each = flags_length (arranged sound calls) sound

      other : (a b : Bool) → ◌≡◌ {A = ℕ} (cond (not a) 0 (cond b 2 1)) 3 → ⊥
      other true true h = omega arith
      other true false h = omega arith
      other false b h = omega arith

      shown : (b : Bool) → all_set flags ≡ b → ◌≡◌ {A = ℕ} (cond b 3 (cond (not s.started) 0 (cond (eqb (allotment s) 0) 2 1))) 3 →
          all_set flags ≡ true
      shown true e h = e
      shown false e h = absurd (other s.started (eqb (allotment s) 0) h)
