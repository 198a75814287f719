-- Request U12: after any list of calls, and inside a tick after every worker's cycle, the deques in use number at most the largest count
-- granted so far, which is at most 64 and is that of the accepted grants and openings; and in them each task stands at most once
-- (`lines_bounded`).
-- A cycle keeps the limit (Bounds), and so does a grant, which raises the largest count to its own (Grants).
-- Assumes nothing.
use mathlib.Core.Path.{◌≡◌, refl, ap, ◌∙◌}
use mathlib.Core.Bool.{Bool, true, false}
use mathlib.Core.List.Memᴰ
use mathlib.Core.List.{List, [], ◌∷◌, ◌++◌, flat_map}
use Prim.Native.Nat.{ℕ, zero, suc, ◌+◌, ◌≤◌, max}
use native.Mathlib.Nat.{zero-add}
use native.Mathlib.Omega.{arith}
use lib.ListN.{length, take, length-take}
use lib.Seq.{take_all}
use Rattle.model.specs.Tests.{occurrences}
use Rattle.model.specs.Questions.{Answer, accepted, refused, by_answer}
use Rattle.model.specs.Plan.{Plan}
use Rattle.model.specs.Machine.{Execution, State, allotment, idle, Note, no_offer, offered, fresh, grant, cycles, ticked, closed}
use Rattle.model.specs.Machine.{most_workers, Call, grants, ticks, offers, opens, withdraws, call_answer, step}
use Rattle.model.specs.History.{ClosedQuantum, CurrentQuantum, none, begun_with, History, beginning, history_grant, history_tick, verdict}
use Rattle.model.specs.History.{history_open, history_moved, history_step, run, run_from}
use Rattle.model.specs.Statements.{SoundPlan}
use Rattle.model.specs.WholeTicks.{accepted_calls, after_workers}
use Rattle.model.specs.Lines.{busy, TasksHeld, granted_in, largest_closed, largest_granted, largest_count, TurnByTurn, LinesBounded}
use Rattle.laws.specs.Invariants.{Bounded}
use Rattle.laws.specs.Reached.{Unstarted, Arranged}
use Rattle.laws.proofs.Placement.{cycles_placed}
use Rattle.laws.proofs.Bounds.{bounded_more, cycle_lines, cycles_bounded, tasks_held}
use Rattle.laws.proofs.Grants.{grant_bounded, first_grant_bounded, no_grant_unstarted}
use Rattle.laws.proofs.Grants.{grant_lines, grant_of_0_lines, first_grant_lines}
use Rattle.laws.proofs.Accepted.{grant_accepted, open_accepted, not_idle, tick_execution}
use Rattle.laws.proofs.Runs.{history_noted, history_ticked, history_closed, tick_moves, offer_waits, run_snoc, by_moves, step_state}
use Rattle.laws.proofs.WholeTicks.{one_more, one_each}
use Rattle.laws.proofs.Histories.{fresh_arranged, arranged, unstarted_cycles}
use Rattle.laws.proofs.Measures.{measured}

-- ---- a grant

unstarted_bounded : {plan : Plan} {e : Execution} (most : ℕ) → Unstarted plan e → Bounded most e
unfolding busy
unstarted_bounded {plan} {e} most u =
    let a : length e.deques ≡ 0 = ap length u.no_deques in
    let b : busy e.deques ≡ 0 = ap busy u.no_deques in
    let c : length e.muggable ≡ 0 = ap length u.no_muggable in
    record { workers = omega arith; lines = omega arith }

arranged_grant_bounded : {plan : Plan} {s : State} {most : ℕ} → Arranged plan s → Bounded most s.execution → (g : ℕ) →
    Bounded (max most g) (grant g s).execution
arranged_grant_bounded {plan} {s} {most} a b g = go s.started refl g
  where
    go : (on : Bool) → s.started ≡ on → (g : ℕ) → Bounded (max most g) (grant g s).execution
    go true on g = grant_bounded s on g b
    go false off zero = unstarted_bounded (max most 0) (no_grant_unstarted s off (a.before off))
    go false off (suc n) = bounded_more (omega arith) (first_grant_bounded s off (a.before off) (suc n) (omega arith))

-- ---- the largest count, as the history keeps it

largest_append : (xs ys : List ClosedQuantum) → largest_closed (xs ++ ys) ≡ max (largest_closed xs) (largest_closed ys)
unfolding largest_closed
largest_append [] ys = omega arith
largest_append (q ∷ xs) ys = omega (arith, largest_append xs ys)

largest_verdict : (plan : Plan) (current : CurrentQuantum) (usage : ℕ) → largest_closed (verdict plan current usage) ≡ granted_in current
unfolding largest_closed
largest_verdict plan none usage = refl
largest_verdict plan (begun_with wish granted) usage = omega arith

-- a quantum's end grants nothing
closed_largest : (plan : Plan) (h : History) → largest_granted (history_closed plan h) ≡ largest_granted h
unfolding largest_granted
closed_largest plan h =
    let usage = h.state.execution.counts.usage in
    omega (
      arith,
      largest_append h.closed_quanta (verdict plan h.current usage),
      largest_verdict plan h.current usage,
    )

record Largest (h : History) : Type 0 where
  -- while no quantum is open, every count is that of a closed one
  none_current : h.state.quantum ≡ idle → granted_in h.current ≡ 0
  bounded : Bounded (largest_granted h) h.state.execution
  few : largest_granted h ≤ most_workers

module _ {plan : Plan} (sound : SoundPlan plan) where
  largest : (calls : List Call) → Largest (run plan calls)
  largest =
      by_moves plan Largest
      (unfold beginning fresh largest_granted largest_closed in
      record {
        none_current = λ p. refl;
        bounded = unstarted_bounded 0 ((fresh_arranged sound).before refl);
        few = omega arith;
      })
      (λ h note l. unfold largest_granted in record { none_current = l.none_current; bounded = l.bounded; few = l.few })
      (λ done g t l. unfold history_grant largest_granted grant in
      let z = l.none_current t.idle_quantum in
      record {
        none_current = λ p. absurd (not_idle p);
        bounded = bounded_more (omega arith) (arranged_grant_bounded (arranged sound done) l.bounded g);
        few = omega (arith, l.few, t.wanted, (measured sound done).wanted);
      })
      (λ done choices t l. unfold ticked largest_granted in
      record {
        none_current = λ p. absurd (not_idle p);
        bounded = cycles_bounded plan.graph l.bounded 0 choices (omega (arith, t.one_each));
        few = l.few;
      })
      (λ h closing l.
      let same = closed_largest plan h in
      unfold closed in
      record { none_current = λ p. refl; bounded = bounded_more (omega arith) l.bounded; few = omega (arith, l.few) })

-- ---- .. and as the calls say it

-- while no quantum is open, a grant raises the largest count to its own
granted_largest : (h : History) → granted_in h.current ≡ 0 → (g : ℕ) →
    largest_granted (history_grant g h) ≡ max (largest_granted h) (max g 0)
unfolding largest_granted history_grant
granted_largest h z g = omega arith

-- a tick grants nothing, and neither does another note
ticked_largest : (plan : Plan) (choices : List ℕ) (h : History) → largest_granted (history_tick plan choices h) ≡ max (largest_granted h) 0
ticked_largest plan choices h =
    tick_moves plan (λ (after : History). largest_granted after ≡ max (largest_granted h) 0) choices h
    (unfold largest_granted in omega arith)
    (λ closing. closed_largest plan (history_ticked plan choices h) ∙ (unfold largest_granted in omega arith))

noted_largest : (h : History) (note : Note) → largest_granted (history_noted note h) ≡ max (largest_granted h) 0
unfolding largest_granted
noted_largest h note = omega arith

count_append : (xs ys : List Call) → largest_count (xs ++ ys) ≡ max (largest_count xs) (largest_count ys)
unfolding largest_count
count_append [] ys = omega arith
count_append (grants g ∷ xs) ys = omega (arith, count_append xs ys)
count_append (ticks choices ∷ xs) ys = count_append xs ys
count_append (offers g ∷ xs) ys = count_append xs ys
count_append (opens c ∷ xs) ys = omega (arith, count_append xs ys)
count_append (withdraws ∷ xs) ys = count_append xs ys

module _ {plan : Plan} (sound : SoundPlan plan) where
  step_largest : (done : List Call) (call : Call) →
      largest_granted (history_step plan call (run plan done))
      ≡ max (largest_granted (run plan done)) (largest_count (by_answer (call_answer call (run plan done).state) (call ∷ []) []))
  unfolding history_step largest_count history_open
  step_largest done call = go call (call_answer call (run plan done).state) refl
    where
      go : (c : Call) (a : Answer) → call_answer c (run plan done).state ≡ a →
          largest_granted (by_answer a (history_moved plan c (run plan done)) (run plan done))
          ≡ max (largest_granted (run plan done)) (largest_count (by_answer a (c ∷ []) []))
      go c (refused n) is = omega arith
      go (grants g) accepted is =
          granted_largest (run plan done) ((largest sound done).none_current (grant_accepted g (run plan done).state is).idle_quantum) g
      go (ticks choices) accepted is = ticked_largest plan choices (run plan done)
      go (offers g) accepted is = noted_largest (run plan done) (offered g)
      go (opens c) accepted is =
          let offer = open_accepted c (run plan done).state is in
          let idle_now = (offer_waits plan done offer.0 offer.1).idle_quantum in
          granted_largest (history_noted no_offer (run plan done)) ((largest sound done).none_current idle_now) c
          ∙ ap (λ (n : ℕ). max n (max c 0)) (noted_largest (run plan done) no_offer ∙ omega arith)
      go withdraws accepted is = noted_largest (run plan done) no_offer

  onward_largest : (done calls : List Call) →
      largest_granted (run_from plan (run plan done) calls)
      ≡ max (largest_granted (run plan done)) (largest_count (accepted_calls plan (run plan done).state calls))
  unfolding run_from accepted_calls largest_count
  onward_largest done [] = omega arith
  onward_largest done (call ∷ calls) =
      let before = (run plan done).state in
      let now : List Call = by_answer (call_answer call before) (call ∷ []) [] in
      let later : List Call = accepted_calls plan (step plan call before) calls in
      let rest = onward_largest (done ++ call ∷ []) calls in
      let same = ap (λ (s : State). largest_count (accepted_calls plan s calls)) (step_state plan call (run plan done)) in
      (rw (run_snoc plan done call) at rest) ∙ omega (arith, same, step_largest done call, count_append now later)

  largest_called : (calls : List Call) → largest_granted (run plan calls) ≡ largest_count (accepted_calls plan (fresh plan) calls)
  unfolding run run_from beginning largest_granted largest_closed
  largest_called calls = onward_largest [] calls ∙ omega arith

-- ---- inside a tick

module _ (plan : Plan) (s : State) (choices : List ℕ) (answer : call_answer (ticks choices) s ≡ accepted) where
  turn_by_turn : TurnByTurn plan s choices
  unfolding cycles step
  turn_by_turn =
      let granted = one_each plan s choices answer in
      record {
        before_all = refl;
        one_more = λ w l. one_more plan.graph choices 0 w s.execution (omega (arith, granted)) ∙ rw zero-add refl;
        after_all = rw (answer, tick_execution plan choices s, take_all (allotment s) choices (omega (arith, granted))) refl;
      }

  -- the first w workers are among the granted ones
  first_ones : (w : ℕ) → 0 + length (take w choices) ≤ length s.execution.deques
  first_ones w = omega (arith, length-take w choices, one_each plan s choices answer)

  bounded_inside : {most : ℕ} → Bounded most s.execution → (w : ℕ) → Bounded most (after_workers plan s choices w)
  bounded_inside b w = cycles_bounded plan.graph b 0 (take w choices) (first_ones w)

-- ---- the tasks

unstarted_tasks : {plan : Plan} {e : Execution} → Unstarted plan e → TasksHeld plan.graph e
unfolding flat_map occurrences
unstarted_tasks u =
    rw (u.no_deques, u.no_muggable)
    (record { of_plan = λ t m. absurd (Memᴰ.not-nil m); once = λ t. omega arith; at_most = omega arith })

module _ {plan : Plan} (sound : SoundPlan plan) (s : State) (a : Arranged plan s) where
  arranged_tasks : TasksHeld plan.graph s.execution
  arranged_tasks = go s.started refl
    where
      go : (b : Bool) → s.started ≡ b → TasksHeld plan.graph s.execution
      go true on = tasks_held (a.after on)
      go false off = unstarted_tasks (a.before off)

  tasks_inside : (choices : List ℕ) → call_answer (ticks choices) s ≡ accepted → (w : ℕ) →
      TasksHeld plan.graph (after_workers plan s choices w)
  tasks_inside choices answer w = go s.started refl
    where
      go : (b : Bool) → s.started ≡ b → TasksHeld plan.graph (after_workers plan s choices w)
      go true on = tasks_held (cycles_placed sound.graph (a.after on) 0 (take w choices) (first_ones plan s choices answer w))
      go false off =
          let u = a.before off in
          let none : length s.execution.deques ≡ 0 = ap length u.no_deques in
          let nobody = unstarted_cycles s.execution u (take w choices) (omega (arith, first_ones plan s choices answer w)) in
          rw nobody.0 (unstarted_tasks u)

-- ---- a list of calls

pub lines_bounded : {plan : Plan} → SoundPlan plan → (calls : List Call) → LinesBounded plan calls
lines_bounded {plan} sound calls =
    let s = (run plan calls).state in
    let l = largest sound calls in
    let a = arranged sound calls in
    record {
      after_calls = l.bounded.lines;
      after_cycles = λ choices answer w. (bounded_inside plan s choices answer l.bounded w).lines;
      turn_by_turn = λ choices answer. turn_by_turn plan s choices answer;
      as_called = largest_called sound calls;
      present_included = l.bounded.workers;
      at_most_64 = l.few;
      tasks_after_calls = arranged_tasks sound s a;
      tasks_after_cycles = λ choices answer w. tasks_inside sound s a choices answer w;
      moves =
          record {
            by_cycle = cycle_lines plan.graph;
            by_grant = λ g before on. grant_lines before on g;
            by_grant_of_0 = grant_of_0_lines;
            by_first_grant = first_grant_lines;
          };
    }
