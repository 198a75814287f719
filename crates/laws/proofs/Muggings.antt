-- Request U8: the muggable deques wait in turn. A grant's deques join the end, the highest worker's first, a mug cycle takes the oldest one
-- whole, and no other cycle touches them; so what was mugged and then what waits is what all grants withdrew.
-- Assumes nothing.
use mathlib.Core.Path.{◌≡◌, refl, sym, ap, ◌∙◌}
use mathlib.Core.List.{List, [], ◌∷◌, ◌++◌, append-nil, append_assoc}
use Prim.Native.Nat.{ℕ, ◌≤◌, ◌<◌}
use native.Mathlib.Nat.{not-suc-le-zero}
use native.Mathlib.Omega.{arith}
use lib.ListN.{length}
use lib.Seq.{get_or-set_same}
use Rattle.model.specs.Questions.{Answer, accepted, refused, by_answer}
use Rattle.model.specs.Plan.{Plan, Graph}
use Rattle.model.specs.Machine.{Execution, deque_of, fresh, grant, withdrawn_deques, work_cycle, mug_cycle, successful_steal, failed_steal}
use Rattle.model.specs.Machine.{Cycle, works_on, mugs_deque, steals_from, steals_nothing, cycle, cycle_of, cycles_made, tick}
use Rattle.model.specs.Machine.{Call, grants, ticks, offers, opens, withdraws, call_answer, step}
use Rattle.model.specs.History.{History, beginning, history_grant, history_tick, history_open, history_moved, history_step, run, run_from}
use Rattle.model.specs.Muggings.{withdrawn_by, all_withdrawn, mugged_in, MuggedInTurn}
use Rattle.laws.proofs.Withdrawals.{highest_first}
use Rattle.laws.proofs.Cycles.{cycle_cases, cycles_made_keep, mugs}
use Rattle.laws.proofs.Accepted.{tick_execution, tick_accepted}
use Rattle.laws.proofs.Runs.{step_state}

-- ---- a mug cycle

oldest_whole : (graph : Graph) (e : Execution) (w choice : ℕ) → w < length e.deques → deque_of e w ≡ [] → 1 ≤ length e.muggable →
    deque_of (cycle graph w choice e) w ∷ (cycle graph w choice e).muggable ≡ e.muggable
unfolding mug_cycle
oldest_whole graph e w choice granted own some = go e.muggable refl
  where
    go : (waiting : List (List ℕ)) → e.muggable ≡ waiting →
        deque_of (cycle graph w choice e) w ∷ (cycle graph w choice e).muggable ≡ e.muggable
    go [] none = absurd (not-suc-le-zero (rw none at some))
    go (oldest ∷ others) is =
        rw (mugs graph w choice e oldest others own is, is, get_or-set_same e.deques w oldest [] granted) refl

-- ---- what cycles mug

mugged_in_append : (xs ys : List Cycle) → mugged_in (xs ++ ys) ≡ mugged_in xs ++ mugged_in ys
unfolding mugged_in
mugged_in_append [] ys = refl
mugged_in_append (works_on t ∷ xs) ys = mugged_in_append xs ys
mugged_in_append (mugs_deque d ∷ xs) ys = ap (λ (l : List (List ℕ)). d ∷ l) (mugged_in_append xs ys)
mugged_in_append (steals_from v ∷ xs) ys = mugged_in_append xs ys
mugged_in_append (steals_nothing ∷ xs) ys = mugged_in_append xs ys

-- what was mugged, and then what waits
abbrev in_order : List Cycle → Execution → List (List ℕ)
in_order made e = mugged_in made ++ e.muggable

cycle_in_order : (graph : Graph) (w choice : ℕ) (e : Execution) → in_order (cycle_of w choice e ∷ []) (cycle graph w choice e) ≡ e.muggable
unfolding mugged_in work_cycle mug_cycle successful_steal failed_steal
cycle_in_order graph w choice e =
    cycle_cases graph w choice e
    (λ c after. in_order (c ∷ []) after ≡ e.muggable)
    (record {
      working = λ t rest own. refl;
      mugging = λ oldest others own waiting. rw waiting refl;
      stealing = λ own none two. refl;
      failing = λ own none few. refl;
    })

-- what each cycle of a tick adds
cycle_added : (made : List Cycle) (c : Cycle) (after : Execution) →
    in_order (made ++ (c ∷ [])) after ≡ mugged_in made ++ in_order (c ∷ []) after
cycle_added made c after =
    ap (λ (l : List (List ℕ)). l ++ after.muggable) (mugged_in_append made (c ∷ []))
    ∙ append_assoc (mugged_in made) (mugged_in (c ∷ [])) after.muggable

tick_in_order : (plan : Plan) (choices : List ℕ) (h : History) → call_answer (ticks choices) h.state ≡ accepted →
    in_order (h.made ++ cycles_made plan.graph 0 choices h.state.execution) (tick plan choices h.state).execution
    ≡ in_order h.made h.state.execution
unfolding mugged_in failed_steal
tick_in_order plan choices h yes_answer =
    rw (tick_execution plan choices h.state)
    (cycles_made_keep plan.graph
    (λ made after. in_order made after ≡ in_order h.made h.state.execution)
    (λ made w choice e inside p.
    cycle_added made (cycle_of w choice e) (cycle plan.graph w choice e)
    ∙ ap (λ (l : List (List ℕ)). mugged_in made ++ l) (cycle_in_order plan.graph w choice e)
    ∙ p)
    (λ made e p. cycle_added made steals_nothing (failed_steal e) ∙ p)
    choices h.made 0 h.state.execution
    (omega (arith, (tick_accepted choices h.state yes_answer).one_each)) refl)

-- ---- a call, and a list of calls

abbrev so_far : History → List (List ℕ)
so_far h = in_order h.made h.state.execution

step_in_order : (plan : Plan) (call : Call) (h : History) →
    so_far (history_step plan call h) ≡ so_far h ++ by_answer (call_answer call h.state) (withdrawn_by call h.state) []
unfolding history_step history_grant history_tick history_open grant
step_in_order plan call h = go call (call_answer call h.state) refl
  where
    granted : (g : ℕ) → so_far (history_grant g h) ≡ so_far h ++ withdrawn_deques g h.state.execution.deques
    granted g =
        sym (append_assoc (mugged_in h.made) h.state.execution.muggable (withdrawn_deques g h.state.execution.deques))

    go : (c : Call) (a : Answer) → call_answer c h.state ≡ a →
        so_far (by_answer a (history_moved plan c h) h) ≡ so_far h ++ by_answer a (withdrawn_by c h.state) []
    go c (refused n) is = sym (append-nil (so_far h))
    go (grants g) accepted is = granted g
    go (ticks choices) accepted is = tick_in_order plan choices h is ∙ sym (append-nil (so_far h))
    go (offers g) accepted is = sym (append-nil (so_far h))
    go (opens c) accepted is = granted c
    go withdraws accepted is = sym (append-nil (so_far h))

run_in_order : (plan : Plan) (calls : List Call) (h : History) →
    so_far (run_from plan h calls) ≡ so_far h ++ all_withdrawn plan h.state calls
unfolding run_from all_withdrawn
run_in_order plan [] h = sym (append-nil (so_far h))
run_in_order plan (call ∷ calls) h =
    run_in_order plan calls (history_step plan call h)
    ∙ rw (step_in_order plan call h, step_state plan call h)
    (append_assoc (so_far h) (by_answer (call_answer call h.state) (withdrawn_by call h.state) [])
    (all_withdrawn plan (step plan call h.state) calls))

pub mugged_in_turn : (plan : Plan) (calls : List Call) → MuggedInTurn plan calls
unfolding run beginning fresh mugged_in
mugged_in_turn plan calls =
    record {
      highest_first = highest_first;
      in_turn = run_in_order plan calls (beginning plan);
      oldest_whole = oldest_whole plan.graph;
    }
