-- Every accepted tick counts one cycle for each granted worker, so that work, mug and steal cycles add up to the sum of the granted counts
-- (`adds_up`); and in the tick that finishes a job the workers after the finisher each count a steal in vain, and nothing else moves
-- (`finishing_tick`).
-- Assumes nothing.
use mathlib.Core.Path.{◌≡◌, refl, ap, ◌∙◌}
use mathlib.Core.Bool.{Bool, true, false}
use mathlib.Core.List.{List, [], ◌∷◌, ◌++◌}
use Prim.Native.Nat.{ℕ, zero, suc, ◌+◌, ◌-◌, ◌≤◌, ◌<◌}
use native.Mathlib.Nat.{zero-add, add-zero, add-suc}
use native.Mathlib.Omega.{arith}
use lib.ListN.{length, get_or, take, drop, length-drop}
use lib.Seq.{take_all}
use Rattle.model.specs.Questions.{Answer, accepted, refused, by_answer}
use Rattle.model.specs.Plan.{Plan, Graph}
use Rattle.model.specs.Machine.{Execution, State, allotment, finished, fresh, grant, failed_steal, turn, cycles, cycles_made, tick}
use Rattle.model.specs.Machine.{withdraw_offer, open_offer, Call, grants, ticks, offers, opens, withdraws, call_answer, step, moved}
use Rattle.model.specs.History.{History, beginning, history_step, run, run_from}
use Rattle.model.specs.WholeTicks.{accepted_calls, granted_ticks, worker_ticks, all_counted, after_workers, with_vain_steals}
use Rattle.model.specs.WholeTicks.{FinishingTick, WholeTicks}
use Rattle.lists.proofs.Tests.{true_is_not_false}
use Rattle.laws.proofs.Cycles.{turn_unfinished, turn_finished, cycles_allotment}
use Rattle.laws.proofs.Accepted.{TickAccepted, tick_execution, tick_accepted}
use Rattle.laws.proofs.Runs.{step_state}
use Rattle.laws.proofs.Meaning.{all_kinds, one_cycle_each, tick_counted, counts_mean}
use Rattle.laws.proofs.Grants.{grant_allotment}

-- ---- the sum

abbrev counted_in : State → ℕ
counted_in s = all_counted s.execution.counts

grant_counts : (g : ℕ) (s : State) → counted_in (grant g s) ≡ counted_in s
unfolding grant
grant_counts g s = refl

module _ (plan : Plan) (choices : List ℕ) (s : State) (a : TickAccepted choices s) where
  tick_counts : counted_in (tick plan choices s) ≡ counted_in s + allotment s
  tick_counts =
      let made = cycles_made plan.graph 0 choices s.execution in
      let c = tick_counted plan choices s a in
      omega (arith, c.work, c.mug, c.steal, all_kinds made, one_cycle_each plan.graph choices 0 s.execution, a.one_each)

  pub tick_allotment : allotment (tick plan choices s) ≡ allotment s
  tick_allotment =
      ap (λ (e : Execution). length e.deques) (tick_execution plan choices s)
      ∙ cycles_allotment plan.graph choices 0 s.execution (omega (arith, a.one_each))

-- from a state on, the calls add to the counts what the accepted ticks among them are granted
run_counts : (plan : Plan) (calls : List Call) (s : State) → ℕ
run_counts plan calls s = counted_in s + granted_ticks (allotment s) (accepted_calls plan s calls)

step_counts : (plan : Plan) (call : Call) (calls : List Call) (s : State) →
    run_counts plan calls (step plan call s) ≡ run_counts plan (call ∷ calls) s
unfolding run_counts step open_offer accepted_calls granted_ticks
step_counts plan call calls s = go call (call_answer call s) refl
  where
    go : (c : Call) (a : Answer) → call_answer c s ≡ a →
        let after = by_answer a (moved plan c s) s in
        counted_in after + granted_ticks (allotment after) (accepted_calls plan after calls)
        ≡ counted_in s + granted_ticks (allotment s) (by_answer a (c ∷ []) [] ++ accepted_calls plan after calls)
    go c (refused n) is = refl
    go (grants g) accepted is = rw (grant_counts g s, grant_allotment g s) refl
    go (ticks choices) accepted is =
        let a = tick_accepted choices s is in
        let after = tick plan choices s in
        rw (tick_allotment plan choices s a) (omega (arith, tick_counts plan choices s a))
    go (offers g) accepted is = refl
    go (opens c) accepted is = rw (grant_counts c (withdraw_offer s), grant_allotment c (withdraw_offer s)) refl
    go withdraws accepted is = refl

run_adds_up : (plan : Plan) (calls : List Call) (h : History) → counted_in (run_from plan h calls).state ≡ run_counts plan calls h.state
unfolding run_from accepted_calls granted_ticks run_counts
run_adds_up plan [] h = omega arith
run_adds_up plan (call ∷ calls) h =
    run_adds_up plan calls (history_step plan call h)
    ∙ ap (run_counts plan calls) (step_state plan call h)
    ∙ step_counts plan call calls h.state

-- ---- the tick that finishes a job

module _ (graph : Graph) where
  -- the turns of the first workers, and then of one more
  pub one_more : (choices : List ℕ) (v w : ℕ) (e : Execution) → w < length choices →
      cycles graph v (take (suc w) choices) e ≡ turn graph (v + w) (get_or choices w 0) (cycles graph v (take w choices) e)
  unfolding cycles
  one_more [] v w e l = absurd (omega arith)
  one_more (c ∷ choices) v zero e l = rw add-zero refl
  one_more (c ∷ choices) v (suc w) e l =
      let same : v + suc w ≡ suc v + w = omega arith in
      rw same (one_more choices (suc v) w (turn graph v c e) (omega arith))

  -- .. and then of all others
  all_others : (choices : List ℕ) (v n : ℕ) (e : Execution) →
      cycles graph v choices e ≡ cycles graph (v + n) (drop n choices) (cycles graph v (take n choices) e)
  unfolding cycles
  all_others choices v zero e = rw add-zero refl
  all_others [] v (suc n) e = refl
  all_others (c ∷ choices) v (suc n) e =
      let same : v + suc n ≡ suc v + n = omega arith in
      rw same (all_others choices (suc v) n (turn graph v c e))

  -- once the job is finished, it stays so
  stays_finished : (w choice : ℕ) (e : Execution) → finished (turn graph w choice e) ≡ false → finished e ≡ false
  unfolding failed_steal finished
  stays_finished w choice e f = go (finished e) refl
    where
      go : (b : Bool) → finished e ≡ b → b ≡ false
      go false p = refl
      go true p = absurd (true_is_not_false p (rw (turn_finished graph w choice e p) at f))

  -- .. and every turn is a steal in vain
  vain_turns : (choices : List ℕ) (w : ℕ) (e : Execution) → finished e ≡ true →
      cycles graph w choices e ≡ with_vain_steals (length choices) e
  unfolding cycles failed_steal finished
  vain_turns [] w e f = rw add-zero refl
  vain_turns (c ∷ choices) w e f =
      let one : e.counts.steals.steal + suc (length choices) ≡ suc e.counts.steals.steal + length choices = omega arith in
      rw (turn_finished graph w c e f, one) (vain_turns choices (suc w) (failed_steal e) f ∙ rw zero-add refl)

module _ (plan : Plan) (s : State) (choices : List ℕ) (answer : call_answer (ticks choices) s ≡ accepted) where
  pub one_each : length choices ≡ allotment s
  one_each = (tick_accepted choices s answer).one_each

  -- unfinished after some workers' turns, it was so after fewer
  unfinished_before : (w k : ℕ) → w + k ≤ length choices → finished (after_workers plan s choices (w + k)) ≡ false →
      finished (after_workers plan s choices w) ≡ false
  unfinished_before w zero l f = rw add-zero at f
  unfinished_before w (suc k) l f =
      unfinished_before w k (omega arith)
      (stays_finished plan.graph (w + k) (get_or choices (w + k) 0) (after_workers plan s choices (w + k))
      (rw (add-suc, one_more plan.graph choices 0 (w + k) s.execution (omega arith), zero-add) at f))

  -- the job is unfinished before the turn of worker f, and finished after it
  module _ (f : ℕ) (l : f < length choices) (before : finished (after_workers plan s choices f) ≡ false)
      (after : finished (after_workers plan s choices (suc f)) ≡ true) where
    finished_by : FinishingTick plan s choices
    unfolding step
    finished_by =
        record {
          finisher = f;
          granted = rw (← one_each) l;
          unfinished_before = before;
          finished_after = after;
          up_to_it = λ w no_later.
              let there : w + (f - w) ≡ f = omega arith in
              one_more plan.graph choices 0 w s.execution (omega arith)
              ∙ rw zero-add refl
              ∙ turn_unfinished plan.graph w (get_or choices w 0) (after_workers plan s choices w)
              (unfinished_before w (f - w) (omega arith) (rw there before));
          after_it =
              rw (answer, tick_execution plan choices s)
              (all_others plan.graph choices 0 (suc f) s.execution
              ∙ rw zero-add refl
              ∙ vain_turns plan.graph (drop (suc f) choices) (suc f) (after_workers plan s choices (suc f)) after
              ∙ ap (λ (n : ℕ). with_vain_steals n (after_workers plan s choices (suc f)))
              (length-drop (suc f) choices ∙ ap (λ (n : ℕ). n - suc f) one_each));
        }

  -- one of the first k workers finishes a job that is finished after their turns
  one_finishes : (k : ℕ) → k ≤ length choices → finished (after_workers plan s choices k) ≡ true → FinishingTick plan s choices
  unfolding cycles
  one_finishes zero l f = absurd (true_is_not_false f (tick_accepted choices s answer).unfinished)
  one_finishes (suc k) l f = go (finished (after_workers plan s choices k)) refl (λ earlier. one_finishes k (omega arith) earlier)
    where
      go : (b : Bool) → finished (after_workers plan s choices k) ≡ b →
          (finished (after_workers plan s choices k) ≡ true → FinishingTick plan s choices) → FinishingTick plan s choices
      go false before fewer = finished_by k l before f
      go true earlier fewer = fewer earlier

  finishing_tick : finished (step plan (ticks choices) s).execution ≡ true → FinishingTick plan s choices
  unfolding step
  finishing_tick f =
      one_finishes (length choices) (omega arith)
      (rw (take_all (length choices) choices (omega arith)) (rw (answer, tick_execution plan choices s) at f))

-- ---- a list of calls

adds_up : (plan : Plan) (calls : List Call) → counted_in (run plan calls).state ≡ worker_ticks plan calls
unfolding run beginning fresh run_counts
adds_up plan calls = run_adds_up plan calls (beginning plan) ∙ zero-add (worker_ticks plan calls)

pub whole_ticks : (plan : Plan) (calls : List Call) → WholeTicks plan calls
whole_ticks plan calls =
    record {
      adds_up = adds_up plan calls;
      all_made =
          let m = counts_mean plan calls in
          omega (arith, m.work, m.mug, m.steal, all_kinds (run plan calls).made, adds_up plan calls);
      last_tick = λ choices answer. finishing_tick plan (run plan calls).state choices answer;
    }
