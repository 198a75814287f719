-- The counts mean what they say: work, mug, steal and successful steals are the numbers of those cycles among the cycles made, and the
-- nonsteal usage grows in a tick by the work and mug cycles of that tick and is 0 after a grant.
-- Assumes nothing.
use mathlib.Core.Path.{◌≡◌, refl, ap}
use mathlib.Core.List.{List, [], ◌∷◌, ◌++◌}
use Prim.Native.Nat.{ℕ, suc, ◌+◌, ◌≤◌}
use native.Mathlib.Omega.{arith}
use lib.ListN.{length}
use Rattle.model.specs.Plan.{Plan, Graph}
use Rattle.model.specs.Machine.{Counts, Execution, State, Cycle, works_on, mugs_deque, steals_from, steals_nothing, work_cycle, mug_cycle}
use Rattle.model.specs.Machine.{successful_steal, failed_steal, cycle, cycle_of, turn, cycles, cycles_made, fresh, grant, withdraw_offer}
use Rattle.model.specs.Machine.{tick, Call}
use Rattle.model.specs.History.{History, beginning, history_grant, history_tick, history_open, history_step, run}
use Rattle.laws.specs.Meaning.{is_work, is_mug, is_steal, is_success, count_of, works_in, mugs_in, steals_in, successes_in, Counted}
use Rattle.laws.specs.Meaning.{CountsMean, UsageMeans}
use Rattle.laws.proofs.Cycles.{cycle_cases, cycles_made_keep}
use Rattle.laws.proofs.Accepted.{TickAccepted, tick_execution, tick_accepted}
use Rattle.laws.proofs.Runs.{run_keeps}

pub count_of_append : (kind : Cycle → ℕ) (xs ys : List Cycle) → count_of kind (xs ++ ys) ≡ count_of kind xs + count_of kind ys
unfolding count_of
count_of_append kind [] ys = omega arith
count_of_append kind (c ∷ xs) ys = omega (arith, count_of_append kind xs ys)

-- every cycle is of one of the three kinds
pub all_kinds : (made : List Cycle) → works_in made + mugs_in made + steals_in made ≡ length made
unfolding count_of
all_kinds [] = refl
all_kinds (works_on t ∷ made) = omega (arith, all_kinds made)
all_kinds (mugs_deque d ∷ made) = omega (arith, all_kinds made)
all_kinds (steals_from v ∷ made) = omega (arith, all_kinds made)
all_kinds (steals_nothing ∷ made) = omega (arith, all_kinds made)

pub successes_are_steals : (made : List Cycle) → successes_in made ≤ steals_in made
unfolding count_of
successes_are_steals [] = omega arith
successes_are_steals (works_on t ∷ made) = omega (arith, successes_are_steals made)
successes_are_steals (mugs_deque d ∷ made) = omega (arith, successes_are_steals made)
successes_are_steals (steals_from v ∷ made) = omega (arith, successes_are_steals made)
successes_are_steals (steals_nothing ∷ made) = omega (arith, successes_are_steals made)

-- each worker makes one cycle in a tick
pub one_cycle_each : (graph : Graph) (choices : List ℕ) (w : ℕ) (e : Execution) → length (cycles_made graph w choices e) ≡ length choices
unfolding cycles_made
one_cycle_each graph [] w e = refl
one_cycle_each graph (choice ∷ choices) w e = ap suc (one_cycle_each graph choices (suc w) (turn graph w choice e))

-- ---- a cycle and a tick's cycles

vain_counted : (e : Execution) → Counted (steals_nothing ∷ []) e.counts (failed_steal e).counts
unfolding count_of failed_steal
vain_counted e = omega arith

pub cycle_counted : (graph : Graph) (w choice : ℕ) (e : Execution) →
    Counted (cycle_of w choice e ∷ []) e.counts (cycle graph w choice e).counts
unfolding count_of work_cycle mug_cycle successful_steal failed_steal
cycle_counted graph w choice e =
    cycle_cases graph w choice e
    (λ c after. Counted (c ∷ []) e.counts after.counts)
    (record {
      working = λ t rest own. omega arith;
      mugging = λ oldest others own waiting. omega arith;
      stealing = λ own none two. omega arith;
      failing = λ own none few. vain_counted e;
    })

counted_then : {made more : List Cycle} {before between after : Counts} → Counted made before between → Counted more between after →
    Counted (made ++ more) before after
counted_then {made} {more} {before} {between} {after} p q =
    let w = count_of_append is_work made more in
    let m = count_of_append is_mug made more in
    record {
      work = omega arith;
      mug = omega arith;
      steal = omega (arith, count_of_append is_steal made more);
      success = omega (arith, count_of_append is_success made more);
      nonsteal_usage = omega arith;
    }

counted_none : (before : Counts) → Counted [] before before
unfolding count_of
counted_none before = omega arith

pub cycles_counted : (graph : Graph) (w : ℕ) (choices : List ℕ) (e : Execution) → w + length choices ≤ length e.deques →
    Counted (cycles_made graph w choices e) e.counts (cycles graph w choices e).counts
cycles_counted graph w choices e h =
    cycles_made_keep graph
    (λ made after. Counted made e.counts after.counts)
    (λ made v choice before l p. counted_then p (cycle_counted graph v choice before))
    (λ made before p. counted_then p (vain_counted before))
    choices
    []
    w
    e
    h
    (counted_none e.counts)

-- ---- a tick, a grant, a history

pub tick_counted : (plan : Plan) (choices : List ℕ) (s : State) → TickAccepted choices s →
    Counted (cycles_made plan.graph 0 choices s.execution) s.execution.counts (tick plan choices s).execution.counts
tick_counted plan choices s a =
    rw (tick_execution plan choices s) (cycles_counted plan.graph 0 choices s.execution (omega (arith, a.one_each)))

pub grant_usage : (g : ℕ) (s : State) → (grant g s).execution.counts.usage ≡ 0
unfolding grant
grant_usage g s = refl

pub counts_mean : (plan : Plan) (calls : List Call) → CountsMean (run plan calls)
unfolding beginning fresh history_grant history_tick grant count_of
counts_mean plan calls =
    run_keeps plan CountsMean
    (record { work = refl; mug = refl; steal = refl; success = refl })
    (λ h note p. record { work = p.work; mug = p.mug; steal = p.steal; success = p.success })
    (λ done g a p. record { work = p.work; mug = p.mug; steal = p.steal; success = p.success })
    (λ done choices a p.
    let h = run plan done in
    let more = cycles_made plan.graph 0 choices h.state.execution in
    let c = tick_counted plan choices h.state a in
    record {
      work = omega (arith, count_of_append is_work h.made more, p.work, c.work);
      mug = omega (arith, count_of_append is_mug h.made more, p.mug, c.mug);
      steal = omega (arith, count_of_append is_steal h.made more, p.steal, c.steal);
      success = omega (arith, count_of_append is_success h.made more, p.success, c.success);
    })
    calls

pub usage_means : (plan : Plan) (h : History) → UsageMeans plan h
unfolding history_step history_grant history_tick history_open
usage_means plan h =
    record {
      granted_at_0 = λ g yes_answer. rw yes_answer (grant_usage g h.state);
      opened_at_0 = λ c yes_answer. rw yes_answer (grant_usage c (withdraw_offer h.state));
      grows = λ choices yes_answer. (
        rw yes_answer (tick_counted plan choices h.state (tick_accepted choices h.state yes_answer)).nonsteal_usage,
        rw yes_answer refl,
      );
    }
