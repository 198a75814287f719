-- Demands 2 and 3, request U6's sum, request U9's ticks, request U5's offers, request U12's lines and request U13's seeds, over a job:
-- whatever job accepted plans and calls reach has what they say.
-- Assumes nothing.
use mathlib.Core.Path.{◌≡◌, sym, ap, subst, ◌∙◌}
use mathlib.Core.Bool.{true, false}
use mathlib.Core.Logic.{◌↔◌}
use mathlib.Core.List.{List}
use Prim.Native.Nat.{ℕ, ◌≤◌, ◌<◌}
use lib.ListN.{get_or}
use Rattle.model.specs.Plan.{Plan, tasks}
use Rattle.model.specs.Questions.{accepted}
use Rattle.model.specs.Machine.{worked, State, Call, ticks, call_answer, status}
use Rattle.model.specs.History.{run}
use Rattle.model.specs.WholeTicks.{all_counted, after_workers}
use Rattle.model.specs.Lines.{deques_in_use, largest_granted}
use Rattle.laws.proofs.Theorems.{demand_three, once_and_in_order, finished_exactly, whole_ticks, ticks_are_work}
use Rattle.model.specs.Seeds.{SeededIsPlain}
use Rattle.laws.proofs.Theorems.{only_fronts_begun, offer_then_open, lines_bounded, seeded_is_plain, day_as_log}
use Rattle.memory.specs.declared.Job.{Job}
use Rattle.memory.specs.Jobs.{job_state}
use Rattle.engine.specs.Reached.{Reached}
use Rattle.engine.specs.Demands.{JobDemands}
use Rattle.engine.proofs.Known.{plan_sound}

pub demands : {plan : Plan} {calls : List Call} {job : Job} → Reached plan calls job → JobDemands plan calls job
unfolding job_state
demands {plan} {calls} r =
    let sound = plan_sound r.accepted_plan in
    let lines = lines_bounded sound calls in
    let is_shown = sym r.its_state in
    record {
      shows_work = ap (λ (s : State). s.execution.counts.works.work) r.its_state;
      shows_mugs = ap (λ (s : State). s.execution.counts.mugs.mug) r.its_state;
      demand_three = demand_three sound calls;
      shows_state = r.its_state;
      in_order = once_and_in_order sound calls;
      finished_exactly =
          subst
          (λ (s : State). (status s ≡ 3) ↔ ((t : ℕ) → t < tasks plan.graph → get_or (worked s.execution) t false ≡ true))
          is_shown
          (finished_exactly sound calls);
      adds_up = ap (λ (s : State). all_counted s.execution.counts) r.its_state ∙ (whole_ticks sound calls).adds_up;
      ticks_are_work = ticks_are_work sound calls;
      only_fronts_begun = only_fronts_begun sound calls;
      offer_then_open = offer_then_open sound calls;
      lines_bounded = lines;
      shows_lines = subst (λ (s : State). deques_in_use s.execution ≤ largest_granted (run plan calls)) is_shown lines.after_calls;
      lines_inside = subst (λ (s : State). (choices : List ℕ) → call_answer (ticks choices) s ≡ accepted → (w : ℕ) →
          deques_in_use (after_workers plan s choices w) ≤ largest_granted (run plan calls)) is_shown lines.after_cycles;
      seeded_is_plain =
          λ seed.
          subst (λ (s : State). SeededIsPlain plan (record { state = s; seed = seed })) is_shown (seeded_is_plain sound calls seed);
      day_as_log = day_as_log sound calls;
    }
