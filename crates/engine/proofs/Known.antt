-- What is known of a job that calls reach: the laws of histories, said of its memory and words; and so the widths that its words fit.
-- Assumes nothing.
use mathlib.Core.Path.{◌≡◌, sym, ap, subst}
use mathlib.Core.List.{List}
use Prim.Native.Nat.{◌≤◌}
use native.Mathlib.Omega.{arith}
use Rattle.model.specs.Plan.{Growth, Plan}
use Rattle.model.specs.Machine.{Wish, State, allotment, most_workers, Call}
use Rattle.model.specs.History.{run}
use Rattle.model.specs.Statements.{SoundPlan, WithinBounds}
use Rattle.model.specs.Lines.{deques_in_use}
use Rattle.laws.specs.Reached.{Arranged, Measured, CountsFit}
use Rattle.laws.proofs.Theorems.{arranged, measured, counts_fit, desire_is_power, lines_bounded}
use Rattle.plan.proofs.Sound.{accepted_sound, within_bounds}
use Rattle.quantum.specs.Closing.{Desired}
use Rattle.memory.specs.declared.Job.{Job}
use Rattle.memory.specs.Words.{terms_in, wish_in}
use Rattle.memory.specs.Jobs.{job_parts, job_numbers, job_plan, job_state}
use Rattle.memory.proofs.Views.{tasks_shown, done_at_most, workers_shown}
use Rattle.engine.specs.Reached.{AcceptedPlan, Reached, IsJob, InRange}

module _ {plan : Plan} (a : AcceptedPlan plan) where
  pub plan_sound : SoundPlan plan
  plan_sound = rw a.given (accepted_sound a.bytes a.answer)

  pub plan_bounds : WithinBounds plan
  plan_bounds = rw a.given (within_bounds a.bytes)

module _ {plan : Plan} {calls : List Call} {job : Job} (r : Reached plan calls job) where
  pub known_sound : SoundPlan (job_plan job)
  known_sound = rw r.its_plan (plan_sound r.accepted_plan)

  pub known_bounds : WithinBounds (job_plan job)
  known_bounds = rw r.its_plan (plan_bounds r.accepted_plan)

  pub known_arranged : Arranged (job_plan job) (job_state job)
  known_arranged = rw (r.its_plan, r.its_state) (arranged (plan_sound r.accepted_plan) calls)

  pub known_measured : Measured (job_plan job) (job_state job)
  known_measured = rw (r.its_plan, r.its_state) (measured (plan_sound r.accepted_plan) calls)

  pub known_numbers : CountsFit (job_state job)
  known_numbers =
      rw r.its_state (counts_fit (plan_sound r.accepted_plan) calls (plan_bounds r.accepted_plan))

  -- the desire is that of its power
  pub known_wish : Desired (terms_in job.words).growth (wish_in job.words)
  unfolding job_plan job_state
  known_wish =
      let accepted_plan = r.accepted_plan in
      let power = desire_is_power (plan_sound accepted_plan) calls in
      let same_growth : plan.terms.growth ≡ (terms_in job.words).growth = sym (ap (λ (p : Plan). p.terms.growth) r.its_plan) in
      let same_wish : (run plan calls).state.wish ≡ wish_in job.words = sym (ap (λ (s : State). s.wish) r.its_state) in
      subst (λ (g : Growth). Desired g (wish_in job.words)) same_growth
      (subst (λ (w : Wish). Desired plan.terms.growth w) same_wish
      (record {
        responsive = (plan_sound accepted_plan).terms.responsive;
        few_bits = (plan_bounds accepted_plan).growth_most;
        is_power = power.is_power;
        at_most = power.at_most;
        power_at_most = power.power_at_most;
      }))

  -- request U12's law: the deques in use, and the workers, number at most 64
  pub known_lines : deques_in_use (job_state job).execution ≤ most_workers
  known_lines =
      let bounded = lines_bounded (plan_sound r.accepted_plan) calls in
      rw r.its_state (omega (arith, bounded.after_calls, bounded.at_most_64))

  pub known_workers : allotment (job_state job) ≤ most_workers
  known_workers =
      let bounded = lines_bounded (plan_sound r.accepted_plan) calls in
      rw r.its_state (omega (arith, bounded.present_included, bounded.at_most_64))

  pub words_fit : InRange job.words
  unfolding job_plan job_state
  words_fit =
      let few : (job_numbers job).tasks ≤ 1024 =
      rw (← tasks_shown (job_parts job).first (job_parts job).second (job_numbers job).tasks) known_bounds.tasks_most in
      record {
        tasks_fit = few;
        done_fits = omega (arith, few, done_at_most (job_parts job) (job_numbers job) r.kept.done_right);
        workers_fit = rw (← workers_shown (job_parts job).next (job_parts job).ends (job_numbers job).workers) known_workers;
        desire_fits = known_measured.wanted;
        power_fits = known_wish.power_at_most;
      }

-- for crates above, which show words as narrower numbers
pub in_range : {job : Job} → IsJob job → InRange job.words
in_range is_job = words_fit is_job.2
