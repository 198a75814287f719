-- A job has a task, so that no memory makes the words of the blank, zeros, a job.
-- Assumes nothing.
use mathlib.Core.Path.{◌≡◌, refl, sym, ap, ◌∙◌}
use mathlib.Core.List.{List}
use native.Mathlib.Omega.{arith}
use Rattle.model.specs.Plan.{Plan, tasks}
use Rattle.model.specs.Machine.{Call}
use Rattle.memory.specs.declared.Job.{Job}
use Rattle.memory.specs.Jobs.{job_parts, job_numbers, job_plan}
use Rattle.memory.proofs.Views.{tasks_shown}
use Rattle.engine.specs.Reached.{Reached, JobWords}
use Rattle.engine.proofs.Known.{plan_sound}
use Rattle.job.specs.Blank.{blank_job}

pub has_task : {plan : Plan} {calls : List Call} {job : Job} → Reached plan calls job → (job_numbers job).tasks ≡ 0 → ⊥
unfolding job_plan
has_task {plan} {job = job} r none =
    let sound = plan_sound r.accepted_plan in
    let shown : tasks plan.graph ≡ (job_numbers job).tasks =
    sym (ap (λ (p : Plan). tasks p.graph) r.its_plan)
    ∙ tasks_shown (job_parts job).first (job_parts job).second (job_numbers job).tasks in
    omega (arith, sound.graph.some_task)

pub blank_unreached : JobWords blank_job.words → ⊥
unfolding blank_job
blank_unreached (memory, job) = has_task job.2 refl
