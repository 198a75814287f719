-- "A job record comes only from acceptance or from an earlier call": said exactly.
use Rattle.std.specs.Prelude.{◌≡◌, List, ℕ, ◌≤◌, length}
use Rattle.model.specs.Questions.{accepted}
use Rattle.model.specs.Plan.{Plan, plan_of, plan_answer}
use Rattle.model.specs.Machine.{Call}
use Rattle.model.specs.History.{run}
use Rattle.memory.specs.declared.Job.{Job}
use Rattle.memory.specs.Words.{word_count, numbers_in, desire_in, wish_in}
use Rattle.memory.specs.Graphs.{graph}
use Rattle.memory.specs.Sound.{Sizes, Kept}
use Rattle.memory.specs.Jobs.{lent, job_parts, job_numbers, job_plan, job_state}

-- the plan is that of accepted bytes
pub record AcceptedPlan (plan : Plan) : Type 0 where
  pub bytes : List ℕ
  pub answer : plan_answer bytes ≡ accepted
  pub given : plan ≡ plan_of bytes

-- the job's plan is an accepted one, its state is that of the history of these calls, and what the code keeps beside the two is right
pub record Reached (plan : Plan) (calls : List Call) (job : Job) : Type 0 where
  pub accepted_plan : AcceptedPlan plan
  pub its_plan : job_plan job ≡ plan
  pub its_state : job_state job ≡ (run plan calls).state
  pub parts_sized : Sizes (job_parts job)
  pub words_sized : length job.words ≡ word_count
  pub kept : Kept (graph (job_parts job) (job_numbers job).tasks) (job_parts job) (job_numbers job)

-- some accepted plan and calls reach it: the only thing that a function asks of a job
abbrev pub IsJob : Job → Type 0
IsJob job = (plan : Plan) × (calls : List Call) × Reached plan calls job

-- the words are those of a job: all that a function asks that reads nothing else
abbrev pub JobWords : List ℕ → Type 0
JobWords words = (memory : List ℕ) × IsJob (lent memory words)

-- the words that are shown as narrower numbers fit them: so of every job
pub record InRange (words : List ℕ) : Type 0 where
  pub tasks_fit : (numbers_in words).tasks ≤ 1024
  pub done_fits : (numbers_in words).done ≤ 1024
  pub workers_fit : (numbers_in words).workers ≤ 64
  pub desire_fits : desire_in words ≤ 64
  pub power_fits : (wish_in words).power ≤ 22
