-- What acceptance and the calls do to a job. Each function's answer stands beside it, as an equation with the model's answer.
use Rattle.std.specs.Prelude.{◌≡◌, List, [], ◌∷◌, ◌++◌, ℕ}
use Rattle.model.specs.Questions.{Answer, accepted, refused}
use Rattle.model.specs.Plan.{Plan, plan_of, plan_answer}
use Rattle.model.specs.Machine.{Call, grants, call_answer, step, fresh}
use Rattle.memory.specs.declared.Job.{Job}
use Rattle.memory.specs.Jobs.{lent, job_plan, job_state}
use Rattle.engine.specs.Reached.{Reached, IsJob}

-- bytes were handed over with this job, and left that one
pub record Accepts (bytes : List ℕ) (job job' : Job) : Type 0 where
  -- accepted: the plan of the bytes, a fresh state, and no call yet
  pub its_plan : plan_answer bytes ≡ accepted → job_plan job' ≡ plan_of bytes
  pub its_state : plan_answer bytes ≡ accepted → job_state job' ≡ fresh (plan_of bytes)
  pub reached : plan_answer bytes ≡ accepted → Reached (plan_of bytes) [] job'
  -- refused: no record, and what was there is as it came
  pub unchanged : (n : ℕ) → plan_answer bytes ≡ refused n → job' ≡ job

-- the call was made of this job, and left that one
pub record Moves (call : Call) (job job' : Job) : Type 0 where
  pub stepped : job_state job' ≡ step (job_plan job) call (job_state job)
  pub same_plan : job_plan job' ≡ job_plan job
  -- "11 to 17 return the number and the record unchanged". Request U5: "Each of these returns the record unchanged, the note too."
  pub unchanged : (n : ℕ) → call_answer call (job_state job) ≡ refused n → job' ≡ job
  -- whatever plan and calls reached the job, with this call they reach the one that it leaves
  pub reached : (plan : Plan) (calls : List Call) → Reached plan calls job → Reached plan (calls ++ call ∷ []) job'

-- the same of a call that is made of the words alone, with its answer: whatever memory makes them a job stays as it is
pub record MovesWords (call : Call) (words words' : List ℕ) (answer : Answer) : Type 0 where
  pub answered : (memory : List ℕ) → IsJob (lent memory words) → answer ≡ call_answer call (job_state (lent memory words))
  pub moves : (memory : List ℕ) → IsJob (lent memory words) → Moves call (lent memory words) (lent memory words')

-- a grant of g of this job is accepted
pub record Grants (g : ℕ) (job : Job) : Type 0 where
  pub a_job : IsJob job
  pub accepts_it : call_answer (grants g) (job_state job) ≡ accepted
