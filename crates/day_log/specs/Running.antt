-- What running a log on a job in place promises. The log's answer stands beside it, as an equation with the model's.
use Rattle.std.specs.Prelude.{◌≡◌, List, ◌++◌, ℕ, length, Result}
use Rattle.model.specs.Questions.{Answer}
use Rattle.model.specs.Plan.{Plan}
use Rattle.model.specs.Machine.{Call}
use Rattle.model.specs.Log.{Ran, entries, run_log}
use Rattle.memory.specs.declared.Job.{Job}
use Rattle.memory.specs.Jobs.{job_plan, job_state}
use Rattle.engine.specs.Reached.{Reached}
use Rattle.refusals.specs.Answers.{answer_by}
use Rattle.log_reader.specs.declared.BrokenEntry.{BrokenEntry}
use Rattle.log_reader.specs.Reading.{broken_number}

-- the paper's number of the log's answer: "Is the entry whole? 18"
abbrev pub log_answer_of : {A : Type 0} → Result A BrokenEntry → Answer
log_answer_of answer = answer_by broken_number answer

-- model's run of the log on what the job shows
abbrev pub run_of : List ℕ → Job → Ran
run_of log job = run_log (job_plan job) log (job_state job)

-- the log was run on this job, had so many refused calls, and left that one
pub record Runs (log : List ℕ) (job : Job) (refusals : ℕ) (job' : Job) : Type 0 where
  pub counted : refusals ≡ (run_of log job).refusals
  pub state_after : job_state job' ≡ (run_of log job).state
  pub same_plan : job_plan job' ≡ job_plan job
  -- whatever plan and calls reached the job, with the calls of the log's whole entries they reach the one that it leaves
  pub reached : (plan : Plan) (calls : List Call) → Reached plan calls job → Reached plan (calls ++ (entries log).calls) job'
  -- where as many calls are refused as the log has whole entries (an empty log, one that is broken at its first entry, one whose calls are
  -- all refused) the job is as it came
  pub untouched : refusals ≡ length (entries log).calls → job' ≡ job
