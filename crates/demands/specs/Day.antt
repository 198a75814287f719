-- Request U13's day over the very jobs: plain grants and seeded ticks, each of the job and the seed that the call before left, accepted or
-- refused, as the functions promise it. Nothing here speaks of a history or of a log.
use Rattle.std.specs.Prelude.{◌≡◌, List, [], ◌∷◌, ℕ}
use Rattle.model.specs.Machine.{grants}
use Rattle.model.specs.Seeds.{DayCall, grants_plainly, ticks_by_seed, day_log}
use Rattle.memory.specs.declared.Job.{Job}
use Rattle.memory.specs.Jobs.{job_plan, job_state}
use Rattle.engine.specs.Moves.{Moves}
use Rattle.day_log.specs.Running.{Runs}
use Rattle.seeded.specs.Drawn.{shown, TicksSeeded}

-- the calls of this day were made of this job with this seed, and left that job and that seed
pub data Day : List DayCall → Job → ℕ → Job → ℕ → Type 0 where
  over : {job : Job} {seed : ℕ} → Day [] job seed job seed
  granted : {g seed seed'' : ℕ} {day : List DayCall} {job job' job'' : Job} → Moves (grants g) job job' → Day day job' seed job'' seed'' →
      Day (grants_plainly g ∷ day) job seed job'' seed''
  ticked : {seed seed' seed'' : ℕ} {day : List DayCall} {job job' job'' : Job} → TicksSeeded job seed job' seed' →
      Day day job' seed' job'' seed'' → Day (ticks_by_seed ∷ day) job seed job'' seed''

-- the log of the day, with the refused ones left out, read from the job and the seed with which it begins
abbrev pub log_of : List DayCall → Job → ℕ → List ℕ
log_of day job seed = day_log (job_plan job) day (shown job seed)

-- "can be written as an ordinary log that ends in the same record": run on the job with which the day began, it refuses nothing and leaves
-- a job of the same plan and state
pub record SameRecord (day : List DayCall) (job : Job) (seed : ℕ) (job' : Job) : Type 0 where
  pub refuses_nothing : {refusals : ℕ} {job'' : Job} → Runs (log_of day job seed) job refusals job'' → refusals ≡ 0
  pub same_state : {refusals : ℕ} {job'' : Job} → Runs (log_of day job seed) job refusals job'' → job_state job'' ≡ job_state job'
  pub same_plan : {refusals : ℕ} {job'' : Job} → Runs (log_of day job seed) job refusals job'' → job_plan job'' ≡ job_plan job'
