-- Demand 3's list of calls over the very jobs: the first call gets the plan's fresh record, each later one what the call before left. A
-- chain is made of what the functions promise of the job before them and the job after them, accepted or refused, whoever holds the job: a
-- record of its own, lent memory, or the program. Nothing here speaks of a history.
use Rattle.std.specs.Prelude.{◌≡◌, List, [], ◌∷◌, ◌++◌, ℕ}
use Rattle.model.specs.Questions.{accepted, refused}
use Rattle.model.specs.Plan.{plan_answer}
use Rattle.model.specs.Machine.{Call}
use Rattle.model.specs.Log.{entries}
use Rattle.memory.specs.declared.Job.{Job}
use Rattle.engine.specs.Moves.{Accepts, Moves}
use Rattle.day_log.specs.Running.{Runs}

-- the plan of these bytes, and then these calls, left this job
pub data Chain (bytes : List ℕ) : List Call → Job → Type 0 where
  -- the bytes were accepted, whatever was there before: the fresh record, and no call yet
  accepts : {before job : Job} → Accepts bytes before job → plan_answer bytes ≡ accepted → Chain bytes [] job
  -- a grant, an offer, an opening, a withdrawal or a tick, seeded or not, of the job at hand: one call more, accepted or not
  calls_next : {calls : List Call} {call : Call} {job job' : Job} → Chain bytes calls job → Moves call job job' →
      Chain bytes (calls ++ call ∷ []) job'
  -- a log was run on the job at hand: the calls of its whole entries
  log_next : {calls : List Call} {log : List ℕ} {refusals : ℕ} {job job' : Job} → Chain bytes calls job → Runs log job refusals job' →
      Chain bytes (calls ++ (entries log).calls) job'
  -- other bytes were handed over with the job at hand, and refused: the job goes on
  refuses_next : {calls : List Call} {others : List ℕ} {job job' : Job} (n : ℕ) → Chain bytes calls job → Accepts others job job' →
      plan_answer others ≡ refused n → Chain bytes calls job'
