-- The status that words show, and what the status of a job promises.
use Rattle.std.specs.Prelude.{◌≡◌, cond, not, List, ℕ, eqb}
use Rattle.model.specs.Machine.{status}
use Rattle.memory.specs.Words.{numbers_in, started_in}
use Rattle.memory.specs.Jobs.{lent, job_state}
use Rattle.engine.specs.Reached.{IsJob}
use Rattle.status.specs.declared.Status.{Status}
use Rattle.status.specs.Number.{status_number}

-- The status that words show, whatever they are: model's `status`, asked of the words. Words without a task are no job's, as the zeros
-- are from which acceptance starts: they show as fresh, 0, and never as finished.
unfoldable pub shown_status : List ℕ → ℕ
shown_status words =
    let m = numbers_in words in
    cond (eqb m.tasks 0) 0 (cond (eqb m.done m.tasks) 3 (cond (not (started_in words)) 0 (cond (eqb m.workers 0) 2 1)))

-- the status is the one that the words show, and that of the state, whatever memory makes the words a job
pub record StatusOf (words : List ℕ) (r : Status) : Type 0 where
  pub shown : status_number r ≡ shown_status words
  pub right : (memory : List ℕ) → IsJob (lent memory words) → status_number r ≡ status (job_state (lent memory words))
