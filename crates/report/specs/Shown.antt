-- What is shown of a job: the ten numbers are those of its state, and so is their line.
use Rattle.std.specs.Prelude.{◌≡◌, List, ℕ}
use Rattle.model.specs.Counters.{counters}
use Rattle.memory.specs.declared.Job.{Job}
use Rattle.memory.specs.Jobs.{lent, job_plan, job_state}
use Rattle.engine.specs.Reached.{IsJob}
use Rattle.counters.specs.declared.Counters.{Counters}
use Rattle.counters.specs.Line.{numbers_of}

-- the ten numbers of a record's counters line, with a log's count of refused calls
abbrev pub shown_numbers : Job → ℕ → List ℕ
shown_numbers job refusals = counters (job_plan job) (job_state job) refusals

-- whatever memory makes the words a job
pub record CountersOf (words : List ℕ) (refusals : ℕ) (r : Counters) : Type 0 where
  pub right : (memory : List ℕ) → IsJob (lent memory words) → numbers_of r ≡ shown_numbers (lent memory words) refusals
