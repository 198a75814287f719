-- What the library's functions promise of the number that is handed back, `r`: 0, or the refusal's. What is shown of a job reads its words
-- alone: each of these holds of all memory that makes the words a job.
use Rattle.std.specs.Prelude.{◌≡◌, List, ℕ}
use Rattle.model.specs.Questions.{answer_number, by_answer}
use Rattle.model.specs.Machine.{Call, call_answer, status}
use Rattle.model.specs.Label.{label, label_answer}
use Rattle.model.specs.Counters.{counters, counters_answer, buffer_after}
use Rattle.model.specs.Digits.{line_size}
use Rattle.memory.specs.declared.Job.{Job}
use Rattle.memory.specs.Jobs.{lent, job_plan, job_state}
use Rattle.engine.specs.Reached.{IsJob}
use Rattle.engine.specs.Moves.{Moves}

-- the number that a call of a job is answered with
abbrev pub call_number : Call → Job → ℕ
call_number call job = answer_number (call_answer call (job_state job))

-- a call that is made of the words alone: its number, and what it leaves. Whatever memory makes the words a job stays as it is
pub record CallsWords (call : Call) (words words' : List ℕ) (r : ℕ) : Type 0 where
  pub answered : (memory : List ℕ) → IsJob (lent memory words) → r ≡ call_number call (lent memory words)
  pub moves : (memory : List ℕ) → IsJob (lent memory words) → Moves call (lent memory words) (lent memory words')

pub record ShowsStatus (words : List ℕ) (r : ℕ) : Type 0 where
  pub right : (memory : List ℕ) → IsJob (lent memory words) → r ≡ status (job_state (lent memory words))

-- the ten numbers of the counters line
pub record ShowsCounters (words : List ℕ) (refusals : ℕ) (numbers' : List ℕ) : Type 0 where
  pub right : (memory : List ℕ) → IsJob (lent memory words) →
      numbers' ≡ counters (job_plan (lent memory words)) (job_state (lent memory words)) refusals

-- the number, the line's size, which is the ten counts of its numbers' digits plus 10, and the buffer after the call
pub record ShowsLine (words : List ℕ) (refusals : ℕ) (buffer buffer' : List ℕ) (size r : ℕ) : Type 0 where
  pub answered : r ≡ answer_number (counters_answer buffer)
  pub right : (memory : List ℕ) → IsJob (lent memory words) →
      let plan = job_plan (lent memory words) in
      let state = job_state (lent memory words) in
      (size ≡ by_answer (counters_answer buffer) (line_size (counters plan state refusals)) 0)
      × (buffer' ≡ buffer_after plan state refusals buffer)

-- the number, and where the wording starts in the sheet and how many bytes it has
pub record ShowsWording (words sheet : List ℕ) (start size r : ℕ) : Type 0 where
  pub right : (memory : List ℕ) → IsJob (lent memory words) →
      let shown = status (job_state (lent memory words)) in
      (r ≡ answer_number (label_answer sheet shown))
      × (start ≡ (label sheet shown).start)
      × (size ≡ (label sheet shown).size)
