-- The ten numbers of a line, the answer, and what writing a line promises.
use Rattle.std.specs.Prelude.{◌≡◌, List, [], ◌∷◌, ℕ, Result, Ok, Err}
use Rattle.model.specs.Questions.{Answer, by_answer}
use Rattle.model.specs.Counters.{spaced, counters_answer, put_at_start}
use Rattle.model.specs.Digits.{line_size}
use Rattle.refusals.specs.Answers.{answer_by}
use Rattle.status.specs.Number.{status_number}
use Rattle.counters.specs.declared.Counters.{Counters}
use Rattle.counters.specs.declared.TooSmall.{TooSmall}

-- the nine numbers after the status, in the order of model's `counters`
abbrev pub after_status : Counters → List ℕ
after_status c =
    c.worked
    ∷ c.tasks
    ∷ c.desire
    ∷ c.allotment
    ∷ c.work
    ∷ c.mug
    ∷ c.steal
    ∷ c.successes
    ∷ c.refusals
    ∷ []

-- the ten numbers of a line
abbrev pub numbers_of : Counters → List ℕ
numbers_of c = status_number c.status ∷ after_status c

-- "Has its buffer 128 bytes or more? 20"
abbrev pub too_small_number : TooSmall → ℕ
too_small_number _ = 20

abbrev pub line_answer : Result ℕ TooSmall → Answer
line_answer = answer_by too_small_number

-- how many bytes of the buffer are the line's
abbrev pub line_length : Result ℕ TooSmall → ℕ
line_length (Ok size) = size
line_length (Err _) = 0

-- the line of these ten numbers was to be written at a buffer's start: the answer, how many bytes the line has, which is the ten counts of
-- their digits plus 10, and the buffer afterwards; refused, no line, and the buffer as it came
pub record WritesLine (ten buffer buffer' : List ℕ) (r : Result ℕ TooSmall) : Type 0 where
  pub answered : line_answer r ≡ counters_answer buffer
  pub sized : line_length r ≡ by_answer (counters_answer buffer) (line_size ten) 0
  pub bytes : buffer' ≡ by_answer (counters_answer buffer) (put_at_start (spaced ten) buffer) buffer
