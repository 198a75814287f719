-- What writing an entry promises: the entry behind what is written, or a refusal's number and nothing changed.
use Rattle.std.specs.Prelude.{◌≡◌, List, ℕ, ◌+◌, length, Result}
use Rattle.model.specs.Questions.{Question, Answer, answer_number, by_answer}
use Rattle.model.specs.Machine.{ticks}
use Rattle.model.specs.Log.{entry_bytes, append_answer, appended}
use Rattle.model.specs.Seeds.{draws}
use Rattle.memory.specs.Words.{numbers_in}
use Rattle.refusals.specs.Answers.{answer_by}
use Rattle.log_writer.specs.declared.WriteRefusal.{WriteRefusal}
use Rattle.log_writer.specs.declared.WriteRefusal.TheVariants.{TooManyWorkers, WrongChoiceCount, NoRoom}

-- the paper's numbers
abbrev pub refusal_number : WriteRefusal → ℕ
refusal_number TooManyWorkers = 14
refusal_number WrongChoiceCount = 16
refusal_number NoRoom = 20

abbrev pub answer_of : {A : Type 0} → Result A WriteRefusal → Answer
answer_of answer = answer_by refusal_number answer

-- an entry, asked these questions, was to be appended to this buffer, of which so many bytes were written; that buffer, that size and that
-- number were left
pub record Writes (questions : List Question) (entry buffer : List ℕ) (size : ℕ) (buffer' : List ℕ) (size' number : ℕ) : Type 0 where
  pub answered : number ≡ answer_number (append_answer questions entry buffer size)
  pub left : buffer' ≡ by_answer (append_answer questions entry buffer size) (appended entry buffer size) buffer
  pub counted : size' ≡ by_answer (append_answer questions entry buffer size) (size + length entry) size

-- the entry of the tick that a seed gives the job of these words: a drawn choice for each granted worker
abbrev pub seeded_entry : List ℕ → ℕ → List ℕ
seeded_entry words seed = entry_bytes (ticks (draws (numbers_in words).workers (numbers_in words).workers seed))
