-- The answer that a `Result` is: accepted, or refused by the number of the refusal.
use Rattle.std.specs.Prelude.{ℕ, Result, Ok, Err}
use Rattle.model.specs.Questions.{Answer, accepted, refused}

abbrev pub answer_by : {A R : Type 0} → (R → ℕ) → Result A R → Answer
answer_by number (Ok _) = accepted
answer_by number (Err refusal) = refused (number refusal)
