-- The numbers of the input's refusals, and the parts of an input that is not refused.
use Rattle.std.specs.Prelude.{◌≡◌, List, ℕ, Result, Ok, Err}
use Rattle.std.specs.Borrow.{Bor}
use Rattle.model.specs.Questions.{accepted, refused, first_no}
use Rattle.model.specs.Program.{plan_part, log_part, input_questions}
use Rattle.program.specs.declared.InputRefusal.{InputRefusal}
use Rattle.program.specs.declared.InputRefusal.TheVariants.{TooLong, TooShort}

-- the paper's numbers
abbrev pub input_number : InputRefusal → ℕ
input_number TooLong = 21
input_number TooShort = 22

-- the first question that an input answers with no; or its plan and its log
abbrev pub Parts : List ℕ → Result (Bor (List ℕ) × Bor (List ℕ)) InputRefusal → Type 0
Parts input (Ok parts) =
    (first_no (input_questions input) ≡ accepted) × (parts.0.now ≡ plan_part input) × (parts.1.now ≡ log_part input)
Parts input (Err refusal) = first_no (input_questions input) ≡ refused (input_number refusal)
