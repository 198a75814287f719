-- Document 01's number and stretch for each answer of `find`.
use Rattle.std.specs.Prelude.{ℕ, Result, Ok, Err}
use Rattle.model.specs.Questions.{Answer}
use Rattle.model.specs.Label.{Stretch, no_stretch}
use Rattle.refusals.specs.Answers.{answer_by}
use Rattle.label.specs.declared.NoLine.{NoLine}
use Rattle.label.specs.declared.Stretch.{Stretch as Line}

-- "The wording sheet: Has it the line? 19"
abbrev pub no_line_number : NoLine → ℕ
no_line_number _ = 19

abbrev pub found_answer : {A : Type 0} → Result A NoLine → Answer
found_answer = answer_by no_line_number

-- 19 has the empty part at the sheet's start
abbrev pub found_stretch : Result Line NoLine → Stretch
found_stretch (Ok line) = record { start = line.start; size = line.size }
found_stretch (Err _) = no_stretch
