-- The wording of a status as a part of the lent sheet.
use Rattle.std.specs.Prelude.{◌≡◌, List, ℕ, ◌+◌, Result, Ok, Err}
use Rattle.std.specs.Borrow.{Bor}
use Rattle.model.specs.Questions.{Answer}
use Rattle.model.specs.Label.{label, label_answer, bytes_of}
use Rattle.refusals.specs.Answers.{answer_by}
use Rattle.label.specs.declared.NoWording.{NoWording}

-- "The wording sheet: Has it the line? 19"
abbrev pub no_wording_number : NoWording → ℕ
no_wording_number _ = 19

abbrev pub wording_answer : {A : Type 0} → Result A NoWording → Answer
wording_answer = answer_by no_wording_number

-- the part that is handed back, with a refusal too
abbrev pub part_of : Result (Bor (List ℕ)) NoWording → Bor (List ℕ)
part_of (Ok part) = part
part_of (Err missing) = missing.part

-- the part has the bytes of the status's line and stands where they stand in the sheet, with the answer that goes with it; where the sheet
-- has no such line, the part is the empty one at the sheet's start, and the number is 19
pub record IsWording (sheet : Bor (List ℕ)) (status : ℕ) (r : Result (Bor (List ℕ)) NoWording) : Type 0 where
  pub answered : wording_answer r ≡ label_answer sheet.now status
  pub bytes : (part_of r).now ≡ bytes_of sheet.now (label sheet.now status)
  pub place : (part_of r).ref_ptr ≡ (sheet.ref_ptr.0, sheet.ref_ptr.1 + (label sheet.now status).start)
