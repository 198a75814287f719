-- Questions, each with its number when the answer is no. Lists of questions are in the order of document 01.
use Rattle.std.specs.Prelude.{Bool, cond, List, [], ◌∷◌, ℕ}

pub record Question : Type 0 where
  pub holds : Bool  -- the answer is yes
  pub number : ℕ  -- the refusal's number when it is no

pub data Answer : Type 0 where
  accepted : Answer
  refused : ℕ → Answer

abbrev pub ask : Bool → ℕ → Question
ask holds number = record { holds = holds; number = number }

-- the number of the first "no"; later questions do not count
unfoldable pub first_no : List Question → Answer
first_no [] = accepted
first_no (q ∷ qs) = cond q.holds (first_no qs) (refused q.number)

module _ {A : Type 0} where
  -- the first where the call was accepted, the second where it was refused
  abbrev pub by_answer : Answer → A → A → A
  by_answer accepted new old = new
  by_answer (refused n) new old = old

-- a refused answer's number, and 0 for an accepted one
abbrev pub answer_number : Answer → ℕ
answer_number accepted = 0
answer_number (refused n) = n
