-- The paper's number for each refusal of a call, and the answer that a call's result is.
use Rattle.std.specs.Prelude.{ℕ, Result}
use Rattle.model.specs.Questions.{Answer}
use Rattle.refusals.specs.Answers.{answer_by}
use Rattle.call_questions.specs.declared.CallRefusal.{CallRefusal}
use Rattle.call_questions.specs.declared.CallRefusal.TheVariants.{Finished, QuantumOpen, QuantaSpent, TooManyWorkers}
use Rattle.call_questions.specs.declared.CallRefusal.TheVariants.{NoQuantum, WrongChoiceCount, BadChoice, NoOffer, OfferNoted}

abbrev pub refusal_number : CallRefusal → ℕ
refusal_number Finished = 11
refusal_number QuantumOpen = 12
refusal_number QuantaSpent = 13
refusal_number TooManyWorkers = 14
refusal_number NoQuantum = 15
refusal_number WrongChoiceCount = 16
refusal_number BadChoice = 17
refusal_number NoOffer = 24
refusal_number OfferNoted = 25

-- accepted, or refused by that number
abbrev pub answer_of : {A : Type 0} → Result A CallRefusal → Answer
answer_of answer = answer_by refusal_number answer
