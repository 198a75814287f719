-- The paper's number for each refusal of plan reading.
use Rattle.std.specs.Prelude.{ℕ, Result}
use Rattle.model.specs.Questions.{Answer}
use Rattle.refusals.specs.Answers.{answer_by}
use Rattle.plan_fields.specs.declared.PlanRefusal.{PlanRefusal}
use Rattle.plan_fields.specs.declared.PlanRefusal.TheVariants.{Short, UnknownForm, BadResponsiveness, BadUtilization, NoQuantum}
use Rattle.plan_fields.specs.declared.PlanRefusal.TheVariants.{WrongLength, BadFields, BadSuccessors, BadPredecessors, LooseEnd, NoTicks}

abbrev pub refusal_number : PlanRefusal → ℕ
refusal_number Short = 1
refusal_number UnknownForm = 2
refusal_number BadResponsiveness = 3
refusal_number BadUtilization = 4
refusal_number NoQuantum = 5
refusal_number WrongLength = 6
refusal_number BadFields = 7
refusal_number BadSuccessors = 8
refusal_number BadPredecessors = 9
refusal_number LooseEnd = 10
refusal_number NoTicks = 28

-- the answer of what a question or a plan gave
abbrev pub answer_of : {A : Type 0} → Result A PlanRefusal → Answer
answer_of r = answer_by refusal_number r
