-- A record that a call gives back may be handed to the next, and so may that of an accepted plan; and what the contracts alone say of
-- Plan A's record and a first grant of 2.
-- Assumes nothing.
use mathlib.Core.Path.{◌≡◌, refl, ap, ◌∙◌}
use mathlib.Core.List.{List, []}
use Prim.Native.Nat.{ℕ}
use Rattle.std.specs.Prelude.{Result, Ok, Err}
use Rattle.model.specs.Questions.{accepted, refused}
use Rattle.model.specs.Plan.{plan_of, plan_answer}
use Rattle.model.specs.Machine.{Call, grants, call_answer, status}
use Rattle.model.specs.Examples.{plan_a}
use Rattle.model.proofs.Examples.{plan_a_begins}
use Rattle.memory.specs.declared.Job.{Job}
use Rattle.memory.specs.Jobs.{job_state}
use Rattle.plan_fields.specs.declared.PlanRefusal.{PlanRefusal}
use Rattle.plan_fields.specs.Answers.{answer_of}
use Rattle.engine.specs.Reached.{IsJob}
use Rattle.engine.specs.Moves.{Accepts, Moves}
use Rattle.engine.proofs.Moving.{not_both}

pub onward : {call : Call} {job job' : Job} → IsJob job → Moves call job job' → IsJob job'
onward from moves = (from.0, _, moves.reached from.0 from.1 from.2)

-- an accepted plan gives a value
pub given : {A : Type 0} (answer : Result A PlanRefusal) → answer_of answer ≡ accepted → (a : A) × (answer ≡ Ok a)
given (Ok a) yes_answer = (a, refl)
given (Err refusal) yes_answer = absurd (not_both _ yes_answer refl)

pub begun : {bytes : List ℕ} {before job : Job} → Accepts bytes before job → plan_answer bytes ≡ accepted → IsJob job
begun {bytes} accepts yes_answer = (plan_of bytes, [], accepts.reached yes_answer)

module _ {before job : Job} (accepts : Accepts plan_a before job) where
  pub refused_14 : call_answer (grants 2) (job_state job) ≡ refused 14
  refused_14 = ap (call_answer (grants 2)) (accepts.its_state plan_a_begins.0) ∙ plan_a_begins.1

  pub still_fresh : {job' : Job} → Moves (grants 2) job job' → status (job_state job') ≡ 0
  still_fresh moves =
      ap (λ (job : Job). status (job_state job)) (moves.unchanged 14 refused_14)
      ∙ ap status (accepts.its_state plan_a_begins.0)
      ∙ plan_a_begins.2
