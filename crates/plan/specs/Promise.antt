-- What plan reading promises of any bytes.
use Rattle.std.specs.Prelude.{◌≡◌, List, ℕ, ◌<◌, length, get_or, replicate, Result, IfOk}
use Rattle.model.specs.Questions.{refused}
use Rattle.model.specs.Plan.{predecessors, plan_of, plan_answer}
use Rattle.memory.specs.Parts.{parts}
use Rattle.memory.specs.View.{left_view}
use Rattle.plan.specs.declared.Heading.{Heading}
use Rattle.plan_fields.specs.declared.PlanRefusal.{PlanRefusal}
use Rattle.plan_fields.specs.Answers.{answer_of}
use Rattle.plan.specs.Headings.{plan_view, Ends}

-- the heading and the memory hold the plan of the bytes, all ticks of each task as left, how many predecessors it has, 0 at and past N, and
-- no link and no deque
pub record Holds (bytes : List ℕ) (r : Heading) (memory : List ℕ) : Type 0 where
  pub shows : plan_view r (parts memory) ≡ plan_of bytes
  pub untouched : left_view (parts memory).spans r.tasks ≡ (plan_of bytes).durations
  pub preceded : (t : ℕ) → t < r.tasks → get_or (parts memory).pending t 0 ≡ length (predecessors (plan_of bytes).graph t)
  pub first_ends : Ends r.tasks (parts memory).first
  pub second_ends : Ends r.tasks (parts memory).second
  pub pending_ends : Ends r.tasks (parts memory).pending
  pub spans_ends : Ends r.tasks (parts memory).spans
  pub no_links : (parts memory).next ≡ replicate 1024 0
  pub no_deques : (parts memory).ends ≡ replicate 256 0

-- the answer is the first "no"; where there is none, the heading and the memory hold the plan; a refusal leaves the memory as it came, and
-- there is no heading. With a prime: after the call.
pub record RightHeading (bytes : List ℕ) (r : Result Heading PlanRefusal) (memory memory' : List ℕ) : Type 0 where
  pub answered : answer_of r ≡ plan_answer bytes
  pub held : IfOk r (λ heading. Holds bytes heading memory')
  pub kept : (number : ℕ) → plan_answer bytes ≡ refused number → memory' ≡ memory
