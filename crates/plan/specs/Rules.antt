-- The plan rules as plain facts. What the plan itself shows of them is model's SoundPlan; what stands here is said of the bytes.
use Rattle.std.specs.Prelude.{◌≡◌, true, ℕ, ◌+◌, ◌*◌, ◌≤◌, ◌<◌, length}
use mathlib.Core.List.{List, Memᴰ}
use Rattle.model.specs.Plan.{Graph, successors_of, forms, is_form, form_of}
use Rattle.model.specs.Plan.{form_field, task_count, count_field, first_field, second_field, plan_of}
use Rattle.model.specs.Statements.{SoundPlan}

-- the bytes are those of a plan: long enough, a known form, no byte too few or too many, counts of at most 2, unused fields 0
pub record WellFormed (bytes : List ℕ) : Type 0 where
  pub long_enough : 5 ≤ length bytes
  pub known_form : is_form (form_field bytes) forms ≡ true
  pub exact_length : length bytes ≡ 5 + (form_of bytes).task_bytes * task_count bytes
  pub two_fields : (t : ℕ) → t < task_count bytes → count_field bytes t ≤ 2
  pub first_unused : (t : ℕ) → t < task_count bytes → count_field bytes t ≡ 0 → first_field bytes t ≡ 0
  pub second_unused : (t : ℕ) → t < task_count bytes → count_field bytes t ≤ 1 → second_field bytes t ≡ 0

-- all plan rules
pub record PlanRules (bytes : List ℕ) : Type 0 where
  pub well_formed : WellFormed bytes
  pub sound : SoundPlan (plan_of bytes)

-- a path of successors from one task to another
pub data Leads (graph : Graph) (start : ℕ) : ℕ → Type 0 where
  nowhere : {t : ℕ} → t ≡ start → Leads graph start t
  onward : {p t : ℕ} → Leads graph start p → Memᴰ t (successors_of graph p) → Leads graph start t
