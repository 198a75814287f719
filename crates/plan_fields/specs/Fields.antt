-- The fields of bytes as numbers, and the questions of fields that were read.
use Rattle.std.specs.Prelude.{◌≡◌, cond, ◌&&◌, List, [], ◌∷◌, ◌++◌, ℕ, ◌+◌, ◌*◌, leb, eqb}
use Rattle.model.specs.Questions.{Question, ask}
use Rattle.model.specs.Plan.{Growth, Form, forms, is_form, form_with, field, growth_with, growth_field_of, utilization_field_of}
use Rattle.model.specs.Plan.{quantum_length_field_of, growth_ok, used_fields, fields_ok, targets_ok}
use Rattle.growth.specs.Meaning.{growth_of}
use Rattle.plan_fields.specs.declared.Header.{Header}
use Rattle.plan_fields.specs.declared.TaskFields.{TaskFields}

-- ---- the fields

-- the fields of five bytes as one number, as they are in some form
pub record HeaderOf (form : Form) (bits : ℕ) (h : Header) : Type 0 where
  pub form_read : h.form ≡ field 4 36 bits
  pub growth_read : growth_of h.growth ≡ growth_with form.in_tenths (growth_field_of form bits)
  pub utilization_read : h.utilization ≡ utilization_field_of form bits
  pub quantum_read : h.quantum ≡ quantum_length_field_of form bits
  pub tasks_read : h.tasks ≡ field 10 0 bits + 1

-- the fields of a task of some form whose bytes are one number
pub record TaskOf (form : Form) (bits : ℕ) (f : TaskFields) : Type 0 where
  pub count_read : f.count ≡ field 2 (22 + form.duration_bits) bits
  pub first_read : f.first ≡ field 11 (11 + form.duration_bits) bits
  pub second_read : f.second ≡ field 11 form.duration_bits bits
  pub ticks_read : f.ticks ≡ cond (eqb form.duration_bits 0) 1 (field form.duration_bits 0 bits)

-- ---- the questions of fields that were read

-- 2 to 6
unfoldable pub field_questions : ℕ → Growth → ℕ → ℕ → ℕ → ℕ → List Question
field_questions form growth utilization quantum tasks size =
    ask (is_form form forms) 2
    ∷ ask (growth_ok growth) 3
    ∷ ask (leb 1 utilization && leb utilization 100) 4
    ∷ ask (leb 1 quantum) 5
    ∷ ask (eqb size (5 + (form_with form forms).task_bytes * tasks)) 6
    ∷ []

-- 7 and 8 of one task
unfoldable pub pair_questions : ℕ → ℕ → ℕ → ℕ → ℕ → List Question
pair_questions n t count first second =
    ask (fields_ok count first second) 7 ∷ ask (targets_ok n t (used_fields count first second)) 8 ∷ []

-- 7, 8 and 28 of one task
unfoldable pub asked_of_task : ℕ → ℕ → TaskFields → List Question
asked_of_task n t f = pair_questions n t f.count f.first f.second ++ (ask (leb 1 f.ticks) 28 ∷ [])
