-- The plan forms: which there are, where the bytes of a task stand, and how large the fields can be. The tasks of forms 1 and 3 last one
-- tick.
use mathlib.Core.Path.{◌≡◌, refl, sym, ◌∙◌}
use mathlib.Core.Bool.{Bool, true, false, cond}
use mathlib.Core.Logic.{◌⊎◌, inl, inr}
use mathlib.Core.List.{List, [], ◌∷◌}
use Prim.Native.Nat.{ℕ, zero, suc, ◌+◌, ◌*◌, ◌≤◌, ◌<◌}
use native.Mathlib.Nat.{add-zero, mul-suc, mul-le-mul}
use native.Mathlib.Omega.{arith}
use lib.Dec.{eqb}
use lib.ListN.{length, get_or}
use Rattle.model.specs.Plan.{Form, form_1, form_2, form_3, no_form, forms, is_form, form_with, form_of, form_field, number, field, header}
use Rattle.model.specs.Plan.{task_bits, task_count, duration_field, growth_field_of, quantum_length_field_of}
use Rattle.model.specs.Plan.{growth_with, growth_field, plan_of, duration_of, longest_duration, longest_quantum}
use Rattle.model.specs.Statements.{GrowthMost}
use Rattle.plan_fields.specs.declared.TaskFields.{TaskFields}
use Rattle.plan_fields.specs.Fields.{TaskOf}
use Rattle.plan.specs.Reads.{FieldsDue}
use Rattle.lists.proofs.Tests.{true_is_not_false}
use Rattle.lists.proofs.Tables.{table_at, table_length}
use Rattle.lists.proofs.Sums.{some_within}

-- ---- which forms there are

data KnownForm (row : Form) : Type 0 where
  is_1 : row ≡ form_1 → KnownForm row
  is_2 : row ≡ form_2 → KnownForm row
  is_3 : row ≡ form_3 → KnownForm row

known_form : (bytes : List ℕ) → is_form (form_field bytes) forms ≡ true → KnownForm (form_of bytes)
unfolding form_of form_with is_form forms
known_form bytes h = by (eqb (form_field bytes) 1) (eqb (form_field bytes) 2) (eqb (form_field bytes) 3) h
  where
    by : (a b c : Bool) → cond a true (cond b true (cond c true false)) ≡ true →
        KnownForm (cond a form_1 (cond b form_2 (cond c form_3 no_form)))
    by true b c h = is_1 refl
    by false true c h = is_2 refl
    by false false true h = is_3 refl
    by false false false h = absurd (true_is_not_false h refl)

-- ---- the bytes of a task

-- form 3 has form 1's tasks
as_form_3 : {bits : ℕ} {f : TaskFields} → TaskOf form_1 bits f → TaskOf form_3 bits f
as_form_3 r =
    record {
      count_read = r.count_read;
      first_read = r.first_read;
      second_read = r.second_read;
      ticks_read = r.ticks_read;
    }

module _ (bytes : List ℕ) (t : ℕ) where
  bits_of_three : (form_of bytes).task_bytes ≡ 3 →
      task_bits bytes t ≡ number (get_or bytes (5 + 3 * t) 0 ∷ get_or bytes (5 + 3 * t + 1) 0 ∷ get_or bytes (5 + 3 * t + 2) 0 ∷ []) 0 3
  unfolding task_bits number
  bits_of_three e = rw (e, add-zero (5 + 3 * t)) (omega arith)

  bits_of_four : (form_of bytes).task_bytes ≡ 4 →
      task_bits bytes t
      ≡ number
      (get_or bytes (5 + 4 * t) 0
      ∷ get_or bytes (5 + 4 * t + 1) 0
      ∷ get_or bytes (5 + 4 * t + 2) 0
      ∷ get_or bytes (5 + 4 * t + 3) 0
      ∷ [])
      0 4
  unfolding task_bits number
  bits_of_four e = rw (e, add-zero (5 + 4 * t)) (omega arith)

  -- as the code tells the forms apart, with the bytes of a task
  module _ (known : is_form (form_field bytes) forms ≡ true) (width : ℕ) (its_width : width ≡ (form_of bytes).task_bytes) where
    module _ {f : TaskFields} where
      pub of_four : width ≡ 4 →
          TaskOf form_2
          (number
          (get_or bytes (5 + width * t) 0
          ∷ get_or bytes (5 + width * t + 1) 0
          ∷ get_or bytes (5 + width * t + 2) 0
          ∷ get_or bytes (5 + width * t + 3) 0
          ∷ []) 0 4) f →
          TaskOf (form_of bytes) (task_bits bytes t) f
      of_four four read = go (known_form bytes known)
        where
          go : KnownForm (form_of bytes) → TaskOf (form_of bytes) (task_bits bytes t) f
          go (is_1 e) = let three : width ≡ 3 = rw (its_width, e) in absurd (omega arith)
          go (is_2 e) = rw (bits_of_four (sym its_width ∙ four), e) (rw four at read)
          go (is_3 e) = let three : width ≡ 3 = rw (its_width, e) in absurd (omega arith)

      pub of_three : (width ≡ 4 → ⊥) →
          TaskOf form_1
          (number (get_or bytes (5 + width * t) 0 ∷ get_or bytes (5 + width * t + 1) 0 ∷ get_or bytes (5 + width * t + 2) 0 ∷ []) 0 3) f →
          TaskOf (form_of bytes) (task_bits bytes t) f
      of_three other read = go (known_form bytes known)
        where
          go : KnownForm (form_of bytes) → TaskOf (form_of bytes) (task_bits bytes t) f
          go (is_1 e) =
              let three : width ≡ 3 = rw (its_width, e) in
              rw (bits_of_three (sym its_width ∙ three), e) (rw three at read)
          go (is_2 e) = absurd (other (rw (its_width, e)))
          go (is_3 e) =
              let three : width ≡ 3 = rw (its_width, e) in
              rw (bits_of_three (sym its_width ∙ three), e) (as_form_3 (rw three at read))

pub three_or_more : (bytes : List ℕ) (t width : ℕ) → FieldsDue bytes t width → 3 ≤ width
three_or_more bytes t width due = go (known_form bytes due.known)
  where
    go : KnownForm (form_of bytes) → 3 ≤ width
    go (is_1 e) = rw (due.its_width, e) (omega arith)
    go (is_2 e) = rw (due.its_width, e) (omega arith)
    go (is_3 e) = rw (due.its_width, e) (omega arith)

-- the bytes of a task are among those of all tasks
pub task_there : (width t n size : ℕ) → t < n → size ≡ 5 + width * n → 5 + width * t + width ≤ size
task_there width t n size l e =
    let next = mul-suc width t in
    let most : width * suc t ≤ width * n = mul-le-mul (omega arith) l in
    omega arith

-- ---- how large the fields can be

-- what holds of every form and of what is none, holds of the bytes' own
each_form : (P : Form → Type 0) → P form_1 → P form_2 → P form_3 → P no_form → (bytes : List ℕ) → P (form_of bytes)
unfolding form_of form_with forms
each_form P a b c d bytes = by (eqb (form_field bytes) 1) (eqb (form_field bytes) 2) (eqb (form_field bytes) 3)
  where
    by : (x y z : Bool) → P (cond x form_1 (cond y form_2 (cond z form_3 no_form)))
    by true y z = a
    by false true z = b
    by false false true = c
    by false false false = d

pub growth_most : (bytes : List ℕ) → GrowthMost (growth_field bytes)
unfolding growth_field
growth_most bytes =
    each_form (λ f. GrowthMost (growth_with f.in_tenths (growth_field_of f (header bytes)))) (omega arith) (omega arith) (omega arith)
    (omega arith) bytes

pub quantum_most : (bytes : List ℕ) → quantum_length_field_of (form_of bytes) (header bytes) ≤ longest_quantum
quantum_most bytes =
    each_form (λ f. quantum_length_field_of f (header bytes) ≤ longest_quantum) (omega arith) (omega arith) (omega arith) (omega arith)
    bytes

-- ---- how long a task lasts

pub duration_most : (bytes : List ℕ) (t : ℕ) → duration_field bytes t ≤ longest_duration
unfolding duration_field
duration_most bytes t =
    each_form (λ f. cond (eqb f.duration_bits 0) 1 (field f.duration_bits 0 (task_bits bytes t)) ≤ longest_duration) (omega arith)
    (omega arith) (omega arith) (omega arith) bytes

module _ (bytes : List ℕ) where
  pub durations_length : length (plan_of bytes).durations ≡ task_count bytes
  unfolding plan_of
  durations_length = table_length (duration_field bytes) (task_count bytes)

  pub duration_given : (t : ℕ) → t < task_count bytes → duration_of (plan_of bytes) t ≡ duration_field bytes t
  unfolding plan_of
  duration_given t l = table_at (duration_field bytes) (task_count bytes) t 0 l

  pub durations_most : (t : ℕ) → duration_of (plan_of bytes) t ≤ longest_duration
  durations_most t = go (duration_of (plan_of bytes) t) refl
    where
      go : (n : ℕ) → duration_of (plan_of bytes) t ≡ n → duration_of (plan_of bytes) t ≤ longest_duration
      go zero e = omega arith
      go (suc n) e =
          let l : t < task_count bytes = rw durations_length at (some_within (plan_of bytes).durations t (omega arith)) in
          rw (duration_given t l) (duration_most bytes t)

-- the tasks of forms 1 and 3 last one tick, so that `WorkIsTasks` of model is of them
pub one_tick_each : (bytes : List ℕ) → (form_field bytes ≡ 1) ⊎ (form_field bytes ≡ 3) → (t : ℕ) → duration_of (plan_of bytes) t ≤ 1
unfolding duration_field form_of form_with forms
one_tick_each bytes which t = go (duration_of (plan_of bytes) t) refl
  where
    lasts : (form_field bytes ≡ 1) ⊎ (form_field bytes ≡ 3) → (x : ℕ) → duration_field bytes x ≡ 1
    lasts (inl one) x = rw one
    lasts (inr three) x = rw three

    go : (n : ℕ) → duration_of (plan_of bytes) t ≡ n → duration_of (plan_of bytes) t ≤ 1
    go zero e = omega arith
    go (suc n) e =
        let l : t < task_count bytes = rw (durations_length bytes) at (some_within (plan_of bytes).durations t (omega arith)) in
        rw (duration_given bytes t l, lasts which t) (omega arith)
