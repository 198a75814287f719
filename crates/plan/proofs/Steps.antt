-- Reading the tasks one after the other: from the bytes of a task to its fields, and from the tasks below t to those below t + 1.
use mathlib.Core.Path.{◌≡◌, refl, sym, ◌∙◌, ap}
use mathlib.Core.List.Memᴰ
use mathlib.Core.List.{List, flat_map}
use Rattle.std.specs.Prelude.{Ok}
use Prim.Native.Nat.{ℕ, zero, suc, ◌+◌, ◌*◌, ◌^◌, ◌≤◌, ◌<◌}
use native.Mathlib.Numerals.{add-one}
use native.Mathlib.Omega.{arith}
use lib.ListN.{get_or}
use Rattle.model.specs.Tests.{below, member}
use Rattle.model.specs.Questions.{Question, accepted, refused, first_no}
use Rattle.model.specs.Plan.{form_of, task_bits, duration_field, task_count, count_field, first_field, second_field}
use Rattle.model.specs.Plan.{used_fields, successor_fields}
use Rattle.model.specs.Plan.{task_questions}
use Rattle.memory.specs.Parts.{Parts, with_pending}
use Rattle.plan_fields.specs.Fields.{pair_questions, asked_of_task, TaskOf}
use Rattle.plan.specs.Reads.{noted, counted, fresh_span, Held, TaskRead}
use Rattle.plan_fields.specs.declared.TaskFields.{TaskFields}
use Rattle.lists.proofs.Ranges.{keep_below}
use Rattle.lists.proofs.Questions.{and_then, first_no_below, refused_at}
use Rattle.plan.proofs.Facts.{FieldFacts, TargetFacts, TaskFacts, task_facts}
use Rattle.plan.proofs.Stores.{with_fields, stored_held, stored_ends, noted_ends, noted_most, note_successors}

-- ---- fields

-- a field that is used is below N, and one that is not is 0
module _ (n t : ℕ) (some : 1 ≤ n) where
  first_below : (count first second : ℕ) → FieldFacts count first second → TargetFacts n t (used_fields count first second) → first < n
  first_below zero first second f g = omega (arith, f.first_unused refl)
  first_below (suc zero) first second f g = g.inside first (Memᴰ.head refl)
  first_below (suc (suc more)) first second f g = g.inside first (Memᴰ.head refl)

  second_below : (count first second : ℕ) → FieldFacts count first second → TargetFacts n t (used_fields count first second) → second < n
  second_below zero first second f g = omega (arith, f.second_unused (omega arith))
  second_below (suc zero) first second f g = omega (arith, f.second_unused (omega arith))
  second_below (suc (suc more)) first second f g = g.inside second (Memᴰ.tail (Memᴰ.head refl))

module _ (bytes : List ℕ) (t : ℕ) (passed : first_no (task_questions bytes t) ≡ accepted) where
  facts : TaskFacts bytes t
  facts = task_facts bytes t passed

  pub first_inside : first_field bytes t < task_count bytes
  unfolding successor_fields
  first_inside =
      first_below (task_count bytes) t (omega arith) (count_field bytes t) _ (second_field bytes t) facts.fields facts.targets

  pub second_inside : second_field bytes t < task_count bytes
  unfolding successor_fields
  second_inside =
      second_below (task_count bytes) t (omega arith) (count_field bytes t) (first_field bytes t) _ facts.fields facts.targets

  -- one task more
  pub held_more : (p : Parts) → t < task_count bytes → Held bytes t p →
      Held bytes (t + 1)
      (with_pending (with_fields p t (first_field bytes t) (second_field bytes t) (fresh_span (duration_field bytes t)))
      (noted (noted p.pending (first_field bytes t)) (second_field bytes t)))
  unfolding successor_fields counted
  held_more p l h =
      rw add-one
      (record {
        accepted_so_far =
            first_no_below (task_questions bytes) t
            ∙ (ap (λ a. and_then a (first_no (task_questions bytes t))) h.accepted_so_far ∙ passed);
        first_held = stored_held (first_field bytes) p.first t h.first_ends small h.first_held;
        second_held = stored_held (second_field bytes) p.second t h.second_ends small h.second_held;
        spans_held = stored_held (λ u. fresh_span (duration_field bytes u)) p.spans t h.spans_ends small h.spans_held;
        counts_held = λ u m.
            note_successors (counted bytes t) p.pending (task_count bytes) t (count_field bytes t) _ _
            h.counts_ends.places (omega arith) facts.fields facts.targets h.counts_held u m
            ∙ sym (keep_below (λ q. member u (successor_fields bytes q)) t);
        counts_small = λ u. omega (arith, twice_noted u);
        first_ends = stored_ends (first_field bytes) p.first t h.first_ends small;
        second_ends = stored_ends (second_field bytes) p.second t h.second_ends small;
        spans_ends = stored_ends (λ u. fresh_span (duration_field bytes u)) p.spans t h.spans_ends small;
        counts_ends =
            noted_ends (task_count bytes) _ (second_field bytes t) second_inside
            (noted_ends (task_count bytes) p.pending (first_field bytes t) first_inside h.counts_ends);
        no_links = h.no_links;
        no_deques = h.no_deques;
      })
    where
      small : t < 1024
      small = omega arith

      twice_noted : (u : ℕ) → get_or (noted (noted p.pending (first_field bytes t)) (second_field bytes t)) u 0 ≤ 2 * t + 1 + 1
      twice_noted =
          noted_most _ (second_field bytes t) (2 * t + 1) (noted_most p.pending (first_field bytes t) (2 * t) h.counts_small)

-- the counts have room for the two fields that are noted
module _ {bytes : List ℕ} {t : ℕ} {p p_fields : Parts} (h : Held bytes t p) (small : t < 1024) (first second its_span : ℕ)
    (stored : p_fields ≡ with_fields p t first second its_span) where
  pub room : (s : ℕ) → get_or p_fields.pending s 0 + 1 < 2 ^ 16
  room s = rw stored (omega (arith, h.counts_small s))

  pub room_after : {p_1 : Parts} (s : ℕ) → p_1 ≡ with_pending p_fields (noted p_fields.pending s) →
      (u : ℕ) → get_or p_1.pending u 0 + 1 < 2 ^ 16
  room_after s e u = rw (e, stored) (omega (arith, noted_most p.pending s (2 * t) h.counts_small u))

-- ---- one task, as the code reads it

module _ (bytes : List ℕ) (n t : ℕ) (f : TaskFields) (number : n ≡ task_count bytes)
    (at_task : TaskOf (form_of bytes) (task_bits bytes t) f) where
  asked_as_read : first_no (asked_of_task n t f) ≡ first_no (task_questions bytes t)
  unfolding asked_of_task pair_questions task_questions successor_fields duration_field
  asked_as_read = rw (number, at_task.count_read, at_task.first_read, at_task.second_read, at_task.ticks_read)

  ticks_are : f.ticks ≡ duration_field bytes t
  unfolding duration_field
  ticks_are = at_task.ticks_read

  pub task_refused : {k : ℕ} → refused k ≡ first_no (asked_of_task n t f) → refused k ≡ first_no (task_questions bytes t)
  task_refused answered = answered ∙ asked_as_read

  module _ (answered : accepted ≡ first_no (asked_of_task n t f)) where
    pub task_passed : first_no (task_questions bytes t) ≡ accepted
    task_passed = sym (answered ∙ asked_as_read)

    pub first_small : f.first < 1024
    first_small = rw at_task.first_read (omega (arith, first_inside bytes t task_passed))

    pub second_small : f.second < 1024
    second_small = rw at_task.second_read (omega (arith, second_inside bytes t task_passed))

    -- the fields and the span stored, and then the fields noted
    pub read_passed : (p p_fields p_1 p_2 : Parts) → t < n → Held bytes t p →
        p_fields ≡ with_fields p t f.first f.second (fresh_span f.ticks) →
        p_1 ≡ with_pending p_fields (noted p_fields.pending f.first) → p_2 ≡ with_pending p_1 (noted p_1.pending f.second) →
        TaskRead bytes t (Ok tt) p_2
    read_passed p p_fields p_1 p_2 l h e e_1 e_2 =
        record {
          answered = answered ∙ asked_as_read;
          held =
              rw (e_2, e_1, e, at_task.first_read, at_task.second_read, ticks_are)
              (held_more bytes t task_passed p (omega arith) h);
        }

-- ---- all tasks

-- the first "no" is among the questions of all tasks the first, too
pub refused_there : (f : ℕ → List Question) (k t n : ℕ) → t < n → first_no (flat_map f (below t)) ≡ accepted → refused k ≡ first_no (f t) →
    refused k ≡ first_no (flat_map f (below n))
refused_there f k t n l before e = sym (refused_at f t n k l before (sym e))
