-- What the questions say as facts: of the header, of one task's fields, of its successors and of its ticks.
use mathlib.Core.Path.{◌≡◌, refl, sym, ◌∙◌, ap}
use mathlib.Core.Bool.{true, ◌&&◌}
use mathlib.Core.List.{List, [], ◌∷◌, Memᴰ}
use Prim.Native.Nat.{ℕ, zero, suc, ◌+◌, ◌*◌, ◌≤◌, ◌<◌}
use native.Mathlib.Omega.{arith}
use borrow.Author.Tests.{ltb-true, leb-true, eqb-true, lt-ltb, le-leb, eq-eqb, ne_eqb, not-true}
use lib.Dec.{leb, ltb, eqb}
use lib.ListN.{length}
use Rattle.model.specs.Tests.{every}
use Rattle.model.specs.Questions.{accepted, first_no}
use Rattle.model.specs.Plan.{tasks, successors_of, form_field, growth_ok, growth_field, utilization_field, task_count}
use Rattle.model.specs.Plan.{Growth, by_factor, by_tenths, quantum_length_field}
use Rattle.model.specs.Statements.{Responsive}
use Rattle.model.specs.Plan.{count_field, first_field, second_field, used_fields, successor_fields, plan_of, fields_ok, two_differ}
use Rattle.model.specs.Plan.{targets_ok, task_questions, header_questions, forms, is_form, form_of, duration_field}
use Rattle.lists.proofs.Tests.{true_is_not_false, and_left, and_right, both}
use Rattle.lists.proofs.Lists.{every_at, every_from}
use Rattle.lists.proofs.Tables.{table_length, table_at}
use Rattle.lists.proofs.Questions.{ask_accepted}

-- ---- the plan that bytes give

pub tasks_of : (bytes : List ℕ) → tasks (plan_of bytes).graph ≡ task_count bytes
unfolding plan_of
tasks_of bytes = table_length (successor_fields bytes) (task_count bytes)

pub successors_given : (bytes : List ℕ) (t : ℕ) → t < task_count bytes → successors_of (plan_of bytes).graph t ≡ successor_fields bytes t
unfolding plan_of
successors_given bytes t h = table_at (successor_fields bytes) (task_count bytes) t [] h

-- ---- the header

-- question 3 of either growth
responsive_of : (growth : Growth) → growth_ok growth ≡ true → Responsive growth
responsive_of (by_factor r) passed = leb-true 2 r passed
responsive_of (by_tenths t) passed =
    (leb-true 12 t (and_left (leb 12 t) (leb t 20) passed), leb-true t 20 (and_right (leb 12 t) (leb t 20) passed))

growth_accepted : (growth : Growth) → Responsive growth → growth_ok growth ≡ true
growth_accepted (by_factor r) h = le-leb 2 r h
growth_accepted (by_tenths t) h = rw (le-leb 12 t h.0, le-leb t 20 h.1) refl

pub record HeaderFacts (bytes : List ℕ) : Type 0 where
  pub long_enough : 5 ≤ length bytes
  pub known_form : is_form (form_field bytes) forms ≡ true
  pub responsive : Responsive (growth_field bytes)
  pub utilized : 1 ≤ utilization_field bytes
  pub percent : utilization_field bytes ≤ 100
  pub timed : 1 ≤ quantum_length_field bytes
  pub exact_length : length bytes ≡ 5 + (form_of bytes).task_bytes * task_count bytes

pub header_facts : (bytes : List ℕ) → first_no (header_questions bytes) ≡ accepted → HeaderFacts bytes
unfolding header_questions
header_facts bytes h =
    let a = ask_accepted _ _ _ h in
    let b = ask_accepted _ _ _ a.1 in
    let c = ask_accepted _ _ _ b.1 in
    let d = ask_accepted _ _ _ c.1 in
    let e = ask_accepted _ _ _ d.1 in
    let f = ask_accepted _ _ _ e.1 in
    record {
      long_enough = leb-true _ _ a.0;
      known_form = b.0;
      responsive = responsive_of (growth_field bytes) c.0;
      utilized = leb-true _ _ (and_left (leb 1 (utilization_field bytes)) (leb (utilization_field bytes) 100) d.0);
      percent = leb-true _ _ (and_right (leb 1 (utilization_field bytes)) (leb (utilization_field bytes) 100) d.0);
      timed = leb-true _ _ e.0;
      exact_length = eqb-true _ _ f.0;
    }

pub header_accepted : (bytes : List ℕ) → HeaderFacts bytes → first_no (header_questions bytes) ≡ accepted
unfolding header_questions first_no
header_accepted bytes h =
    rw (
      le-leb 5 (length bytes) h.long_enough,
      h.known_form,
      growth_accepted (growth_field bytes) h.responsive,
      le-leb 1 (utilization_field bytes) h.utilized,
      le-leb (utilization_field bytes) 100 h.percent,
      le-leb 1 (quantum_length_field bytes) h.timed,
      eq-eqb (length bytes) (5 + (form_of bytes).task_bytes * task_count bytes) h.exact_length,
    )

-- ---- one task's fields: question 7

pub record FieldFacts (count first second : ℕ) : Type 0 where
  pub two_fields : count ≤ 2
  pub first_unused : count ≡ 0 → first ≡ 0
  pub second_unused : count ≤ 1 → second ≡ 0

pub fields_facts : (count first second : ℕ) → fields_ok count first second ≡ true → FieldFacts count first second
unfolding fields_ok
fields_facts zero f s h =
    record {
      two_fields = omega arith;
      first_unused = λ e. eqb-true f 0 (and_left (eqb f 0) (eqb s 0) h);
      second_unused = λ l. eqb-true s 0 (and_right (eqb f 0) (eqb s 0) h);
    }
fields_facts (suc zero) f s h =
    record { two_fields = omega arith; first_unused = λ e. absurd (omega arith); second_unused = λ l. eqb-true _ _ h }
fields_facts (suc (suc zero)) f s h =
    record { two_fields = omega arith; first_unused = λ e. absurd (omega arith); second_unused = λ l. absurd (omega arith) }
fields_facts (suc (suc (suc more))) f s h = absurd (true_is_not_false h refl)

pub fields_accepted : (count first second : ℕ) → FieldFacts count first second → fields_ok count first second ≡ true
unfolding fields_ok
fields_accepted zero f s h = both _ _ (eq-eqb f 0 (h.first_unused refl)) (eq-eqb s 0 (h.second_unused (omega arith)))
fields_accepted (suc zero) f s h = eq-eqb s 0 (h.second_unused (omega arith))
fields_accepted (suc (suc zero)) f s h = refl
fields_accepted (suc (suc (suc more))) f s h = absurd (omega (arith, h.two_fields))

-- ---- its successors: question 8

pub record TargetFacts (n t : ℕ) (successors : List ℕ) : Type 0 where
  pub upward : (s : ℕ) → Memᴰ s successors → t < s
  pub inside : (s : ℕ) → Memᴰ s successors → s < n
  pub apart : (a b : ℕ) → successors ≡ a ∷ b ∷ [] → a ≡ b → ⊥

pub same_targets : {n m t : ℕ} {xs ys : List ℕ} → n ≡ m → xs ≡ ys → TargetFacts n t xs → TargetFacts m t ys
same_targets p q h = rw (← p, ← q) h

differ : (a b : ℕ) (successors : List ℕ) → two_differ successors ≡ true → successors ≡ a ∷ b ∷ [] → a ≡ b → ⊥
unfolding two_differ
differ a b successors h e same =
    true_is_not_false (eq-eqb a b same) (not-true (eqb a b) (sym (ap two_differ e) ∙ h))

differ_test : (successors : List ℕ) → length successors ≤ 2 → ((a b : ℕ) → successors ≡ a ∷ b ∷ [] → a ≡ b → ⊥) →
    two_differ successors ≡ true
unfolding two_differ
differ_test [] l h = refl
differ_test (x ∷ []) l h = refl
differ_test (x ∷ (y ∷ [])) l h = rw (ne_eqb x y (h x y refl))
differ_test (x ∷ (y ∷ (z ∷ rest))) l h = absurd (omega arith)

pub target_facts : (n t : ℕ) (successors : List ℕ) → targets_ok n t successors ≡ true → TargetFacts n t successors
unfolding targets_ok
target_facts n t successors h =
    let rising = every (λ s. ltb t s && ltb s n) successors in
    let each = every_at (λ s. ltb t s && ltb s n) successors (and_left rising (two_differ successors) h) in
    record {
      upward = λ s m. ltb-true t s (and_left (ltb t s) (ltb s n) (each s m));
      inside = λ s m. ltb-true s n (and_right (ltb t s) (ltb s n) (each s m));
      apart = λ a b. differ a b successors (and_right rising (two_differ successors) h);
    }

pub targets_accepted : (n t : ℕ) (successors : List ℕ) → length successors ≤ 2 → TargetFacts n t successors →
    targets_ok n t successors ≡ true
unfolding targets_ok
targets_accepted n t successors l h =
    both _ _
    (every_from (λ s. ltb t s && ltb s n) successors (λ s m. both _ _ (lt-ltb t s (h.upward s m)) (lt-ltb s n (h.inside s m))))
    (differ_test successors l h.apart)

pub used_most : (count first second : ℕ) → length (used_fields count first second) ≤ 2
used_most zero f s = omega arith
used_most (suc zero) f s = omega arith
used_most (suc (suc more)) f s = omega arith

-- the questions of a task
pub record TaskFacts (bytes : List ℕ) (t : ℕ) : Type 0 where
  pub fields : FieldFacts (count_field bytes t) (first_field bytes t) (second_field bytes t)
  pub targets : TargetFacts (task_count bytes) t (successor_fields bytes t)
  pub lasts : 1 ≤ duration_field bytes t

pub task_facts : (bytes : List ℕ) (t : ℕ) → first_no (task_questions bytes t) ≡ accepted → TaskFacts bytes t
unfolding task_questions
task_facts bytes t h =
    let a = ask_accepted _ _ _ h in
    let b = ask_accepted _ _ _ a.1 in
    let c = ask_accepted _ _ _ b.1 in
    record { fields = fields_facts _ _ _ a.0; targets = target_facts _ _ _ b.0; lasts = leb-true _ _ c.0 }

pub task_accepted : (bytes : List ℕ) (t : ℕ) → TaskFacts bytes t → first_no (task_questions bytes t) ≡ accepted
unfolding task_questions successor_fields first_no
task_accepted bytes t h =
    let used = used_fields (count_field bytes t) (first_field bytes t) (second_field bytes t) in
    let most = used_most (count_field bytes t) (first_field bytes t) (second_field bytes t) in
    rw (
      fields_accepted (count_field bytes t) (first_field bytes t) (second_field bytes t) h.fields,
      targets_accepted (task_count bytes) t used most h.targets,
      le-leb 1 (duration_field bytes t) h.lasts,
    )
