-- The heading that each way out gives, and the answer that it has: the header's, the tasks', 9, 10 or acceptance.
use mathlib.Core.Path.{◌≡◌, refl, sym, ◌∙◌, ap}
use mathlib.Core.Bool.{Bool, true, false}
use mathlib.Core.List.{List, [], ◌∷◌, flat_map}
use Rattle.std.specs.Prelude.{Ok}
use Prim.Native.Nat.{ℕ, ◌+◌, ◌*◌, ◌-◌, ◌≤◌, ◌<◌}
use native.Mathlib.Omega.{arith}
use borrow.Author.Tests.{le-leb, lt-leb}
use lib.ListN.{length, set, drop}
use Rattle.model.specs.Tests.{below, every}
use Rattle.model.specs.Questions.{Answer, accepted, refused, ask, first_no}
use Rattle.model.specs.Plan.{header, task_count, task_questions, header_questions, graph_questions, all_preceded, one_exit, plan_of}
use Rattle.model.specs.Plan.{plan_answer, Form, forms, form_with, form_of, growth_field}
use Rattle.model.specs.Plan.{utilization_field, quantum_length_field}
use Rattle.growth.specs.Meaning.{growth_of}
use Rattle.memory.specs.Parts.{Parts, parts}
use Rattle.memory.proofs.Regions.{store_pending}
use Rattle.plan_fields.specs.declared.Header.{Header}
use Rattle.plan.specs.declared.Heading.{Heading}
use Rattle.plan_fields.specs.Fields.{field_questions, HeaderOf}
use Rattle.plan.specs.Reads.{HeaderRead, Held, Due, TasksRead, one_or_two, followed}
use Rattle.plan.specs.Reads.{HeadingRead, no_memory}
use Rattle.lists.proofs.Questions.{and_then, two_accepted, first_refused, second_refused}
use Rattle.plan.proofs.Facts.{header_facts}
use Rattle.plan.proofs.Sound.{answer_parts}
use Rattle.plan.proofs.Whole.{question_9, question_10, nothing_held, memory_holds}

-- a refusal, and nothing more is asked
stops : {k : ℕ} {a : Answer} (b : Answer) → refused k ≡ a → refused k ≡ and_then a b
stops b e = rw (← e) refl

-- ---- the header

pub short : (bytes : List ℕ) → length bytes < 5 → refused 1 ≡ plan_answer bytes
unfolding header_questions first_no
short bytes l = sym (answer_parts bytes ∙ rw (lt-leb 5 (length bytes) l))

module _ (bytes front : List ℕ) (h : Header) (long_enough : 5 ≤ length bytes) (same : header front ≡ header bytes)
    (fields : HeaderOf (form_of front) (header front) h) where
  header_of_bytes : HeaderOf (form_of bytes) (header bytes) h
  unfolding form_of
  header_of_bytes = rw same at fields

  abbrev asked_fields : Answer
  asked_fields = first_no (field_questions h.form (growth_of h.growth) h.utilization h.quantum h.tasks (length bytes))

  header_asked : asked_fields ≡ first_no (header_questions bytes)
  unfolding field_questions header_questions first_no form_of growth_field utilization_field quantum_length_field
  header_asked =
      rw (
        header_of_bytes.form_read,
        header_of_bytes.growth_read,
        header_of_bytes.utilization_read,
        header_of_bytes.quantum_read,
        header_of_bytes.tasks_read,
        le-leb 5 (length bytes) long_enough,
      )

  pub header_refused : {k : ℕ} → refused k ≡ asked_fields → refused k ≡ plan_answer bytes
  header_refused asked = stops _ (asked ∙ header_asked) ∙ sym (answer_parts bytes)

  pub header_accepted : accepted ≡ asked_fields → HeaderRead bytes h
  header_accepted asked = record { fields = header_of_bytes; passed = sym (asked ∙ header_asked) }

  pub its_form : {row : Form} → row ≡ form_with h.form forms → row ≡ form_of bytes
  unfolding form_of
  its_form e = e ∙ ap (λ n. form_with n forms) header_of_bytes.form_read

-- ---- the tasks and the graph

module _ (bytes : List ℕ) (h : Header) (read : HeaderRead bytes h) where
  pub tasks_number : h.tasks ≡ task_count bytes
  tasks_number = read.fields.tasks_read

  pub first_due : (memory : List ℕ) → memory ≡ no_memory → Due bytes h.tasks 0 (parts memory)
  first_due memory zeros =
      record {
        known = (header_facts bytes read.passed).known_form;
        whole = (header_facts bytes read.passed).exact_length ∙ ap (λ n. 5 + (form_of bytes).task_bytes * n) (sym tasks_number);
        number = tasks_number;
        held = rw zeros (nothing_held bytes);
      }

  asked_of_tasks : {a : Answer} → a ≡ first_no (flat_map (task_questions bytes) (below h.tasks)) →
      a ≡ first_no (flat_map (task_questions bytes) (below (task_count bytes)))
  asked_of_tasks answered = answered ∙ ap (λ n. first_no (flat_map (task_questions bytes) (below n))) tasks_number

  pub tasks_refused : {k : ℕ} → refused k ≡ first_no (flat_map (task_questions bytes) (below h.tasks)) → refused k ≡ plan_answer bytes
  tasks_refused answered =
      stops (first_no (graph_questions (plan_of bytes).graph)) (asked_of_tasks answered) ∙ sym (answer_parts bytes ∙ rw read.passed)

  module _ (memory : List ℕ) (tasks : TasksRead bytes h.tasks (Ok tt) (parts memory)) where
    abbrev p : Parts
    p = parts memory

    growth_given : growth_of h.growth ≡ growth_field bytes
    unfolding growth_field
    growth_given = read.fields.growth_read

    abbrev nine_asked : Bool
    nine_asked = every (one_or_two p.pending) (drop 1 (below h.tasks))

    abbrev ten_asked : Bool
    ten_asked = every (followed p.first) (below (h.tasks - 1))

    all_held : Held bytes (task_count bytes) p
    all_held = rw (← tasks_number) tasks.held

    -- what is left of the answer
    graph_left : plan_answer bytes ≡ first_no (ask (all_preceded (plan_of bytes).graph) 9 ∷ ask (one_exit (plan_of bytes).graph) 10 ∷ [])
    unfolding graph_questions
    graph_left = answer_parts bytes ∙ rw (read.passed, sym (asked_of_tasks tasks.answered))

    pub refused_9 : nine_asked ≡ false → refused 9 ≡ plan_answer bytes
    refused_9 fails = sym (graph_left ∙ first_refused _ 9 10 (sym (question_9 bytes p all_held) ∙ rw tasks_number at fails))

    pub refused_10 : nine_asked ≡ true → ten_asked ≡ false → refused 10 ≡ plan_answer bytes
    refused_10 nine fails =
        sym
        (graph_left
        ∙ second_refused 9 10 (sym (question_9 bytes p all_held) ∙ rw tasks_number at nine)
        (sym (question_10 bytes p all_held) ∙ rw tasks_number at fails))

    pub accepted_whole : nine_asked ≡ true → ten_asked ≡ true → (r : Heading) → r.growth ≡ h.growth → r.utilization ≡ h.utilization →
        r.quantum_length ≡ h.quantum → r.tasks ≡ h.tasks → HeadingRead bytes (Ok r) (set memory 3072 0)
    accepted_whole nine ten r e_g e_u e_q e_n =
        let passed =
        two_accepted 9 10 (sym (question_9 bytes p all_held) ∙ rw tasks_number at nine)
        (sym (question_10 bytes p all_held) ∙ rw tasks_number at ten) in
        record {
          answered = sym (graph_left ∙ passed);
          held =
              memory_holds bytes p all_held r (set memory 3072 0) (store_pending memory 0 0 (omega arith))
              (ap growth_of e_g ∙ growth_given) (e_u ∙ read.fields.utilization_read)
              (e_q ∙ read.fields.quantum_read) (e_n ∙ tasks_number);
        }
