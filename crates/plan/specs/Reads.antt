-- What the inner functions ask and promise, over plain lists and numbers.
use Rattle.std.specs.Prelude.{◌≡◌, Bool, true, not, ◌&&◌, ℕ, ◌+◌, ◌*◌, ◌≤◌, ◌<◌, leb, eqb, length, get_or, set, replicate}
use Rattle.std.specs.Prelude.{Result, IfOk, OnOk}
use mathlib.Core.List.{List, flat_map}
use Rattle.model.specs.Tests.{below, keep, member}
use Rattle.model.specs.Questions.{accepted, first_no}
use Rattle.model.specs.Plan.{forms, is_form, form_of, form_field, header, task_count, first_field, second_field, duration_field}
use Rattle.model.specs.Plan.{successor_fields}
use Rattle.model.specs.Plan.{task_questions, header_questions, plan_answer}
use Rattle.memory.specs.Parts.{Parts, memory_size, span}
use Rattle.plan_fields.specs.declared.Header.{Header}
use Rattle.plan_fields.specs.declared.PlanRefusal.{PlanRefusal}
use Rattle.plan_fields.specs.Answers.{answer_of}
use Rattle.plan_fields.specs.Fields.{HeaderOf}
use Rattle.plan.specs.declared.Heading.{Heading}
use Rattle.plan.specs.Headings.{Ends}
use Rattle.plan.specs.Promise.{Holds}

-- the header is read and accepted
pub record HeaderRead (bytes : List ℕ) (h : Header) : Type 0 where
  pub fields : HeaderOf (form_of bytes) (header bytes) h
  pub passed : first_no (header_questions bytes) ≡ accepted

-- ---- the memory while the tasks are read

-- one more predecessor of the task s
unfoldable pub noted : List ℕ → ℕ → List ℕ
noted counts s = set counts s (get_or counts s 0 + 1)

-- how many of the tasks below i have t as a successor
unfoldable pub counted : List ℕ → ℕ → ℕ → ℕ
counted bytes i t = length (keep (λ p. member t (successor_fields bytes p)) (below i))

-- what `spans` holds of a task of which no tick is done
abbrev pub fresh_span : ℕ → ℕ
fresh_span duration = span * duration + duration

-- the tasks below i are read and accepted, and the parts hold their fields and nothing else, but for the count of task 0: there the
-- unused fields are noted
pub record Held (bytes : List ℕ) (i : ℕ) (p : Parts) : Type 0 where
  pub accepted_so_far : first_no (flat_map (task_questions bytes) (below i)) ≡ accepted
  pub first_held : (t : ℕ) → t < i → get_or p.first t 0 ≡ first_field bytes t
  pub second_held : (t : ℕ) → t < i → get_or p.second t 0 ≡ second_field bytes t
  pub spans_held : (t : ℕ) → t < i → get_or p.spans t 0 ≡ fresh_span (duration_field bytes t)
  pub counts_held : (t : ℕ) → 1 ≤ t → get_or p.pending t 0 ≡ counted bytes i t
  -- each task notes two fields
  pub counts_small : (t : ℕ) → get_or p.pending t 0 ≤ 2 * i
  pub first_ends : Ends i p.first
  pub second_ends : Ends i p.second
  pub spans_ends : Ends i p.spans
  pub counts_ends : Ends (task_count bytes) p.pending
  pub no_links : p.next ≡ replicate 1024 0
  pub no_deques : p.ends ≡ replicate 256 0

-- ---- what the functions over the memory ask and promise

-- the form is known, and the bytes of the task t, so many, are there
pub record FieldsDue (bytes : List ℕ) (t width : ℕ) : Type 0 where
  pub known : is_form (form_field bytes) forms ≡ true
  pub its_width : width ≡ (form_of bytes).task_bytes
  pub there : 5 + width * t + width ≤ length bytes

-- the header is accepted, and the tasks below t are read
pub record Due (bytes : List ℕ) (n t : ℕ) (p : Parts) : Type 0 where
  pub known : is_form (form_field bytes) forms ≡ true
  pub whole : length bytes ≡ 5 + (form_of bytes).task_bytes * n
  pub number : n ≡ task_count bytes
  pub held : Held bytes t p

-- the answer of task t; where it is acceptance, the tasks below t + 1 are read
pub record TaskRead (bytes : List ℕ) (t : ℕ) (r : Result (Unit {0}) PlanRefusal) (p : Parts) : Type 0 where
  pub answered : answer_of r ≡ first_no (task_questions bytes t)
  pub held : OnOk r (Held bytes (t + 1) p)

-- the answer of all tasks; where it is acceptance, all n are read
pub record TasksRead (bytes : List ℕ) (n : ℕ) (r : Result (Unit {0}) PlanRefusal) (p : Parts) : Type 0 where
  pub answered : answer_of r ≡ first_no (flat_map (task_questions bytes) (below n))
  pub held : OnOk r (Held bytes n p)

-- the tests of questions 9 and 10, over the parts
unfoldable pub one_or_two : List ℕ → ℕ → Bool
one_or_two counts t = leb 1 (get_or counts t 0) && leb (get_or counts t 0) 2

unfoldable pub followed : List ℕ → ℕ → Bool
followed first t = not (eqb (get_or first t 0) 0)

-- ---- reading into memory of zeros

unfoldable pub no_memory : List ℕ
no_memory = replicate memory_size 0

-- the answer is the first "no"; where there is none, the heading and the memory hold the plan; a refusal leaves the memory with no meaning:
-- nothing is promised of it
pub record HeadingRead (bytes : List ℕ) (r : Result Heading PlanRefusal) (memory : List ℕ) : Type 0 where
  pub answered : answer_of r ≡ plan_answer bytes
  pub held : IfOk r (λ heading. Holds bytes heading memory)
