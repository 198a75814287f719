-- Document 01, "The plan's bits" and "Questions": plan bytes, and the plan that they give.
use Rattle.std.specs.Prelude.{Bool, true, false, cond, not, ◌&&◌, ℕ, zero, suc, ◌+◌, ◌*◌}
use Rattle.std.specs.Prelude.{◌/◌, ◌%◌, ◌^◌, leb, ltb, eqb, length, get_or, drop}
use Rattle.std.specs.Bool.{beq}
use mathlib.Core.List.{List, [], ◌∷◌, ◌++◌, map, flat_map}
use Rattle.model.specs.Tests.{below, every, keep, is_empty, member}
use Rattle.model.specs.Questions.{Question, ask, Answer, first_no}

-- ---- the plan

-- R, the responsiveness: how the wanted count grows
pub data Growth : Type 0 where
  by_factor : ℕ → Growth  -- forms 1 and 2: a whole number
  by_tenths : ℕ → Growth  -- form 3: so many tenths

-- what the ticks and the end of every quantum (round) go by
pub record Terms : Type 0 where
  pub growth : Growth  -- R
  pub utilization : ℕ  -- D, in percent
  pub quantum_length : ℕ  -- L, ticks of a quantum

-- what the workers' cycles go by: tasks (document 01: pieces) numbered from 0, each with its successors (followers) in the order of their
-- fields
pub record Graph : Type 0 where
  pub successors : List (List ℕ)  -- of each task, by its number

pub record Plan : Type 0 where
  pub terms : Terms
  pub graph : Graph
  pub durations : List ℕ  -- of each task, by its number: the work ticks that it takes

-- N, the number of tasks
abbrev pub tasks : Graph → ℕ
tasks graph = length graph.successors

-- the successors (followers) of the task t
abbrev pub successors_of : Graph → ℕ → List ℕ
successors_of graph t = get_or graph.successors t []

-- the work ticks that the task t takes; what is no task takes none
abbrev pub duration_of : Plan → ℕ → ℕ
duration_of plan t = get_or plan.durations t 0

-- "A piece is before its own followers and before no other piece": the predecessors of the task t
unfoldable pub predecessors : Graph → ℕ → List ℕ
predecessors graph t = keep (λ p. member t (successors_of graph p)) (below (tasks graph))

-- ---- the plan's bits

-- "A plan is 1 to 1,024 pieces"
abbrev pub most_tasks : ℕ
most_tasks = 1024

-- the largest L of 16 bits
abbrev pub longest_quantum : ℕ
longest_quantum = 65535

-- the most ticks of 8 bits
abbrev pub longest_duration : ℕ
longest_duration = 255

-- the number that n bytes make, from the one at a place on, the first byte the most significant
unfoldable pub number : List ℕ → ℕ → ℕ → ℕ
number bytes place zero = 0
number bytes place (suc n) = number bytes place n * 256 + get_or bytes (place + n) 0

-- the unsigned field of so many bits that has so many bits below it
abbrev pub field : ℕ → ℕ → ℕ → ℕ
field bits under n = n / 2 ^ under % 2 ^ bits

-- "Header, 40 bits": five fields, most significant first
unfoldable pub header : List ℕ → ℕ
header bytes = number bytes 0 5

abbrev pub form_field : List ℕ → ℕ
form_field bytes = field 4 36 (header bytes)

-- a plan form: its number, and how the bits of the header and of a task are laid out
pub record Form : Type 0 where
  pub code : ℕ  -- what the header's form field holds
  pub growth_bits : ℕ  -- the header's bits of R
  pub in_tenths : Bool  -- they count tenths
  pub length_bits : ℕ  -- its bits of L
  pub task_bytes : ℕ  -- the bytes of a task
  pub duration_bits : ℕ  -- its last so many bits are its ticks; where they are none every task lasts one tick

-- the forms. Document 01: "form 4, value 1; R 3; D 7; L 16; number of pieces N less one, 10. Then 24 bits a piece". Request U9: "Plan form
-- 2 has the same header and 32 bits a piece: the three old fields and 8 bits of ticks". Request U14: "Plan form 3 packs form 4 bits, R in
-- tenths 5, D 7, L 14, N less one 10, and has form 1's pieces."
abbrev pub form_1 : Form
form_1 = record { code = 1; growth_bits = 3; in_tenths = false; length_bits = 16; task_bytes = 3; duration_bits = 0 }

abbrev pub form_2 : Form
form_2 = record { code = 2; growth_bits = 3; in_tenths = false; length_bits = 16; task_bytes = 4; duration_bits = 8 }

abbrev pub form_3 : Form
form_3 = record { code = 3; growth_bits = 5; in_tenths = true; length_bits = 14; task_bytes = 3; duration_bits = 0 }

unfoldable pub forms : List Form
forms = form_1 ∷ form_2 ∷ form_3 ∷ []

-- a form of that number is among them
unfoldable pub is_form : ℕ → List Form → Bool
is_form code [] = false
is_form code (form ∷ others) = cond (eqb code form.code) true (is_form code others)

-- no form: document 01's header, and tasks without bytes
abbrev pub no_form : Form
no_form = record { code = 0; growth_bits = 3; in_tenths = false; length_bits = 16; task_bytes = 0; duration_bits = 0 }

-- the form of that number; where there is none question 2 says no, and nothing else of the bytes is looked at
unfoldable pub form_with : ℕ → List Form → Form
form_with code [] = no_form
form_with code (form ∷ others) = cond (eqb code form.code) form (form_with code others)

-- the form of the bytes
unfoldable pub form_of : List ℕ → Form
form_of bytes = form_with (form_field bytes) forms

-- the header's other fields: below the form's four bits come R, D of 7 bits, L, and N less one of 10
abbrev pub growth_field_of : Form → ℕ → ℕ
growth_field_of form bits = field form.growth_bits (17 + form.length_bits) bits

abbrev pub utilization_field_of : Form → ℕ → ℕ
utilization_field_of form bits = field 7 (10 + form.length_bits) bits

abbrev pub quantum_length_field_of : Form → ℕ → ℕ
quantum_length_field_of form bits = field form.length_bits 10 bits

-- R as a form has it
abbrev pub growth_with : Bool → ℕ → Growth
growth_with false r = by_factor r
growth_with true t = by_tenths t

unfoldable pub growth_field : List ℕ → Growth
growth_field bytes = growth_with (form_of bytes).in_tenths (growth_field_of (form_of bytes) (header bytes))

unfoldable pub utilization_field : List ℕ → ℕ
utilization_field bytes = utilization_field_of (form_of bytes) (header bytes)

unfoldable pub quantum_length_field : List ℕ → ℕ
quantum_length_field bytes = quantum_length_field_of (form_of bytes) (header bytes)

-- "number of pieces N less one, 10"
abbrev pub task_count : List ℕ → ℕ
task_count bytes = field 10 0 (header bytes) + 1

-- the fields of a task, most significant first: successor count 2, first successor 11, second successor 11, ticks
unfoldable pub task_bits : List ℕ → ℕ → ℕ
task_bits bytes t = number bytes (5 + (form_of bytes).task_bytes * t) (form_of bytes).task_bytes

abbrev pub count_field : List ℕ → ℕ → ℕ
count_field bytes t = field 2 (22 + (form_of bytes).duration_bits) (task_bits bytes t)

abbrev pub first_field : List ℕ → ℕ → ℕ
first_field bytes t = field 11 (11 + (form_of bytes).duration_bits) (task_bits bytes t)

abbrev pub second_field : List ℕ → ℕ → ℕ
second_field bytes t = field 11 (form_of bytes).duration_bits (task_bits bytes t)

-- the ticks that a task takes: its last field, and one where its form has no such field
unfoldable pub duration_field : List ℕ → ℕ → ℕ
duration_field bytes t =
    cond (eqb (form_of bytes).duration_bits 0) 1 (field (form_of bytes).duration_bits 0 (task_bits bytes t))

-- the fields that a successor count uses: none, the first, or both
abbrev pub used_fields : ℕ → ℕ → ℕ → List ℕ
used_fields zero first second = []
used_fields (suc zero) first second = first ∷ []
used_fields (suc (suc more)) first second = first ∷ second ∷ []

unfoldable pub successor_fields : List ℕ → ℕ → List ℕ
successor_fields bytes t = used_fields (count_field bytes t) (first_field bytes t) (second_field bytes t)

-- the plan that the bytes give
unfoldable pub plan_of : List ℕ → Plan
plan_of bytes =
    record {
      terms =
          record {
            growth = growth_field bytes;
            utilization = utilization_field bytes;
            quantum_length = quantum_length_field bytes;
          };
      graph = record { successors = map (successor_fields bytes) (below (task_count bytes)) };
      durations = map (duration_field bytes) (below (task_count bytes));
    }

-- ---- the questions

-- 7: "is the follower count 0, 1 or 2, with unused fields 0?"
unfoldable pub fields_ok : ℕ → ℕ → ℕ → Bool
fields_ok zero first second = eqb first 0 && eqb second 0
fields_ok (suc zero) first second = eqb second 0
fields_ok (suc (suc zero)) first second = true
fields_ok (suc (suc (suc more))) first second = false

-- the first two are different
unfoldable pub two_differ : List ℕ → Bool
two_differ [] = true
two_differ (x ∷ []) = true
two_differ (x ∷ (y ∷ rest)) = not (eqb x y)

-- 8: "Is each follower above its own piece's number and below N, and are two followers different?"
unfoldable pub targets_ok : ℕ → ℕ → List ℕ → Bool
targets_ok n t successors = every (λ s. ltb t s && ltb s n) successors && two_differ successors

-- the questions of one piece; those of a piece come before those of the next. Request U9: "A piece of 0 ticks is refused with 28, after 8
-- for the same piece."
unfoldable pub task_questions : List ℕ → ℕ → List Question
task_questions bytes t =
    ask (fields_ok (count_field bytes t) (first_field bytes t) (second_field bytes t)) 7
    ∷ ask (targets_ok (task_count bytes) t (successor_fields bytes t)) 8
    ∷ ask (leb 1 (duration_field bytes t)) 28
    ∷ []

-- 9: "Has each piece from 1 up one or two pieces before it?"
unfoldable pub all_preceded : Graph → Bool
all_preceded graph =
    every (λ t. leb 1 (length (predecessors graph t)) && leb (length (predecessors graph t)) 2) (drop 1 (below (tasks graph)))

-- 10: "Is piece N − 1 the only one without followers?"
unfoldable pub one_exit : Graph → Bool
one_exit graph = every (λ t. beq (is_empty (successors_of graph t)) (eqb (t + 1) (tasks graph))) (below (tasks graph))

-- 3: "Is R at least 2?". Request U14: "for it question 3 asks for 12 to 20 tenths"
abbrev pub growth_ok : Growth → Bool
growth_ok (by_factor r) = leb 2 r
growth_ok (by_tenths t) = leb 12 t && leb t 20

-- 2 has "Is the form 1?" in document 01. Request U9: "Question 2 now admits form 2, and question 6 then reads 5 + 4 × N." Request U14:
-- "Question 2 admits form 3"
unfoldable pub header_questions : List ℕ → List Question
header_questions bytes =
    ask (leb 5 (length bytes)) 1
    ∷ ask (is_form (form_field bytes) forms) 2
    ∷ ask (growth_ok (growth_field bytes)) 3
    ∷ ask (leb 1 (utilization_field bytes) && leb (utilization_field bytes) 100) 4
    ∷ ask (leb 1 (quantum_length_field bytes)) 5
    ∷ ask (eqb (length bytes) (5 + (form_of bytes).task_bytes * task_count bytes)) 6
    ∷ []

unfoldable pub graph_questions : Graph → List Question
graph_questions graph = ask (all_preceded graph) 9 ∷ ask (one_exit graph) 10 ∷ []

-- "A plan, in this order"
unfoldable pub plan_questions : List ℕ → List Question
plan_questions bytes =
    header_questions bytes ++ flat_map (task_questions bytes) (below (task_count bytes)) ++ graph_questions (plan_of bytes).graph

unfoldable pub plan_answer : List ℕ → Answer
plan_answer bytes = first_no (plan_questions bytes)
