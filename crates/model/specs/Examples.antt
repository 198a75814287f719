-- Document 01's P examples, and rows of our own that tell misreadings apart, as one table. The checker computes every row.
use Rattle.std.specs.Prelude.{Bool, true, false, cond, ◌&&◌, ℕ, suc, ◌+◌, ◌*◌, ◌-◌, ◌/◌}
use Rattle.std.specs.Prelude.{◌%◌, ◌^◌, leb, ltb, eqb, length, get_or, take, drop, replicate}
use mathlib.Core.List.{List, [], ◌∷◌, ◌++◌, map, flat_map}
use Rattle.model.specs.Tests.{below, keep, member}
use Rattle.model.specs.Questions.{Question, answer_number}
use Rattle.model.specs.Plan.{Growth, by_factor, by_tenths, Plan, plan_of, plan_answer, form_field, growth_field, utilization_field}
use Rattle.model.specs.Plan.{quantum_length_field, task_count, count_field, first_field, second_field, duration_field}
use Rattle.model.specs.Machine.{State, Note, no_offer, offered, with_note, Call, grants, ticks, offers, opens, withdraws, call_answer}
use Rattle.model.specs.Machine.{step, fresh, status, no_quantum_open, ticks_of, stolen_count, efficient, next_wish, wish_at}
use Rattle.model.specs.Machine.{top_desires, whole_parts, desire_at, most_workers}
use Rattle.model.specs.History.{ClosedQuantum, CurrentQuantum, none, begun_with, run, work_order, ticks_done}
use Rattle.model.specs.WholeTicks.{all_counted, accepted_calls, worker_ticks, after_workers}
use Rattle.model.specs.Lines.{deques_in_use, tasks_standing, largest_granted, largest_count}
use Rattle.model.specs.Log.{run_log, run_calls, log_answer, entry_bytes, append_answer, grant_sayable, tick_sayable, appended}
use Rattle.model.specs.Seeds.{next_seed, draws, seed_after, Seeded, seeded_answer, DayCall, grants_plainly, ticks_by_seed, run_day}
use Rattle.model.specs.Seeds.{day_log}
use Rattle.model.specs.Label.{label, label_answer, bytes_of}
use Rattle.model.specs.Counters.{decimal, counters, counters_line, buffer_after, counters_answer}
use Rattle.model.specs.Digits.{digit_count, line_size}
use Rattle.model.specs.Program.{program}

-- ---- a table and its test

-- what the definitions give, and what it should be
pub record Row : Type 0 where
  pub given : List ℕ
  pub expected : List ℕ

abbrev pub row : List ℕ → List ℕ → Row
row given expected = record { given = given; expected = expected }

unfoldable pub same : List ℕ → List ℕ → Bool
same [] [] = true
same [] (y ∷ ys) = false
same (x ∷ xs) [] = false
same (x ∷ xs) (y ∷ ys) = eqb x y && same xs ys

unfoldable pub row_holds : Row → Bool
row_holds r = same r.given r.expected

-- the places of the rows that do not hold
unfoldable pub failing : ℕ → List Row → List ℕ
failing i [] = []
failing i (r ∷ rs) = cond (row_holds r) (failing (suc i) rs) (i ∷ failing (suc i) rs)

-- ---- what the rows are made of

abbrev pub plan_a : List ℕ
plan_a =
    0x15 ∷ 0x40 ∷ 0x00 ∷ 0x08 ∷ 0x03
    ∷ 0x80 ∷ 0x08 ∷ 0x02
    ∷ 0x40 ∷ 0x18 ∷ 0x00
    ∷ 0x40 ∷ 0x18 ∷ 0x00
    ∷ 0x00 ∷ 0x00 ∷ 0x00
    ∷ []

-- the three bytes of a task: successor count, first and second field
unfoldable pub task : ℕ → ℕ → ℕ → List ℕ
task count first second = (count * 64 + first / 32) ∷ (first % 32 * 8 + second / 256) ∷ second % 256 ∷ []

-- the four bytes of a task of form 2: the same fields, and its ticks
unfoldable pub lasting : ℕ → ℕ → ℕ → ℕ → List ℕ
lasting count first second duration = task count first second ++ (duration ∷ [])

-- a plan's bytes: its form, R, D, L, and the bytes of each task
unfoldable pub form_bytes : ℕ → ℕ → ℕ → ℕ → List (List ℕ) → List ℕ
form_bytes form r d l ts =
    let h = form * 2 ^ 36 + r * 2 ^ 33 + d * 2 ^ 26 + l * 2 ^ 10 + (length ts - 1) in
    (h / 2 ^ 32 % 256) ∷ (h / 2 ^ 24 % 256) ∷ (h / 2 ^ 16 % 256) ∷ (h / 2 ^ 8 % 256) ∷ (h % 256) ∷ flat_map (λ t. t) ts

-- the same of form 3, with R in tenths
unfoldable pub gentle_bytes : ℕ → ℕ → ℕ → List (List ℕ) → List ℕ
gentle_bytes tenths d l ts =
    let h = 3 * 2 ^ 36 + tenths * 2 ^ 31 + d * 2 ^ 24 + l * 2 ^ 10 + (length ts - 1) in
    (h / 2 ^ 32 % 256) ∷ (h / 2 ^ 24 % 256) ∷ (h / 2 ^ 16 % 256) ∷ (h / 2 ^ 8 % 256) ∷ (h % 256) ∷ flat_map (λ t. t) ts

-- form_bytes of form 1
unfoldable pub plan_bytes : ℕ → ℕ → ℕ → List (List ℕ) → List ℕ
plan_bytes r d l ts = form_bytes 1 r d l ts

-- Plan A's graph with another R, D or L
unfoldable pub diamond : ℕ → ℕ → ℕ → List ℕ
diamond r d l = plan_bytes r d l (task 2 1 2 ∷ task 1 3 0 ∷ task 1 3 0 ∷ task 0 0 0 ∷ [])

unfoldable pub one_task : ℕ → List ℕ
one_task l = plan_bytes 2 80 l (task 0 0 0 ∷ [])

-- seven tasks: 0 is followed by 1 and 2, 1 by 3 and 4, 2 and 3 by 5, 4 and 5 by 6
unfoldable pub seven_tasks : List (List ℕ)
seven_tasks = task 2 1 2 ∷ task 2 3 4 ∷ task 1 5 0 ∷ task 1 5 0 ∷ task 1 6 0 ∷ task 1 6 0 ∷ task 0 0 0 ∷ []

unfoldable pub seven : ℕ → List ℕ
seven l = plan_bytes 2 80 l seven_tasks

-- the same with a utilization of 1 percent and L = 1, so that every quantum with a work or mug cycle is efficient
unfoldable pub easy_seven : List ℕ
easy_seven = plan_bytes 2 1 1 seven_tasks

-- the same with R = 3, so that the second quantum can have three workers
unfoldable pub wide_seven : List ℕ
wide_seven = plan_bytes 3 1 1 seven_tasks

-- ten tasks: 0 is followed by 1 and 2, 1 by 3 and 4, 3 by 5 and 6, 2 and 4 by 7, 5 and 6 by 8, 7 and 8 by 9
unfoldable pub ten : List ℕ
ten =
    plan_bytes 2 1 1
    (task 2 1 2 ∷ task 2 3 4 ∷ task 1 7 0 ∷ task 2 5 6 ∷ task 1 7 0 ∷ task 1 8 0 ∷ task 1 8 0 ∷ task 1 9 0 ∷ task 1 9 0 ∷ task 0 0 0 ∷ [])

-- thirteen tasks: 0 is followed by 1 and 2, 1 by 3 and 4, 3 by 5 and 6, 5 by 7 and 8; 9 joins 7 and 8, 10 joins 9 and 6, 11 joins 10 and 4,
-- 12 joins 11 and 2. A worker alone has 1, 2, then 3, 4, 2, then 5, 6, 4, 2, then 7, 8, 6, 4, 2 in its line
unfoldable pub thirteen : List ℕ
thirteen =
    plan_bytes 2 1 1
    (task 2 1 2 ∷ task 2 3 4 ∷ task 1 12 0 ∷ task 2 5 6 ∷ task 1 11 0 ∷ task 2 7 8 ∷ task 1 10 0 ∷ task 1 9 0 ∷ task 1 9 0 ∷ task 1 10 0
    ∷ task 1 11 0 ∷ task 1 12 0 ∷ task 0 0 0 ∷ [])

-- thirteen tasks: 0 is followed by 1 and 2, 1 by 3 and 4, 2 by 5 and 6, 3 by 7, 5 by 9, 7 by 8; 10 joins 4 and 8, 11 joins 6 and 9,
-- 12 joins 10 and 11. Four workers have a line each, and two of them after their next tick, too
unfoldable pub four_lines : List ℕ
four_lines =
    plan_bytes 2 1 1
    (task 2 1 2 ∷ task 2 3 4 ∷ task 2 5 6 ∷ task 1 7 0 ∷ task 1 10 0 ∷ task 1 9 0 ∷ task 1 11 0 ∷ task 1 8 0 ∷ task 1 10 0 ∷ task 1 11 0
    ∷ task 1 12 0 ∷ task 1 12 0 ∷ task 0 0 0 ∷ [])

-- N tasks in a chain
unfoldable pub link : ℕ → ℕ → List ℕ
link n t = cond (eqb (t + 1) n) (task 0 0 0) (task 1 (t + 1) 0)

unfoldable pub chain : ℕ → ℕ → ℕ → ℕ → List ℕ
chain r d l n = plan_bytes r d l (map (link n) (below n))

unfoldable pub refusal : List ℕ → List ℕ
refusal bytes = answer_number (plan_answer bytes) ∷ []

unfoldable pub after_calls : List ℕ → List Call → State
after_calls bytes calls = (run_calls (plan_of bytes) calls (record { state = fresh (plan_of bytes); refusals = 0 })).state

-- whether a quantum is open, and its ticks
unfoldable pub quantum_kept : State → List ℕ
quantum_kept s = cond (no_quantum_open s.quantum) 0 1 ∷ ticks_of s.quantum ∷ []

-- the ten numbers after a log on a state, or on the fresh one
unfoldable pub shown_from : List ℕ → State → List ℕ → List ℕ
shown_from bytes s log =
    let ran = run_log (plan_of bytes) log s in
    counters (plan_of bytes) ran.state ran.refusals

unfoldable pub shown : List ℕ → List ℕ → List ℕ
shown bytes log = shown_from bytes (fresh (plan_of bytes)) log

-- the refusal's number of a call after others, 0 where it is accepted
unfoldable pub answered : List ℕ → List Call → Call → List ℕ
answered bytes calls call = answer_number (call_answer call (after_calls bytes calls)) ∷ []

-- lists of tasks, each behind its length
unfoldable pub listed : List (List ℕ) → List ℕ
listed deques = flat_map (λ d. length d ∷ d) deques

-- the workers' deques, then the muggable ones, after calls
unfoldable pub placed : List ℕ → List Call → List ℕ
placed bytes calls =
    let e = (after_calls bytes calls).execution in
    listed e.deques ++ listed e.muggable

unfoldable pub labelled : List ℕ → ℕ → List ℕ
labelled sheet status =
    answer_number (label_answer sheet status)
    ∷ (label sheet status).start
    ∷ (label sheet status).size
    ∷ bytes_of sheet (label sheet status)

-- ---- document 01's examples

-- example 1's log for Plan A
abbrev pub log_1 : List ℕ
log_1 = 0x01 ∷ 0x81 ∷ 0x00 ∷ 0x81 ∷ 0x00 ∷ 0x02 ∷ 0x82 ∷ 0x00 ∷ 0x00 ∷ 0x82 ∷ 0x00 ∷ 0x00 ∷ []

-- the wanted count after the end of a quantum with this k and wanted count, efficient or not, satisfied or not
unfoldable pub desire_after : List ℕ → ℕ → ℕ → Bool → Bool → ℕ
desire_after bytes k desire e s = (next_wish (plan_of bytes).terms.growth (record { power = k; desire = desire }) e s).desire

unfoldable pub document_rows : List Row
document_rows =
    -- 1, as request U6 has it: "example 1 then ends in `4 0 2 0 0`"
    row (program (0x00 ∷ 0x11 ∷ [] ++ plan_a ++ log_1))
    (51 ∷ 32 ∷ 52 ∷ 32 ∷ 52 ∷ 32 ∷ 50 ∷ 32 ∷ 50 ∷ 32 ∷ 52 ∷ 32 ∷ 48 ∷ 32 ∷ 50 ∷ 32 ∷ 48 ∷ 32 ∷ 48 ∷ 10 ∷ [])
    -- 2
    ∷ row (shown plan_a
    (0x01 ∷ 0x81 ∷ 0x00 ∷ 0x81 ∷ 0x00 ∷ 0x00 ∷ 0x80 ∷ 0x80 ∷ 0x01 ∷ 0x81 ∷ 0x00 ∷ 0x81 ∷ 0x00 ∷ 0x01 ∷ 0x81 ∷ 0x00 ∷ []))
    (3 ∷ 4 ∷ 4 ∷ 2 ∷ 1 ∷ 4 ∷ 1 ∷ 0 ∷ 0 ∷ 0 ∷ [])
    -- 3
    ∷ row (shown plan_a []) (0 ∷ 0 ∷ 4 ∷ 1 ∷ 0 ∷ 0 ∷ 0 ∷ 0 ∷ 0 ∷ 0 ∷ [])
    -- 4
    ∷ row (answered plan_a [] (grants 2)) (14 ∷ [])
    ∷ row (shown plan_a (0x02 ∷ 0x00 ∷ [])) (0 ∷ 0 ∷ 4 ∷ 1 ∷ 0 ∷ 0 ∷ 0 ∷ 0 ∷ 0 ∷ 1 ∷ [])
    -- 5
    ∷ row (map (λ u. cond (efficient (plan_of (diamond 2 80 5)).terms u 2) 1 0) (8 ∷ 7 ∷ [])) (1 ∷ 0 ∷ [])
    -- 6
    ∷ row (desire_after (diamond 3 80 2) 3 27 true true ∷ []) (27 ∷ [])
    -- 7
    ∷ row (placed (seven 1) (grants 1 ∷ ticks (0 ∷ []) ∷ grants 2 ∷ [])) (2 ∷ 1 ∷ 2 ∷ 0 ∷ [])
    ∷ row (placed (seven 1) (grants 1 ∷ ticks (0 ∷ []) ∷ grants 2 ∷ ticks (0 ∷ 0 ∷ []) ∷ [])) (2 ∷ 3 ∷ 4 ∷ 1 ∷ 2 ∷ [])
    -- 8
    ∷ row (refusal (take 16 plan_a)) (6 ∷ [])
    ∷ row (refusal (plan_a ++ (0 ∷ []))) (6 ∷ [])
    -- 9
    ∷ row (refusal (one_task 2)) (0 ∷ [])
    ∷ row (shown (one_task 2) (0x01 ∷ 0x81 ∷ 0x00 ∷ [])) (3 ∷ 1 ∷ 1 ∷ 1 ∷ 1 ∷ 1 ∷ 0 ∷ 0 ∷ 0 ∷ 0 ∷ [])
    -- 10, although it is not marked P
    ∷ row (flat_map refusal (diamond 7 80 2 ∷ diamond 1 80 2 ∷ diamond 2 100 2 ∷ diamond 2 101 2 ∷ [])) (0 ∷ 3 ∷ 0 ∷ 4 ∷ [])
    ∷ []

-- ---- rows of our own: each tells a misreading apart

-- R, as a number of its field
unfoldable pub growth_number : Growth → ℕ
growth_number (by_factor r) = r
growth_number (by_tenths t) = t

unfoldable pub header_fields : List ℕ → List ℕ
header_fields bytes =
    form_field bytes ∷ growth_number (growth_field bytes) ∷ utilization_field bytes ∷ quantum_length_field bytes ∷ task_count bytes ∷ []

-- the three fields of task t, and its ticks
unfoldable pub fields_of : List ℕ → ℕ → List ℕ
fields_of bytes t = count_field bytes t ∷ first_field bytes t ∷ second_field bytes t ∷ duration_field bytes t ∷ []

unfoldable pub task_fields : List ℕ → List ℕ
task_fields bytes = fields_of bytes 0

-- Plan A's fresh state, but for the number of quanta begun
unfoldable pub fresh_with : ℕ → State
fresh_with begun =
    let s = fresh (plan_of plan_a) in
    record { execution = s.execution; started = s.started; wish = s.wish; quantum = s.quantum; begun = begun; note = s.note }

-- the refusal's number of a call in a state, 0 where it is accepted
unfoldable pub call_number : Call → State → List ℕ
call_number call s = answer_number (call_answer call s) ∷ []

unfoldable pub grant_number : ℕ → State → List ℕ
grant_number g s = call_number (grants g) s

unfoldable pub quantum_shown : ClosedQuantum → List ℕ
quantum_shown q = q.wanted ∷ q.granted ∷ cond q.was_efficient 1 0 ∷ cond q.was_satisfied 1 0 ∷ []

unfoldable pub current_shown : CurrentQuantum → List ℕ
current_shown none = []
current_shown (begun_with wish granted) = wish.desire ∷ granted ∷ []

-- the closed quanta, the one that is not closed, and the tasks in the order in which they were worked
unfoldable pub history_shown : List ℕ → List Call → List ℕ
history_shown bytes calls =
    let h = run (plan_of bytes) calls in
    flat_map quantum_shown h.closed_quanta ++ current_shown h.current ++ work_order h

-- the ten numbers after a second log on the record of a first
unfoldable pub shown_twice : List ℕ → List ℕ → List ℕ → List ℕ
shown_twice bytes log more = shown_from bytes (run_log (plan_of bytes) log (fresh (plan_of bytes))).state more

-- worker 1 robs worker 0 of a line of five
unfoldable pub half_of_five : List Call
half_of_five = grants 1 ∷ ticks (0 ∷ []) ∷ grants 1 ∷ ticks (0 ∷ []) ∷ grants 1 ∷ ticks (0 ∷ []) ∷ grants 2 ∷ ticks (0 ∷ 0 ∷ []) ∷ []

-- workers 1 and 2 rob worker 0, and worker 3 robs worker 1
unfoldable pub three_thieves : List Call
three_thieves =
    grants 1 ∷ ticks (0 ∷ []) ∷ grants 1 ∷ ticks (0 ∷ []) ∷ grants 2 ∷ ticks (0 ∷ 1 ∷ []) ∷ grants 4 ∷ ticks (0 ∷ 0 ∷ 0 ∷ 1 ∷ []) ∷ []

-- of the seven tasks worker 0 has 3 and 4, and worker 1 has robbed it of 2
unfoldable pub two_at_work : List Call
two_at_work = grants 1 ∷ ticks (0 ∷ []) ∷ grants 2 ∷ ticks (0 ∷ 0 ∷ []) ∷ []

-- .. and a grant of 0 withdraws both
unfoldable pub two_withdrawn : List Call
two_withdrawn = two_at_work ++ (grants 0 ∷ [])

-- worker 1 has robbed worker 0, and then worker 3 robs worker 1, and worker 2 the one that it chooses
unfoldable pub four_at_work : ℕ → List Call
four_at_work choice =
    grants 1 ∷ ticks (0 ∷ []) ∷ grants 2 ∷ ticks (0 ∷ 0 ∷ []) ∷ grants 4 ∷ ticks (0 ∷ 0 ∷ choice ∷ 1 ∷ []) ∷ []

-- workers 2 and 3 are withdrawn, and a tick later workers 0 and 1
unfoldable pub two_grants : List Call
two_grants = four_at_work 0 ++ (grants 2 ∷ ticks (0 ∷ 0 ∷ []) ∷ grants 0 ∷ [])

-- a tick of worker 0 alone, then n ticks of three workers with these choices, each in a quantum of its own
unfoldable pub three_at_work : ℕ → List ℕ → List Call
three_at_work n choices = grants 1 ∷ ticks (0 ∷ []) ∷ flat_map (λ i. grants 3 ∷ ticks choices ∷ []) (below n)

-- two ticks of worker 0 alone, then three workers, with two ticks in a quantum
unfoldable pub then_three : List Call
then_three = grants 1 ∷ ticks (0 ∷ []) ∷ ticks (0 ∷ []) ∷ grants 3 ∷ []

-- the ten numbers after calls
unfoldable pub counted : List ℕ → List Call → List ℕ
counted bytes calls = counters (plan_of bytes) (after_calls bytes calls) 0

-- work, mug and steal cycles together, the cycles made, and the sum of the granted counts
unfoldable pub sums : List ℕ → List Call → List ℕ
sums bytes calls =
    let h = run (plan_of bytes) calls in
    all_counted h.state.execution.counts ∷ length h.made ∷ worker_ticks (plan_of bytes) calls ∷ []

unfoldable pub statuses_from : Plan → State → List Call → List ℕ
statuses_from plan s [] = status s ∷ []
statuses_from plan s (call ∷ calls) = status s ∷ statuses_from plan (step plan call s) calls

-- the status before the first call and after each
unfoldable pub statuses : List ℕ → List Call → List ℕ
statuses bytes calls = statuses_from (plan_of bytes) (fresh (plan_of bytes)) calls

-- a fresh job and a seed
unfoldable pub seeded : List ℕ → ℕ → Seeded
seeded bytes seed = record { state = fresh (plan_of bytes); seed = seed }

-- the seed after a day, and the counters line's numbers
unfoldable pub day_shown : List ℕ → ℕ → List DayCall → List ℕ
day_shown bytes seed day =
    let at = run_day (plan_of bytes) day (seeded bytes seed) in
    at.seed ∷ counters (plan_of bytes) at.state 0

-- the log of a day, and that run on a fresh job
unfoldable pub day_logged : List ℕ → ℕ → List DayCall → List ℕ
day_logged bytes seed day = day_log (plan_of bytes) day (seeded bytes seed)

unfoldable pub day_replayed : List ℕ → ℕ → List DayCall → List ℕ
day_replayed bytes seed day = shown bytes (day_logged bytes seed day)

-- the number of a seeded tick after a day
unfoldable pub seeded_number : List ℕ → List DayCall → ℕ
seeded_number bytes day = answer_number (seeded_answer (run_day (plan_of bytes) day (seeded bytes 0)).state)

-- one worker, then three: in their first tick one works and the two others rob it, in the second all work; the last tick is refused
unfoldable pub three_by_seed : List DayCall
three_by_seed =
    grants_plainly 1 ∷ ticks_by_seed ∷ grants_plainly 3 ∷ ticks_by_seed ∷ grants_plainly 3 ∷ ticks_by_seed ∷ ticks_by_seed ∷ []

-- Plan A to its end, by one worker and then by two; a tick and a grant after it are refused
unfoldable pub finished_by_seed : List DayCall
finished_by_seed =
    grants_plainly 1 ∷ ticks_by_seed ∷ ticks_by_seed ∷ grants_plainly 2 ∷ ticks_by_seed ∷ ticks_by_seed ∷ ticks_by_seed ∷ grants_plainly 1
    ∷ []

-- a quantum of no worker; a tick after it is refused, and so is a grant of two; then one worker is granted
unfoldable pub held_by_seed : List DayCall
held_by_seed =
    grants_plainly 0 ∷ ticks_by_seed ∷ ticks_by_seed ∷ ticks_by_seed ∷ grants_plainly 2 ∷ grants_plainly 1 ∷ []

-- the number of an entry that is appended to a buffer of bytes 7, of which so many are written
unfoldable pub append_number : List Question → List ℕ → ℕ → ℕ → ℕ
append_number questions entry bytes size = answer_number (append_answer questions entry (replicate bytes 7) size)

-- the noted offer: 0, or 1 and its count
unfoldable pub note_shown : Note → List ℕ
note_shown no_offer = 0 ∷ []
note_shown (offered g) = 1 ∷ g ∷ []

-- the note, whether a quantum is open, its ticks, and the quanta begun
unfoldable pub state_kept : State → List ℕ
state_kept s = note_shown s.note ++ quantum_kept s ++ (s.begun ∷ [])

-- .. after calls of a job of Plan A in a state, and of a fresh job
unfoldable pub kept_from : State → List Call → List ℕ
kept_from s calls = state_kept (run_calls (plan_of plan_a) calls (record { state = s; refusals = 0 })).state

unfoldable pub offer_kept : List ℕ → List Call → List ℕ
offer_kept bytes calls = state_kept (after_calls bytes calls)

-- example 1, with each grant as an offer and its opening
unfoldable pub example_1_offered : List Call
example_1_offered =
    offers 1 ∷ opens 1 ∷ ticks (0 ∷ []) ∷ ticks (0 ∷ []) ∷ offers 2 ∷ opens 2 ∷ ticks (0 ∷ 0 ∷ []) ∷ ticks (0 ∷ 0 ∷ []) ∷ []

-- of the ten tasks worker 0 has 5 and 6, worker 1 has robbed itself in vain, and worker 2 has robbed worker 0 of 4 and 2
unfoldable pub one_in_vain : List Call
one_in_vain = grants 1 ∷ ticks (0 ∷ []) ∷ grants 2 ∷ ticks (0 ∷ 1 ∷ []) ∷ grants 3 ∷ ticks (0 ∷ 1 ∷ 0 ∷ []) ∷ grants 3 ∷ []

-- the deques in use, the largest count granted so far as the history keeps it and as the calls say it, and the tasks in those deques
unfoldable pub lines_after : List ℕ → List Call → List ℕ
lines_after bytes calls =
    let plan = plan_of bytes in
    let h = run plan calls in
    deques_in_use h.state.execution ∷ largest_granted h ∷ largest_count (accepted_calls plan (fresh plan) calls)
    ∷ length (tasks_standing h.state.execution) ∷ []

-- the deques in use inside a tick with these choices: before the first worker's cycle, and after each one's
unfoldable pub lines_inside : List ℕ → List Call → List ℕ → List ℕ
lines_inside bytes calls choices =
    map (λ w. deques_in_use (after_workers (plan_of bytes) (after_calls bytes calls) choices w)) (below (suc (length choices)))

-- plan reading
unfoldable pub plan_rows : List Row
plan_rows =
    -- the largest fields
    row (header_fields (0x1f ∷ 0xff ∷ 0xff ∷ 0xff ∷ 0xff ∷ [])) (1 ∷ 7 ∷ 127 ∷ 65535 ∷ 1024 ∷ [])
    -- fields cross the bytes, most significant bit first
    ∷ row (header_fields (0xa5 ∷ 0x5a ∷ 0x96 ∷ 0x3c ∷ 0xc7 ∷ [])) (10 ∷ 2 ∷ 86 ∷ 42383 ∷ 200 ∷ [])
    ∷ row (task_fields (0x10 ∷ 0 ∷ 0 ∷ 0 ∷ 0 ∷ 0xb5 ∷ 0x6a ∷ 0x5c ∷ [])) (2 ∷ 1709 ∷ 604 ∷ 1 ∷ [])
    ∷ row (refusal (diamond 2 80 2)) (0 ∷ [])
    -- 1: fewer than 5 bytes, whatever they hold
    ∷ row (refusal [] ++ refusal (take 4 plan_a)) (1 ∷ 1 ∷ [])
    -- 2: form 0, form 4, form 15
    ∷ row (flat_map (λ first. refusal (first ∷ drop 1 plan_a)) (0x05 ∷ 0x45 ∷ 0xf5 ∷ [])) (2 ∷ 2 ∷ 2 ∷ [])
    -- the first "no" answers
    ∷ row (flat_map refusal (diamond 0 0 0 ∷ diamond 2 0 0 ∷ diamond 2 80 0 ∷ take 16 (diamond 2 80 0) ∷ [])) (3 ∷ 4 ∷ 5 ∷ 5 ∷ [])
    ∷ row (flat_map refusal (take 16 (diamond 1 0 0) ∷ take 5 plan_a ∷ [])) (3 ∷ 6 ∷ [])
    -- 8 of piece 0 comes before 7 of piece 1
    ∷ row (refusal (plan_bytes 2 80 2 (task 1 0 0 ∷ task 3 0 0 ∷ task 0 0 0 ∷ []))) (8 ∷ [])
    -- 7 of a piece comes before 8 of it
    ∷ row (refusal (plan_bytes 2 80 2 (task 1 0 5 ∷ task 0 0 0 ∷ []))) (7 ∷ [])
    -- count 3; unused fields that are not 0
    ∷ row (flat_map (λ p. refusal (plan_bytes 2 80 2 (p ∷ task 1 2 0 ∷ task 0 0 0 ∷ [])))
    (task 3 1 2 ∷ task 0 1 0 ∷ task 0 0 1 ∷ task 1 1 1 ∷ [])) (7 ∷ 7 ∷ 7 ∷ 7 ∷ [])
    -- itself; N; two equal ones; the second, the first out of range
    ∷ row (flat_map (λ p. refusal (plan_bytes 2 80 2 (p ∷ task 1 2 0 ∷ task 0 0 0 ∷ [])))
    (task 1 0 0 ∷ task 1 3 0 ∷ task 2 1 1 ∷ task 2 1 3 ∷ task 2 0 1 ∷ [])) (8 ∷ 8 ∷ 8 ∷ 8 ∷ 8 ∷ [])
    -- two followers in falling order are fine
    ∷ row (refusal (plan_bytes 2 80 2 (task 2 2 1 ∷ task 1 3 0 ∷ task 1 3 0 ∷ task 0 0 0 ∷ []))) (0 ∷ [])
    -- "before" is direct: the last task of a chain has one piece before it
    ∷ row (refusal (chain 2 80 2 5)) (0 ∷ [])
    -- none before piece 1
    ∷ row (refusal (plan_bytes 2 80 2 (task 1 2 0 ∷ task 1 2 0 ∷ task 0 0 0 ∷ []))) (9 ∷ [])
    -- three before piece 4
    ∷ row (refusal (plan_bytes 2 80 2 (task 2 1 2 ∷ task 2 3 4 ∷ task 1 4 0 ∷ task 1 4 0 ∷ task 0 0 0 ∷ []))) (9 ∷ [])
    -- 9 of all pieces comes before 10
    ∷ row (refusal (plan_bytes 2 80 2 (task 0 0 0 ∷ task 1 2 0 ∷ task 0 0 0 ∷ []))) (9 ∷ [])
    -- piece 2 has no follower
    ∷ row (refusal (plan_bytes 2 80 2 (task 2 1 2 ∷ task 1 3 0 ∷ task 0 0 0 ∷ task 0 0 0 ∷ []))) (10 ∷ [])
    ∷ []

-- Plan A's graph in form 2, with a utilization of 1 percent: its tasks last 2, 3, 1 and 2 ticks
unfoldable pub lasting_diamond : ℕ → List ℕ
lasting_diamond l = form_bytes 2 2 1 l (lasting 2 1 2 2 ∷ lasting 1 3 0 3 ∷ lasting 1 3 0 1 ∷ lasting 0 0 0 2 ∷ [])

-- one task, and so many ticks
unfoldable pub one_lasting : ℕ → ℕ → List ℕ
one_lasting l duration = form_bytes 2 2 100 l (lasting 0 0 0 duration ∷ [])

-- three tasks in form 2 in a row, but for the first one's bytes
unfoldable pub after_first : List ℕ → List ℕ
after_first first = form_bytes 2 2 80 2 (first ∷ lasting 3 0 0 1 ∷ lasting 0 0 0 1 ∷ [])

-- a tick of one worker, so many times, as calls and as a log
unfoldable pub one_works : ℕ → List Call
one_works n = flat_map (λ i. ticks (0 ∷ []) ∷ []) (below n)

unfoldable pub one_logged : ℕ → List ℕ
one_logged n = flat_map (λ i. 0x81 ∷ 0 ∷ []) (below n)

-- the workers' deques, then the muggable ones, then the ticks that each task has left, after calls
unfoldable pub ticks_left : List ℕ → List Call → List ℕ
ticks_left bytes calls = placed bytes calls ++ (after_calls bytes calls).execution.left

-- request U9: "Plan form 2 has the same header and 32 bits a piece: the three old fields and 8 bits of ticks, 1 to 255."
unfoldable pub form_rows : List Row
form_rows =
    -- the fields of the second piece of form 2, and of the second of form 1
    row (fields_of (0x20 ∷ 0 ∷ 0 ∷ 0 ∷ 1 ∷ 0x11 ∷ 0x22 ∷ 0x33 ∷ 0x44 ∷ 0xb5 ∷ 0x6a ∷ 0x5c ∷ 0xff ∷ []) 1) (2 ∷ 1709 ∷ 604 ∷ 255 ∷ [])
    ∷ row (fields_of (0x10 ∷ 0 ∷ 0 ∷ 0 ∷ 1 ∷ 0x11 ∷ 0x22 ∷ 0x33 ∷ 0xb5 ∷ 0x6a ∷ 0x5c ∷ 0xff ∷ []) 1) (2 ∷ 1709 ∷ 604 ∷ 1 ∷ [])
    -- the header is the same
    ∷ row (header_fields (lasting_diamond 9)) (2 ∷ 2 ∷ 1 ∷ 9 ∷ 4 ∷ [])
    ∷ row (refusal (lasting_diamond 2)) (0 ∷ [])
    -- "question 6 then reads 5 + 4 × N": a byte too few and too many; form 1's pieces under form 2, and form 2's under form 1
    ∷ row (flat_map refusal (take 20 (lasting_diamond 2) ∷ (lasting_diamond 2 ++ (0 ∷ [])) ∷ (0x25 ∷ drop 1 plan_a)
    ∷ (0x14 ∷ drop 1 (lasting_diamond 2)) ∷ [])) (6 ∷ 6 ∷ 6 ∷ 6 ∷ [])
    -- 7 and 8 of a piece come before 28 of it, and 28 before 7 of the next
    ∷ row (flat_map (λ first. refusal (after_first first)) (lasting 3 1 0 0 ∷ lasting 1 0 0 0 ∷ lasting 1 1 0 0 ∷ lasting 1 1 0 1 ∷ []))
    (7 ∷ 8 ∷ 28 ∷ 7 ∷ [])
    -- 28 of the last piece comes before 9; 0 ticks of the only piece; 1 and 255 ticks are fine
    ∷ row (refusal (form_bytes 2 2 80 2 (lasting 1 2 0 1 ∷ lasting 1 2 0 1 ∷ lasting 0 0 0 0 ∷ []))) (28 ∷ [])
    ∷ row (flat_map (λ duration. refusal (one_lasting 2 duration)) (0 ∷ 1 ∷ 255 ∷ [])) (28 ∷ 0 ∷ 0 ∷ [])
    ∷ []

-- Plan A's graph in form 3, with R in tenths
unfoldable pub gentle_diamond : ℕ → ℕ → ℕ → List ℕ
gentle_diamond tenths d l = gentle_bytes tenths d l (task 2 1 2 ∷ task 1 3 0 ∷ task 1 3 0 ∷ task 0 0 0 ∷ [])

-- k and the wanted count after the end of a quantum of t tenths with the power k, efficient or not, satisfied or not
unfoldable pub gentle_next : ℕ → ℕ → Bool → Bool → List ℕ
gentle_next t k e s =
    let growth = (plan_of (gentle_diamond t 80 2)).terms.growth in
    let next = next_wish growth (wish_at growth k) e s in
    next.power ∷ next.desire ∷ []

-- the powers at which the nine rows end, from 12 tenths
unfoldable pub last_powers : List (List ℕ)
last_powers =
    (12 ∷ 22 ∷ []) ∷ (13 ∷ 15 ∷ []) ∷ (14 ∷ 12 ∷ []) ∷ (15 ∷ 10 ∷ []) ∷ (16 ∷ 8 ∷ []) ∷ (17 ∷ 7 ∷ []) ∷ (18 ∷ 7 ∷ [])
    ∷ (19 ∷ 6 ∷ []) ∷ (20 ∷ 6 ∷ []) ∷ []

-- what an end so many powers below the last one of each row leads to
unfoldable pub from_the_top : ℕ → Bool → Bool → List ℕ
from_the_top lower e s = flat_map (λ r. gentle_next (get_or r 0 0) (get_or r 1 0 - lower) e s) last_powers

-- a chain of so many tasks in form 3
unfoldable pub gentle_chain : ℕ → ℕ → ℕ → ℕ → List ℕ
gentle_chain tenths d l n = gentle_bytes tenths d l (map (link n) (below n))

-- so many quanta of one worker and one tick
unfoldable pub single_rounds : ℕ → List Call
single_rounds n = flat_map (λ i. grants 1 ∷ ticks (0 ∷ []) ∷ []) (below n)

-- k and the wanted count after calls, and those of the history's closed quanta
unfoldable pub powers_shown : List ℕ → List Call → List ℕ
powers_shown bytes calls =
    let h = run (plan_of bytes) calls in
    h.state.wish.power ∷ h.state.wish.desire ∷ flat_map (λ q. q.power ∷ q.wanted ∷ []) h.closed_quanta

-- request U14: "Plan form 3 packs form 4 bits, R in tenths 5, D 7, L 14, N less one 10, and has form 1's pieces."
unfoldable pub gentle_rows : List Row
gentle_rows =
    -- the largest fields; fields cross the bytes
    row (header_fields (0x3f ∷ 0xff ∷ 0xff ∷ 0xff ∷ 0xff ∷ [])) (3 ∷ 31 ∷ 127 ∷ 16383 ∷ 1024 ∷ [])
    ∷ row (header_fields (0x35 ∷ 0xa9 ∷ 0x63 ∷ 0xcd ∷ 0x2b ∷ [])) (3 ∷ 11 ∷ 41 ∷ 6387 ∷ 300 ∷ [])
    ∷ row (fields_of (0x30 ∷ 0 ∷ 0 ∷ 0 ∷ 1 ∷ 0x11 ∷ 0x22 ∷ 0x33 ∷ 0xb5 ∷ 0x6a ∷ 0x5c ∷ 0xff ∷ []) 1) (2 ∷ 1709 ∷ 604 ∷ 1 ∷ [])
    -- "question 3 asks for 12 to 20 tenths and refuses others with 3"
    ∷ row (flat_map (λ t. refusal (gentle_diamond t 80 2)) (0 ∷ 2 ∷ 7 ∷ 11 ∷ 12 ∷ 20 ∷ 21 ∷ 31 ∷ []))
    (3 ∷ 3 ∷ 3 ∷ 3 ∷ 0 ∷ 0 ∷ 3 ∷ 3 ∷ [])
    -- 4 to 6 as for form 1, in their order; form 2's pieces under form 3
    ∷ row (flat_map refusal (gentle_diamond 11 0 0 ∷ gentle_diamond 12 0 0 ∷ gentle_diamond 12 101 0 ∷ gentle_diamond 12 100 0
    ∷ take 16 (gentle_diamond 12 100 0) ∷ gentle_diamond 12 100 16383 ∷ [])) (3 ∷ 4 ∷ 4 ∷ 5 ∷ 5 ∷ 0 ∷ [])
    ∷ row (flat_map refusal (take 16 (gentle_diamond 12 1 1) ∷ (gentle_diamond 12 1 1 ++ (0 ∷ []))
    ∷ (0x3a ∷ drop 1 (lasting_diamond 2)) ∷ []))
    (6 ∷ 6 ∷ 6 ∷ [])
    -- "Wanted is the whole part of R to the power k": past the end of each row stands a whole part above 64
    ∷ row (map length whole_parts) (23 ∷ 16 ∷ 13 ∷ 11 ∷ 9 ∷ 8 ∷ 8 ∷ 7 ∷ 7 ∷ [])
    ∷ row (map (desire_at (by_tenths 12)) (below 24))
    (1 ∷ 1 ∷ 1 ∷ 1 ∷ 2 ∷ 2 ∷ 2 ∷ 3 ∷ 4 ∷ 5 ∷ 6 ∷ 7 ∷ 8 ∷ 10 ∷ 12 ∷ 15 ∷ 18 ∷ 22 ∷ 26 ∷ 31 ∷ 38 ∷ 46 ∷ 55 ∷ 66 ∷ [])
    ∷ row (map (desire_at (by_tenths 15)) (below 12)) (1 ∷ 1 ∷ 2 ∷ 3 ∷ 5 ∷ 7 ∷ 11 ∷ 17 ∷ 25 ∷ 38 ∷ 57 ∷ 86 ∷ [])
    -- "rises by one after an efficient and satisfied one, as long as the result is at most 64": to the last power of each row, and no
    -- further
    ∷ row (from_the_top 1 true true)
    (22 ∷ 55 ∷ 15 ∷ 51 ∷ 12 ∷ 56 ∷ 10 ∷ 57 ∷ 8 ∷ 42 ∷ 7 ∷ 41 ∷ 7 ∷ 61 ∷ 6 ∷ 47 ∷ 6 ∷ 64 ∷ [])
    ∷ row (from_the_top 0 true true)
    (22 ∷ 55 ∷ 15 ∷ 51 ∷ 12 ∷ 56 ∷ 10 ∷ 57 ∷ 8 ∷ 42 ∷ 7 ∷ 41 ∷ 7 ∷ 61 ∷ 6 ∷ 47 ∷ 6 ∷ 64 ∷ [])
    -- "falls by one after an inefficient round", satisfied or not; a deprived one leaves k
    ∷ row (from_the_top 0 false true)
    (21 ∷ 46 ∷ 14 ∷ 39 ∷ 11 ∷ 40 ∷ 9 ∷ 38 ∷ 7 ∷ 26 ∷ 6 ∷ 24 ∷ 6 ∷ 34 ∷ 5 ∷ 24 ∷ 5 ∷ 32 ∷ [])
    ∷ row (gentle_next 12 5 false false ++ gentle_next 12 5 true false) (4 ∷ 2 ∷ 5 ∷ 2 ∷ [])
    -- several powers have one whole part: k moves, the wanted count stays
    ∷ row (gentle_next 12 0 true true ++ gentle_next 12 3 true true ++ gentle_next 12 4 true true ++ gentle_next 12 6 false true)
    (1 ∷ 1 ∷ 4 ∷ 2 ∷ 5 ∷ 2 ∷ 5 ∷ 2 ∷ [])
    -- k of each round; a round of 0 is efficient and deprived
    ∷ row (powers_shown (gentle_chain 12 1 1 9) (single_rounds 4 ++ (grants 0 ∷ ticks [] ∷ [])))
    (4 ∷ 2 ∷ 0 ∷ 1 ∷ 1 ∷ 1 ∷ 2 ∷ 1 ∷ 3 ∷ 1 ∷ 4 ∷ 2 ∷ [])
    -- wanted 2 with both workers granted, one of them in vain: inefficient, and k is back at 3
    ∷ row (powers_shown (gentle_chain 12 80 1 9) (single_rounds 4 ++ (grants 2 ∷ ticks (0 ∷ 0 ∷ []) ∷ [])))
    (3 ∷ 1 ∷ 0 ∷ 1 ∷ 1 ∷ 1 ∷ 2 ∷ 1 ∷ 3 ∷ 1 ∷ 4 ∷ 2 ∷ [])
    -- forms 1 and 2 have k, too
    ∷ row (powers_shown (chain 2 80 1 9) (single_rounds 1 ++ (grants 2 ∷ ticks (0 ∷ 0 ∷ []) ∷ []))) (0 ∷ 1 ∷ 0 ∷ 1 ∷ 1 ∷ 2 ∷ [])
    -- the count line shows the wanted count
    ∷ row (shown (gentle_chain 20 1 1 4) (1 ∷ 0x81 ∷ 0 ∷ 2 ∷ [])) (1 ∷ 1 ∷ 4 ∷ 2 ∷ 2 ∷ 1 ∷ 0 ∷ 0 ∷ 0 ∷ 0 ∷ [])
    ∷ []

-- "A front piece stays until its ticks are done; its followers come after the last one."
unfoldable pub lasting_rows : List Row
lasting_rows =
    row (ticks_left (lasting_diamond 9) (grants 1 ∷ one_works 1)) (1 ∷ 0 ∷ 1 ∷ 3 ∷ 1 ∷ 2 ∷ [])
    ∷ row (ticks_left (lasting_diamond 9) (grants 1 ∷ one_works 2)) (2 ∷ 1 ∷ 2 ∷ 0 ∷ 3 ∷ 1 ∷ 2 ∷ [])
    ∷ row (ticks_left (lasting_diamond 9) (grants 1 ∷ one_works 5)) (1 ∷ 2 ∷ 0 ∷ 0 ∷ 1 ∷ 2 ∷ [])
    -- "worked" means completed, and W counts work ticks, in the count line
    ∷ row (shown (lasting_diamond 9) (1 ∷ one_logged 1)) (1 ∷ 0 ∷ 4 ∷ 1 ∷ 1 ∷ 1 ∷ 0 ∷ 0 ∷ 0 ∷ 0 ∷ [])
    ∷ row (shown (lasting_diamond 9) (1 ∷ one_logged 3)) (1 ∷ 1 ∷ 4 ∷ 1 ∷ 1 ∷ 3 ∷ 0 ∷ 0 ∷ 0 ∷ 0 ∷ [])
    -- finished with the last tick of the last piece, and not before; then 11
    ∷ row (shown (lasting_diamond 9) (1 ∷ one_logged 7)) (1 ∷ 3 ∷ 4 ∷ 1 ∷ 1 ∷ 7 ∷ 0 ∷ 0 ∷ 0 ∷ 0 ∷ [])
    ∷ row (shown (lasting_diamond 9) (1 ∷ one_logged 9)) (3 ∷ 4 ∷ 4 ∷ 1 ∷ 1 ∷ 8 ∷ 0 ∷ 0 ∷ 0 ∷ 1 ∷ [])
    -- the order has a piece once for each tick; the ticks done of each
    ∷ row (work_order (run (plan_of (lasting_diamond 9)) (grants 1 ∷ one_works 8))) (0 ∷ 0 ∷ 1 ∷ 1 ∷ 1 ∷ 2 ∷ 3 ∷ 3 ∷ [])
    ∷ row (map (ticks_done (run (plan_of (lasting_diamond 9)) (grants 1 ∷ one_works 4))) (below 5)) (2 ∷ 2 ∷ 0 ∷ 0 ∷ 0 ∷ [])
    -- "When its worker is withdrawn, or its line is picked up, the ticks done so far are kept"; a thief leaves the begun piece
    ∷ row (ticks_left (lasting_diamond 1) (grants 1 ∷ one_works 1 ++ (grants 0 ∷ ticks [] ∷ []))) (1 ∷ 0 ∷ 1 ∷ 3 ∷ 1 ∷ 2 ∷ [])
    ∷ row (ticks_left (lasting_diamond 1) (grants 1 ∷ one_works 1 ++ (grants 0 ∷ ticks [] ∷ grants 1 ∷ one_works 1)))
    (1 ∷ 0 ∷ 1 ∷ 3 ∷ 1 ∷ 2 ∷ [])
    ∷ row (ticks_left (lasting_diamond 1)
    (grants 1 ∷ one_works 1 ++ (grants 0 ∷ ticks [] ∷ grants 1 ∷ one_works 1 ++ (grants 1 ∷ one_works 1)))) (2 ∷ 1 ∷ 2 ∷ 0 ∷ 3 ∷ 1 ∷ 2 ∷ [])
    ∷ row (ticks_left (lasting_diamond 3) (grants 1 ∷ one_works 3 ++ (grants 2 ∷ ticks (0 ∷ 0 ∷ []) ∷ [])))
    (1 ∷ 1 ∷ 1 ∷ 2 ∷ 0 ∷ 1 ∷ 1 ∷ 2 ∷ [])
    -- a round is judged by its work ticks: two of two are efficient at 100 percent, although no piece is worked
    ∷ row (history_shown (one_lasting 2 5) (grants 1 ∷ one_works 2)) (1 ∷ 1 ∷ 1 ∷ 1 ∷ 0 ∷ 0 ∷ [])
    ∷ row (shown (one_lasting 2 5) (1 ∷ one_logged 2)) (1 ∷ 0 ∷ 1 ∷ 2 ∷ 1 ∷ 2 ∷ 0 ∷ 0 ∷ 0 ∷ 0 ∷ [])
    -- a piece of 255 ticks
    ∷ row (shown (one_lasting 999 255) (1 ∷ one_logged 254)) (1 ∷ 0 ∷ 1 ∷ 1 ∷ 1 ∷ 254 ∷ 0 ∷ 0 ∷ 0 ∷ 0 ∷ [])
    ∷ row (shown (one_lasting 999 255) (1 ∷ one_logged 256)) (3 ∷ 1 ∷ 1 ∷ 1 ∷ 1 ∷ 255 ∷ 0 ∷ 0 ∷ 0 ∷ 1 ∷ [])
    ∷ []

-- grants
unfoldable pub grant_rows : List Row
grant_rows =
    -- after the finish 11 answers, though a round is open
    row (flat_map (answered (one_task 2) (grants 1 ∷ ticks (0 ∷ []) ∷ [])) (grants 0 ∷ ticks (0 ∷ []) ∷ grants 9 ∷ [])) (11 ∷ 11 ∷ 11 ∷ [])
    -- a grant of 0 opens a round; 12 comes before 14
    ∷ row (flat_map (answered plan_a (grants 0 ∷ [])) (grants 0 ∷ grants 1 ∷ grants 2 ∷ [])) (12 ∷ 12 ∷ 12 ∷ [])
    -- a round of 0 leaves the wanted count
    ∷ row (shown plan_a (0 ∷ 0x80 ∷ 0x80 ∷ [])) (0 ∷ 0 ∷ 4 ∷ 1 ∷ 0 ∷ 0 ∷ 0 ∷ 0 ∷ 0 ∷ 0 ∷ [])
    -- request U4: 13 is passed with 4,095 rounds begun, and not with 4,096
    ∷ row (grant_number 1 (fresh_with 4095)) (0 ∷ [])
    ∷ row (grant_number 1 (fresh_with 4096)) (13 ∷ [])
    -- 13 comes before 14
    ∷ row (flat_map (grant_number 2) (fresh_with 4095 ∷ fresh_with 4096 ∷ [])) (14 ∷ 13 ∷ [])
    -- the last round is open: 12 comes before 13
    ∷ row (grant_number 1 (step (plan_of plan_a) (grants 1) (fresh_with 4095))) (12 ∷ [])
    -- the 4,096th round finishes example 1; with a round fewer left, the log counts its second grant and the two ticks as refused
    ∷ row (shown_from plan_a (fresh_with 4094) log_1) (3 ∷ 4 ∷ 4 ∷ 2 ∷ 2 ∷ 4 ∷ 0 ∷ 2 ∷ 0 ∷ 0 ∷ [])
    ∷ row (shown_from plan_a (fresh_with 4095) log_1) (1 ∷ 2 ∷ 4 ∷ 2 ∷ 1 ∷ 2 ∷ 0 ∷ 0 ∷ 0 ∷ 3 ∷ [])
    -- piece 0 in worker 0's line, and not as an orphan
    ∷ row (placed plan_a (grants 1 ∷ [])) (1 ∷ 0 ∷ [])
    -- so the first tick is a work tick and no mug tick
    ∷ row (shown plan_a (1 ∷ 0x81 ∷ 0 ∷ [])) (1 ∷ 1 ∷ 4 ∷ 1 ∷ 1 ∷ 1 ∷ 0 ∷ 0 ∷ 0 ∷ 0 ∷ [])
    -- also after rounds of 0
    ∷ row (placed plan_a (grants 0 ∷ ticks [] ∷ ticks [] ∷ grants 1 ∷ [])) (1 ∷ 0 ∷ [])
    -- a worker that comes back has an empty line
    ∷ row (placed (seven 1) (two_withdrawn ++ (ticks [] ∷ grants 1 ∷ []))) (0 ∷ 1 ∷ 2 ∷ 2 ∷ 3 ∷ 4 ∷ [])
    -- an empty line of a withdrawn worker vanishes
    ∷ row (placed (chain 2 80 1 4) (grants 1 ∷ ticks (0 ∷ []) ∷ grants 2 ∷ ticks (0 ∷ 0 ∷ []) ∷ grants 0 ∷ [])) (1 ∷ 2 ∷ [])
    -- a new worker has an empty line
    ∷ row (placed (chain 2 80 1 4) (grants 1 ∷ ticks (0 ∷ []) ∷ grants 2 ∷ [])) (1 ∷ 1 ∷ 0 ∷ [])
    ∷ []

-- request U5: "Split the grant."
unfoldable pub offer_rows : List Row
offer_rows =
    -- an offer only notes: no round is open, none has begun, and the ten numbers and the history's rounds stay
    row (offer_kept plan_a (offers 1 ∷ [])) (1 ∷ 1 ∷ 0 ∷ 0 ∷ 0 ∷ [])
    ∷ row (counted plan_a (offers 1 ∷ []) ++ history_shown plan_a (offers 1 ∷ [])) (0 ∷ 0 ∷ 4 ∷ 1 ∷ 0 ∷ 0 ∷ 0 ∷ 0 ∷ 0 ∷ 0 ∷ [])
    -- it meets the grant's questions, 14 too; an offer of 0 is one, and an opening of 0 opens a round
    ∷ row (flat_map (answered plan_a []) (offers 0 ∷ offers 1 ∷ offers 2 ∷ [])) (0 ∷ 0 ∷ 14 ∷ [])
    ∷ row (offer_kept plan_a (offers 0 ∷ []) ++ flat_map (answered plan_a (offers 0 ∷ [])) (opens 1 ∷ opens 0 ∷ []))
    (1 ∷ 0 ∷ 0 ∷ 0 ∷ 0 ∷ 14 ∷ 0 ∷ [])
    ∷ row (offer_kept plan_a (offers 0 ∷ opens 0 ∷ []) ++ offer_kept plan_a (offers 1 ∷ opens 0 ∷ [])) (0 ∷ 1 ∷ 0 ∷ 1 ∷ 0 ∷ 1 ∷ 0 ∷ 1 ∷ [])
    -- while one is noted an offer or a grant gets 25, also above the wanted count, and a tick 15; an opened count above the offer gets 14
    ∷ row (flat_map (answered plan_a (offers 1 ∷ [])) (offers 0 ∷ offers 1 ∷ offers 9 ∷ grants 0 ∷ grants 1 ∷ grants 9 ∷ ticks [] ∷ []))
    (25 ∷ 25 ∷ 25 ∷ 25 ∷ 25 ∷ 25 ∷ 15 ∷ [])
    ∷ row (flat_map (answered plan_a (offers 1 ∷ [])) (opens 0 ∷ opens 1 ∷ opens 2 ∷ withdraws ∷ [])) (0 ∷ 0 ∷ 14 ∷ 0 ∷ [])
    -- with none noted an opening and a withdrawal get 24, whatever else would be asked: at first, of an open round, after the finish
    ∷ row (flat_map (answered plan_a []) (opens 0 ∷ opens 9 ∷ withdraws ∷ [])) (24 ∷ 24 ∷ 24 ∷ [])
    ∷ row (flat_map (answered plan_a (offers 1 ∷ opens 1 ∷ [])) (opens 0 ∷ withdraws ∷ offers 1 ∷ [])) (24 ∷ 24 ∷ 12 ∷ [])
    ∷ row (flat_map (answered (one_task 2) (grants 1 ∷ ticks (0 ∷ []) ∷ [])) (offers 0 ∷ opens 0 ∷ withdraws ∷ [])) (11 ∷ 24 ∷ 24 ∷ [])
    -- 13 for offers, before 14; and 25 comes after 13, 12 and 11 (no job shows a note then, so these states are made up)
    ∷ row (flat_map (λ s. call_number (offers 1) s ++ call_number (offers 2) s) (fresh_with 4095 ∷ fresh_with 4096 ∷ []))
    (0 ∷ 14 ∷ 13 ∷ 13 ∷ [])
    ∷ row (flat_map (λ s. grant_number 2 (with_note (offered 1) s))
    (fresh_with 4095 ∷ fresh_with 4096 ∷ after_calls plan_a (grants 1 ∷ [])
    ∷ after_calls (one_task 2) (grants 1 ∷ ticks (0 ∷ []) ∷ []) ∷ []))
    (25 ∷ 13 ∷ 12 ∷ 11 ∷ [])
    -- a refusal keeps the note, whatever call it is
    ∷ row (offer_kept plan_a (offers 1 ∷ offers 0 ∷ grants 0 ∷ grants 9 ∷ ticks [] ∷ opens 2 ∷ [])) (1 ∷ 1 ∷ 0 ∷ 0 ∷ 0 ∷ [])
    -- withdrawn it is nothing: no round, and a grant is answered as before
    ∷ row (offer_kept plan_a (offers 1 ∷ withdraws ∷ [])) (0 ∷ 0 ∷ 0 ∷ 0 ∷ [])
    ∷ row (flat_map (answered plan_a (offers 0 ∷ withdraws ∷ [])) (grants 1 ∷ grants 2 ∷ opens 0 ∷ [])) (0 ∷ 14 ∷ 24 ∷ [])
    -- opened it is a grant of the opened count: the deques, the rounds, the sum of the granted counts and the end of example 1
    ∷ row (offer_kept plan_a (offers 1 ∷ opens 1 ∷ []) ++ placed plan_a (offers 1 ∷ opens 1 ∷ [])) (0 ∷ 1 ∷ 0 ∷ 1 ∷ 1 ∷ 0 ∷ [])
    ∷ row (placed (seven 1) (grants 1 ∷ ticks (0 ∷ []) ∷ offers 2 ∷ opens 2 ∷ ticks (0 ∷ 0 ∷ []) ∷ offers 1 ∷ opens 0 ∷ []))
    (1 ∷ 2 ∷ 2 ∷ 3 ∷ 4 ∷ [])
    ∷ row (counted plan_a example_1_offered ++ sums plan_a example_1_offered) (3 ∷ 4 ∷ 4 ∷ 2 ∷ 2 ∷ 4 ∷ 0 ∷ 2 ∷ 0 ∷ 0 ∷ 6 ∷ 6 ∷ 6 ∷ [])
    -- "Whether a round is satisfied depends on the count opened": 1 of 2 opened, efficient and not satisfied, and 2 are wanted still; 2 of
    -- 3 opened, inefficient, and 1 is wanted
    ∷ row (history_shown (chain 2 80 1 4) (grants 1 ∷ ticks (0 ∷ []) ∷ offers 2 ∷ opens 1 ∷ ticks (0 ∷ []) ∷ []))
    (1 ∷ 1 ∷ 1 ∷ 1 ∷ 2 ∷ 1 ∷ 1 ∷ 0 ∷ 0 ∷ 1 ∷ [])
    ∷ row (counted (chain 2 80 1 4) (grants 1 ∷ ticks (0 ∷ []) ∷ offers 2 ∷ opens 1 ∷ ticks (0 ∷ []) ∷ []))
    (1 ∷ 2 ∷ 4 ∷ 2 ∷ 1 ∷ 2 ∷ 0 ∷ 0 ∷ 0 ∷ 0 ∷ [])
    ∷ row (history_shown (chain 3 80 1 4) (grants 1 ∷ ticks (0 ∷ []) ∷ offers 3 ∷ opens 2 ∷ ticks (0 ∷ 0 ∷ []) ∷ []))
    (1 ∷ 1 ∷ 1 ∷ 1 ∷ 3 ∷ 2 ∷ 0 ∷ 0 ∷ 0 ∷ 1 ∷ [])
    ∷ row (counted (chain 3 80 1 4) (grants 1 ∷ ticks (0 ∷ []) ∷ offers 3 ∷ opens 2 ∷ ticks (0 ∷ 0 ∷ []) ∷ []))
    (1 ∷ 2 ∷ 4 ∷ 1 ∷ 2 ∷ 2 ∷ 0 ∷ 1 ∷ 0 ∷ 0 ∷ [])
    -- an offer is no round begun: with 4,095 begun an offer, a withdrawal and one more offer leave a round to open
    ∷ row (kept_from (fresh_with 4095) (offers 1 ∷ withdraws ∷ offers 1 ∷ opens 1 ∷ [])) (0 ∷ 1 ∷ 0 ∷ 4096 ∷ [])
    -- the status goes by what is opened
    ∷ row (statuses plan_a (offers 1 ∷ opens 1 ∷ ticks (0 ∷ []) ∷ ticks (0 ∷ []) ∷ offers 2 ∷ opens 0 ∷ []))
    (0 ∷ 0 ∷ 1 ∷ 1 ∷ 1 ∷ 1 ∷ 2 ∷ [])
    -- "the day log has no other": of a job with a note every call of a log is refused, and the note stays
    ∷ row (shown_from plan_a (after_calls plan_a (offers 1 ∷ [])) log_1) (0 ∷ 0 ∷ 4 ∷ 1 ∷ 0 ∷ 0 ∷ 0 ∷ 0 ∷ 0 ∷ 6 ∷ [])
    ∷ row (note_shown (run_log (plan_of plan_a) log_1 (after_calls plan_a (offers 1 ∷ []))).state.note) (1 ∷ 1 ∷ [])
    ∷ []

-- request U8: "Among lines orphaned by the same grant, the highest worker number is now taken first."
unfoldable pub withdrawal_rows : List Row
withdrawal_rows =
    -- two lines of one grant: worker 1's, 2, is before worker 0's, 3 and 4, which stays in its order
    row (placed (seven 1) two_withdrawn) (1 ∷ 2 ∷ 2 ∷ 3 ∷ 4 ∷ [])
    -- the oldest orphan is picked up, and the next one after it, whole
    ∷ row (placed (seven 1) (two_withdrawn ++ (ticks [] ∷ grants 1 ∷ ticks (0 ∷ []) ∷ []))) (1 ∷ 2 ∷ 2 ∷ 3 ∷ 4 ∷ [])
    ∷ row (placed easy_seven (two_withdrawn ++ (ticks [] ∷ grants 2 ∷ ticks (0 ∷ 0 ∷ []) ∷ []))) (1 ∷ 2 ∷ 2 ∷ 3 ∷ 4 ∷ [])
    -- four workers have the lines 7, 5, 4 and 6
    ∷ row (placed four_lines (four_at_work 0)) (1 ∷ 7 ∷ 1 ∷ 5 ∷ 1 ∷ 4 ∷ 1 ∷ 6 ∷ [])
    -- two grants one after the other with two lines each: workers 3 and 2, whose lines are 6 and 4, then workers 1 and 0 with 9 and 8
    ∷ row (placed four_lines (four_at_work 0 ++ (grants 2 ∷ ticks (0 ∷ 0 ∷ []) ∷ []))) (1 ∷ 8 ∷ 1 ∷ 9 ∷ 1 ∷ 6 ∷ 1 ∷ 4 ∷ [])
    ∷ row (placed four_lines two_grants) (1 ∷ 6 ∷ 1 ∷ 4 ∷ 1 ∷ 9 ∷ 1 ∷ 8 ∷ [])
    -- "Lines of an earlier grant still come before them": a worker takes 6, four take 6, 4, 9 and 8
    ∷ row (placed four_lines (two_grants ++ (ticks [] ∷ grants 1 ∷ ticks (0 ∷ []) ∷ []))) (1 ∷ 6 ∷ 1 ∷ 4 ∷ 1 ∷ 9 ∷ 1 ∷ 8 ∷ [])
    ∷ row (placed four_lines (two_grants ++ (ticks [] ∷ grants 4 ∷ ticks (0 ∷ 0 ∷ 0 ∷ 0 ∷ []) ∷ []))) (1 ∷ 6 ∷ 1 ∷ 4 ∷ 1 ∷ 9 ∷ 1 ∷ 8 ∷ [])
    -- also where the later grant withdraws a higher worker: all four are withdrawn, workers 0 and 1 come back, take 6 and 4, and are
    -- withdrawn again; worker 0's line 7 of the earlier grant is before worker 1's line 4 of the later one
    ∷ row (placed four_lines (four_at_work 0 ++ (grants 0 ∷ ticks [] ∷ grants 2 ∷ ticks (0 ∷ 0 ∷ []) ∷ grants 0 ∷ [])))
    (1 ∷ 5 ∷ 1 ∷ 7 ∷ 1 ∷ 4 ∷ 1 ∷ 6 ∷ [])
    -- a gap: of the withdrawn workers 1, 2 and 3 the second robbed itself in vain, and its empty line vanishes
    ∷ row (placed four_lines (four_at_work 2 ++ (grants 1 ∷ []))) (2 ∷ 7 ∷ 4 ∷ 1 ∷ 6 ∷ 1 ∷ 5 ∷ [])
    ∷ []

-- request U12: "non-empty lines and orphans together number at most the largest count granted so far"
unfoldable pub line_rows : List Row
line_rows =
    -- of a fresh job nothing, after a grant of 0 nothing, after one of 1 the line of piece 0
    row (flat_map (lines_after plan_a) ([] ∷ (grants 0 ∷ []) ∷ (grants 1 ∷ []) ∷ [])) (0 ∷ 0 ∷ 0 ∷ 0 ∷ 0 ∷ 0 ∷ 0 ∷ 0 ∷ 1 ∷ 1 ∷ 1 ∷ 1 ∷ [])
    -- met at 2: by two lines; by two orphans while 0 are granted, since the count of 2 was granted before; by two orphans beside a new
    -- worker's empty line; by a line and an orphan
    ∷ row (lines_after easy_seven two_at_work ++ lines_after easy_seven two_withdrawn) (2 ∷ 2 ∷ 2 ∷ 3 ∷ 2 ∷ 2 ∷ 2 ∷ 3 ∷ [])
    ∷ row (lines_after easy_seven (two_withdrawn ++ (ticks [] ∷ grants 1 ∷ []))
    ++ lines_after easy_seven (two_withdrawn ++ (ticks [] ∷ grants 1 ∷ ticks (0 ∷ []) ∷ [])))
    (2 ∷ 2 ∷ 2 ∷ 3 ∷ 2 ∷ 2 ∷ 2 ∷ 3 ∷ [])
    -- met at 3 in the middle of a tick, and neither before nor after it: worker 1 robs worker 2 of 2, and worker 2 then works 4, its last
    ∷ row (lines_inside ten one_in_vain (0 ∷ 2 ∷ 0 ∷ [])) (2 ∷ 2 ∷ 3 ∷ 2 ∷ [])
    ∷ row (lines_after ten one_in_vain ++ lines_after ten (one_in_vain ++ (ticks (0 ∷ 2 ∷ 0 ∷ []) ∷ [])))
    (2 ∷ 3 ∷ 3 ∷ 4 ∷ 2 ∷ 3 ∷ 3 ∷ 2 ∷ [])
    -- a pick-up leaves as many, a steal of two pieces makes one more
    ∷ row (lines_inside easy_seven (two_withdrawn ++ (ticks [] ∷ grants 2 ∷ [])) (0 ∷ 0 ∷ [])) (2 ∷ 2 ∷ 2 ∷ [])
    ∷ row (lines_inside thirteen (single_rounds 3 ++ (grants 2 ∷ [])) (0 ∷ 0 ∷ [])) (1 ∷ 1 ∷ 2 ∷ [])
    -- pieces that last, with a begun one: two lines, and two orphans
    ∷ row (lines_after (lasting_diamond 1) half_of_five ++ lines_after (lasting_diamond 1) (half_of_five ++ (grants 0 ∷ [])))
    (2 ∷ 2 ∷ 2 ∷ 2 ∷ 2 ∷ 2 ∷ 2 ∷ 2 ∷ [])
    -- form 3, of 15 tenths
    ∷ row (lines_after (gentle_bytes 15 1 1 seven_tasks) (single_rounds 2 ++ (grants 2 ∷ ticks (0 ∷ 0 ∷ []) ∷ []))) (2 ∷ 2 ∷ 2 ∷ 2 ∷ [])
    -- an offer that is not opened grants nothing, and an opening what it opens; a refused call grants nothing
    ∷ row (flat_map (λ more. lines_after (seven 1) (grants 1 ∷ ticks (0 ∷ []) ∷ offers 2 ∷ more))
    ([] ∷ (opens 1 ∷ []) ∷ (opens 2 ∷ []) ∷ (opens 3 ∷ []) ∷ (withdraws ∷ []) ∷ []))
    (1 ∷ 1 ∷ 1 ∷ 2 ∷ 1 ∷ 1 ∷ 1 ∷ 2 ∷ 1 ∷ 2 ∷ 2 ∷ 2 ∷ 1 ∷ 1 ∷ 1 ∷ 2 ∷ 1 ∷ 1 ∷ 1 ∷ 2 ∷ [])
    ∷ row (flat_map (lines_after (seven 1)) ((grants 2 ∷ []) ∷ (grants 1 ∷ grants 9 ∷ []) ∷ [])) (0 ∷ 0 ∷ 0 ∷ 0 ∷ 1 ∷ 1 ∷ 1 ∷ 1 ∷ [])
    -- the round in which a job finishes never closes, and its count stays granted
    ∷ row (lines_after (one_task 2) (grants 1 ∷ ticks (0 ∷ []) ∷ [])) (0 ∷ 1 ∷ 1 ∷ 0 ∷ [])
    ∷ []

-- ticks
unfoldable pub tick_rows : List Row
tick_rows =
    -- a choice is asked of a worker that works, too
    row (answered plan_a [] (ticks [])
    ++ flat_map (answered plan_a (grants 1 ∷ [])) (ticks [] ∷ ticks (9 ∷ 9 ∷ []) ∷ ticks (1 ∷ []) ∷ ticks (0 ∷ []) ∷ []))
    (15 ∷ 16 ∷ 16 ∷ 17 ∷ 0 ∷ [])
    -- no round is open, and a choice too many for no worker: 15 comes before 16
    ∷ row (answered plan_a [] (ticks (0 ∷ []))) (15 ∷ [])
    -- a refused tick takes no tick of the round: the grant meets 12
    ∷ row (shown plan_a (1 ∷ 0x81 ∷ 5 ∷ 0x81 ∷ 0 ∷ 1 ∷ [])) (1 ∷ 1 ∷ 4 ∷ 1 ∷ 1 ∷ 1 ∷ 0 ∷ 0 ∷ 0 ∷ 2 ∷ [])
    -- "first" is the field, not the smaller number
    ∷ row (placed (plan_bytes 2 80 2 (task 2 2 1 ∷ task 1 3 0 ∷ task 1 3 0 ∷ task 0 0 0 ∷ [])) (grants 1 ∷ ticks (0 ∷ []) ∷ []))
    (2 ∷ 2 ∷ 1 ∷ [])
    -- piece 3 waits for 1 and 2
    ∷ row (placed plan_a (grants 1 ∷ ticks (0 ∷ []) ∷ ticks (0 ∷ []) ∷ grants 1 ∷ ticks (0 ∷ []) ∷ [])) (1 ∷ 3 ∷ [])
    -- a line that was just picked up can be robbed
    ∷ row (placed easy_seven (grants 1 ∷ ticks (0 ∷ []) ∷ grants 0 ∷ ticks [] ∷ grants 2 ∷ ticks (0 ∷ 0 ∷ []) ∷ [])) (1 ∷ 1 ∷ 1 ∷ 2 ∷ [])
    -- .. and neither worked it in that tick
    ∷ row (shown easy_seven (1 ∷ 0x81 ∷ 0 ∷ 0 ∷ 0x80 ∷ 2 ∷ 0x82 ∷ 0 ∷ 0 ∷ [])) (1 ∷ 1 ∷ 7 ∷ 4 ∷ 2 ∷ 1 ∷ 1 ∷ 1 ∷ 1 ∷ 0 ∷ [])
    -- an empty worker picks up an orphan before it steals, though the chosen line has two pieces
    ∷ row (placed ten
    (grants 1 ∷ ticks (0 ∷ []) ∷ grants 2 ∷ ticks (0 ∷ 0 ∷ []) ∷ grants 1 ∷ ticks (0 ∷ []) ∷ grants 2 ∷ ticks (0 ∷ 0 ∷ []) ∷ []))
    (2 ∷ 6 ∷ 4 ∷ 1 ∷ 2 ∷ [])
    ∷ row (shown ten (1 ∷ 0x81 ∷ 0 ∷ 2 ∷ 0x82 ∷ 0 ∷ 0 ∷ 1 ∷ 0x81 ∷ 0 ∷ 2 ∷ 0x82 ∷ 0 ∷ 0 ∷ [])) (1 ∷ 4 ∷ 10 ∷ 4 ∷ 2 ∷ 4 ∷ 1 ∷ 1 ∷ 1 ∷ 0 ∷ [])
    -- a line of one piece is not robbed; and the round was inefficient
    ∷ row (shown (chain 2 80 1 4) (1 ∷ 0x81 ∷ 0 ∷ 2 ∷ 0x82 ∷ 0 ∷ 0 ∷ [])) (1 ∷ 2 ∷ 4 ∷ 1 ∷ 2 ∷ 2 ∷ 0 ∷ 1 ∷ 0 ∷ 0 ∷ [])
    -- a worker may choose itself, in vain
    ∷ row (shown (seven 1) (1 ∷ 0x81 ∷ 0 ∷ 2 ∷ 0x82 ∷ 0 ∷ 1 ∷ [])) (1 ∷ 2 ∷ 7 ∷ 1 ∷ 2 ∷ 2 ∷ 0 ∷ 1 ∷ 0 ∷ 0 ∷ [])
    -- the finishing round is not classified, also in its L-th tick
    ∷ row (shown (one_task 1) (1 ∷ 0x81 ∷ 0 ∷ [])) (3 ∷ 1 ∷ 1 ∷ 1 ∷ 1 ∷ 1 ∷ 0 ∷ 0 ∷ 0 ∷ 0 ∷ [])
    -- a finished job keeps its round open, the finishing tick counted
    ∷ row (quantum_kept (after_calls (one_task 1) (grants 1 ∷ ticks (0 ∷ []) ∷ []))) (1 ∷ 1 ∷ [])
    ∷ []

-- request U1: a steal takes half of the line
unfoldable pub steal_rows : List Row
steal_rows =
    -- rounded down: 2 or 3 pieces give 1, 4 or 5 give 2
    row (map stolen_count (2 ∷ 3 ∷ 4 ∷ 5 ∷ 6 ∷ 7 ∷ 1023 ∷ 1024 ∷ [])) (1 ∷ 1 ∷ 2 ∷ 2 ∷ 3 ∷ 3 ∷ 511 ∷ 512 ∷ [])
    -- of the line 3, 4, 2 the thief has 2
    ∷ row (placed thirteen (grants 1 ∷ ticks (0 ∷ []) ∷ grants 2 ∷ ticks (0 ∷ 0 ∷ []) ∷ [])) (2 ∷ 3 ∷ 4 ∷ 1 ∷ 2 ∷ [])
    -- of 5, 6, 4, 2 the thief has 4, 2, in this order
    ∷ row (placed thirteen (grants 1 ∷ ticks (0 ∷ []) ∷ grants 1 ∷ ticks (0 ∷ []) ∷ grants 2 ∷ ticks (0 ∷ 0 ∷ []) ∷ []))
    (2 ∷ 5 ∷ 6 ∷ 2 ∷ 4 ∷ 2 ∷ [])
    -- of 7, 8, 6, 4, 2 it has 4, 2, too
    ∷ row (placed thirteen half_of_five) (3 ∷ 7 ∷ 8 ∷ 6 ∷ 2 ∷ 4 ∷ 2 ∷ [])
    -- two pieces moved, and one success is counted; neither was worked in that tick
    ∷ row (counted thirteen half_of_five) (1 ∷ 4 ∷ 13 ∷ 4 ∷ 2 ∷ 4 ∷ 0 ∷ 1 ∷ 1 ∷ 0 ∷ [])
    -- the thief works what it took from the front on: 4, which leaves 2
    ∷ row (placed thirteen (half_of_five ++ (grants 2 ∷ ticks (0 ∷ 0 ∷ []) ∷ []))) (2 ∷ 8 ∷ 6 ∷ 1 ∷ 2 ∷ [])
    -- three thieves in one tick: the second takes half of what the first left, the third half of what the first took
    ∷ row (placed thirteen three_thieves) (2 ∷ 7 ∷ 8 ∷ 1 ∷ 4 ∷ 1 ∷ 6 ∷ 1 ∷ 2 ∷ [])
    ∷ row (counted thirteen three_thieves) (1 ∷ 4 ∷ 13 ∷ 8 ∷ 4 ∷ 4 ∷ 0 ∷ 4 ∷ 3 ∷ 0 ∷ [])
    ∷ []

-- request U6: "In the tick that finishes a job, the workers after the one that finished it shall each count an unsuccessful steal."
unfoldable pub last_tick_rows : List Row
last_tick_rows =
    -- the finisher is the first of three: workers 1 and 2 steal in vain in each of six ticks, the last one too
    row (counted wide_seven (three_at_work 5 (0 ∷ 1 ∷ 2 ∷ []))) (1 ∷ 6 ∷ 7 ∷ 9 ∷ 3 ∷ 6 ∷ 0 ∷ 10 ∷ 0 ∷ 0 ∷ [])
    ∷ row (counted wide_seven (three_at_work 6 (0 ∷ 1 ∷ 2 ∷ []))) (3 ∷ 7 ∷ 7 ∷ 9 ∷ 3 ∷ 7 ∷ 0 ∷ 12 ∷ 0 ∷ 0 ∷ [])
    -- it is the second: worker 0 steals in vain before it, and is not charged again; worker 2 is charged
    ∷ row (counted wide_seven (three_at_work 3 (0 ∷ 0 ∷ 0 ∷ []))) (1 ∷ 6 ∷ 7 ∷ 9 ∷ 3 ∷ 6 ∷ 0 ∷ 4 ∷ 2 ∷ 0 ∷ [])
    ∷ row (counted wide_seven (three_at_work 4 (0 ∷ 0 ∷ 0 ∷ []))) (3 ∷ 7 ∷ 7 ∷ 9 ∷ 3 ∷ 7 ∷ 0 ∷ 6 ∷ 2 ∷ 0 ∷ [])
    -- it is the last: workers 0 and 1 steal in vain before it, and nobody is charged
    ∷ row (counted wide_seven (three_at_work 3 (0 ∷ 1 ∷ 0 ∷ []))) (1 ∷ 6 ∷ 7 ∷ 9 ∷ 3 ∷ 6 ∷ 0 ∷ 4 ∷ 1 ∷ 0 ∷ [])
    ∷ row (counted wide_seven (three_at_work 4 (0 ∷ 1 ∷ 0 ∷ []))) (3 ∷ 7 ∷ 7 ∷ 9 ∷ 3 ∷ 7 ∷ 0 ∷ 6 ∷ 1 ∷ 0 ∷ [])
    -- one worker only
    ∷ row (sums (one_task 2) (grants 1 ∷ ticks (0 ∷ []) ∷ [])) (1 ∷ 1 ∷ 1 ∷ [])
    -- above the finishing tick was the round's L-th, and the wanted count stayed 9; here it is the first of two, and the round stays open
    ∷ row (counted (chain 3 1 2 3) (then_three ++ (ticks (0 ∷ 0 ∷ 0 ∷ []) ∷ []))) (3 ∷ 3 ∷ 3 ∷ 3 ∷ 3 ∷ 3 ∷ 0 ∷ 2 ∷ 0 ∷ 0 ∷ [])
    ∷ row (quantum_kept (after_calls (chain 3 1 2 3) (then_three ++ (ticks (0 ∷ 0 ∷ 0 ∷ []) ∷ [])))) (1 ∷ 1 ∷ [])
    -- other choices of workers 1 and 2 count the same, and no line moves; but 17 asks them as before
    ∷ row (counted (chain 3 1 2 3) (then_three ++ (ticks (0 ∷ 2 ∷ 1 ∷ []) ∷ []))) (3 ∷ 3 ∷ 3 ∷ 3 ∷ 3 ∷ 3 ∷ 0 ∷ 2 ∷ 0 ∷ 0 ∷ [])
    ∷ row (placed (chain 3 1 2 3) (then_three ++ (ticks (0 ∷ 2 ∷ 1 ∷ []) ∷ []))) (0 ∷ 0 ∷ 0 ∷ [])
    ∷ row (answered (chain 3 1 2 3) then_three (ticks (0 ∷ 0 ∷ 3 ∷ []))) (17 ∷ [])
    -- the charge is no usage: one work cycle in the round
    ∷ row ((after_calls (chain 3 1 2 3) (then_three ++ (ticks (0 ∷ 0 ∷ 0 ∷ []) ∷ []))).execution.counts.usage ∷ []) (1 ∷ [])
    -- "work, mug and steal ticks add up to the sum of the granted counts": 1 + 6 × 3; 1 + 4 × 3
    ∷ row (flat_map (λ n. sums wide_seven (three_at_work n (0 ∷ 1 ∷ 2 ∷ []))) (0 ∷ 1 ∷ 6 ∷ 7 ∷ []))
    (1 ∷ 1 ∷ 1 ∷ 4 ∷ 4 ∷ 4 ∷ 19 ∷ 19 ∷ 19 ∷ 19 ∷ 19 ∷ 19 ∷ [])
    ∷ row (sums wide_seven (three_at_work 4 (0 ∷ 1 ∷ 0 ∷ []))) (13 ∷ 13 ∷ 13 ∷ [])
    -- refused ticks and grants add nothing, ticks of no worker neither: 1 + 1 + 3 + 3
    ∷ row (sums (chain 3 1 2 3)
    (grants 5 ∷ ticks (0 ∷ []) ∷ grants 1 ∷ ticks (1 ∷ []) ∷ ticks (0 ∷ []) ∷ grants 1 ∷ ticks (0 ∷ []) ∷ grants 0 ∷ ticks [] ∷ ticks []
    ∷ grants 4 ∷ grants 3 ∷ ticks (0 ∷ 0 ∷ []) ∷ ticks (0 ∷ 0 ∷ 3 ∷ []) ∷ ticks (0 ∷ 0 ∷ 0 ∷ []) ∷ ticks (0 ∷ 0 ∷ 0 ∷ []) ∷ ticks [] ∷ []))
    (8 ∷ 8 ∷ 8 ∷ [])
    ∷ []

-- round's end
unfoldable pub quantum_rows : List Row
quantum_rows =
    -- 140 / 100 rounds to 1
    row (map (λ u. cond (efficient (plan_of (diamond 2 70 2)).terms u 1) 1 0) (1 ∷ 2 ∷ [])) (0 ∷ 1 ∷ [])
    -- 66 / 100 rounds down to 0
    ∷ row (map (λ u. cond (efficient (plan_of (diamond 2 33 1)).terms u 2) 1 0) (0 ∷ 1 ∷ [])) (0 ∷ 1 ∷ [])
    -- 33 / 100 rounds to the nearest, 0
    ∷ row (map (λ u. cond (efficient (plan_of (diamond 2 33 1)).terms u 1) 1 0) (0 ∷ 1 ∷ [])) (0 ∷ 1 ∷ [])
    -- a round of 0 is efficient
    ∷ row (cond (efficient (plan_of plan_a).terms 0 0) 1 0 ∷ []) (1 ∷ [])
    -- it closes inside its last tick; the granted count stays
    ∷ row (shown (chain 2 80 1 4) (1 ∷ 0x81 ∷ 0 ∷ [])) (1 ∷ 1 ∷ 4 ∷ 2 ∷ 1 ∷ 1 ∷ 0 ∷ 0 ∷ 0 ∷ 0 ∷ [])
    -- inefficient divides, also when deprived
    ∷ row (desire_after plan_a 2 4 false true ∷ desire_after plan_a 2 4 false false ∷ desire_after plan_a 2 4 true false
    ∷ desire_after plan_a 2 4 true true ∷ []) (2 ∷ 2 ∷ 4 ∷ 8 ∷ [])
    -- at the top it stays as it is
    ∷ row (map (λ r. desire_after (diamond r 80 2) 2 (get_or top_desires (r - 2) 0) true true) (2 ∷ 3 ∷ 4 ∷ 5 ∷ 6 ∷ 7 ∷ []))
    (64 ∷ 27 ∷ 64 ∷ 25 ∷ 36 ∷ 49 ∷ [])
    -- 64 itself is allowed
    ∷ row (desire_after plan_a 5 32 true true ∷ desire_after (diamond 4 80 2) 2 16 true true ∷ []) (64 ∷ 64 ∷ [])
    -- example 2: three closed rounds, the one that never closes, the order of work
    ∷ row (history_shown plan_a
    (grants 1 ∷ ticks (0 ∷ []) ∷ ticks (0 ∷ []) ∷ grants 0 ∷ ticks [] ∷ ticks [] ∷ grants 1 ∷ ticks (0 ∷ []) ∷ ticks (0 ∷ []) ∷ grants 1
    ∷ ticks (0 ∷ []) ∷ [])) (1 ∷ 1 ∷ 1 ∷ 1 ∷ 2 ∷ 0 ∷ 1 ∷ 0 ∷ 2 ∷ 1 ∷ 1 ∷ 0 ∷ 2 ∷ 1 ∷ 0 ∷ 1 ∷ 2 ∷ 3 ∷ [])
    ∷ []

-- log, status, label, count line
unfoldable pub log_rows : List Row
log_rows =
    -- a refused tick's choices are no entries
    row (shown plan_a (1 ∷ 0x82 ∷ 1 ∷ 1 ∷ 0x81 ∷ 0 ∷ [])) (1 ∷ 1 ∷ 4 ∷ 1 ∷ 1 ∷ 1 ∷ 0 ∷ 0 ∷ 0 ∷ 1 ∷ [])
    -- a tick of 127 choices is read as it stands, and refused by 16
    ∷ row (shown plan_a (0x01 ∷ 0xff ∷ [] ++ replicate 127 0 ++ (0x81 ∷ 0x00 ∷ []))) (1 ∷ 1 ∷ 4 ∷ 1 ∷ 1 ∷ 1 ∷ 0 ∷ 0 ∷ 0 ∷ 1 ∷ [])
    -- a grant byte is read as it stands
    ∷ row (shown plan_a (0x7f ∷ 0x41 ∷ [])) (0 ∷ 0 ∷ 4 ∷ 1 ∷ 0 ∷ 0 ∷ 0 ∷ 0 ∷ 0 ∷ 2 ∷ [])
    ∷ row (answer_number (log_answer (1 ∷ 0x81 ∷ [])) ∷ answer_number (log_answer (1 ∷ 0x82 ∷ 0 ∷ []))
    ∷ answer_number (log_answer (1 ∷ 0x80 ∷ [])) ∷ answer_number (log_answer []) ∷ []) (18 ∷ 18 ∷ 0 ∷ 0 ∷ [])
    -- a broken entry is not counted, nor asked 11
    ∷ row (shown (one_task 2) (1 ∷ 0x81 ∷ 0 ∷ 0x82 ∷ 0 ∷ [])) (3 ∷ 1 ∷ 1 ∷ 1 ∷ 1 ∷ 1 ∷ 0 ∷ 0 ∷ 0 ∷ 0 ∷ [])
    -- a log runs from any record; the refused count is its own
    ∷ row (shown_twice plan_a (2 ∷ 1 ∷ 0x81 ∷ 0 ∷ []) (1 ∷ 0x81 ∷ 0 ∷ [])) (1 ∷ 2 ∷ 4 ∷ 2 ∷ 1 ∷ 2 ∷ 0 ∷ 0 ∷ 0 ∷ 1 ∷ [])
    -- status in the order 3, 0, 2, 1
    ∷ row (statuses plan_a
    (grants 0 ∷ ticks [] ∷ ticks [] ∷ grants 1 ∷ ticks (0 ∷ []) ∷ ticks (0 ∷ []) ∷ grants 0 ∷ ticks [] ∷ ticks [] ∷ grants 2
    ∷ ticks (0 ∷ 0 ∷ []) ∷ ticks (0 ∷ 0 ∷ []) ∷ grants 1 ∷ ticks (0 ∷ []) ∷ []))
    (0 ∷ 0 ∷ 0 ∷ 0 ∷ 1 ∷ 1 ∷ 1 ∷ 2 ∷ 2 ∷ 2 ∷ 1 ∷ 1 ∷ 1 ∷ 1 ∷ 3 ∷ [])
    -- an empty line is a line; lines past the fourth are passed over
    ∷ row (flat_map (labelled (97 ∷ 10 ∷ 10 ∷ 98 ∷ 99 ∷ 10 ∷ 100 ∷ 10 ∷ 120 ∷ 10 ∷ 121 ∷ [])) (below 4))
    (0 ∷ 0 ∷ 1 ∷ 97 ∷ 0 ∷ 2 ∷ 0 ∷ 0 ∷ 3 ∷ 2 ∷ 98 ∷ 99 ∷ 0 ∷ 6 ∷ 1 ∷ 100 ∷ [])
    -- a stretch without its end is no line
    ∷ row (flat_map (labelled (97 ∷ 10 ∷ 98 ∷ [])) (below 4)) (0 ∷ 0 ∷ 1 ∷ 97 ∷ 19 ∷ 0 ∷ 0 ∷ 19 ∷ 0 ∷ 0 ∷ 19 ∷ 0 ∷ 0 ∷ [])
    ∷ row (labelled [] 0 ++ labelled (10 ∷ []) 0) (19 ∷ 0 ∷ 0 ∷ 0 ∷ 0 ∷ 0 ∷ [])
    ∷ row (flat_map decimal (0 ∷ 9 ∷ 10 ∷ 109 ∷ 18446744073709551615 ∷ []))
    (48 ∷ 57 ∷ 49 ∷ 48 ∷ 49 ∷ 48 ∷ 57 ∷ 49 ∷ 56 ∷ 52 ∷ 52 ∷ 54 ∷ 55 ∷ 52 ∷ 52 ∷ 48 ∷ 55 ∷ 51 ∷ 55 ∷ 48 ∷ 57 ∷ 53 ∷ 53 ∷ 49 ∷ 54 ∷ 49
    ∷ 53 ∷ [])
    -- U2: "1 for 0, else the least count whose power of ten is above the number"
    ∷ row (map digit_count
    (0 ∷ 1 ∷ 9 ∷ 10 ∷ 99 ∷ 100 ∷ 9999 ∷ 10000 ∷ 9999999999999999999 ∷ 10000000000000000000 ∷ 18446744073709551615 ∷ []))
    (1 ∷ 1 ∷ 1 ∷ 2 ∷ 2 ∷ 3 ∷ 4 ∷ 5 ∷ 19 ∷ 20 ∷ 20 ∷ [])
    -- "the line is as long as the ten counts plus 10": spaces and byte 10 together, no more; the longest line of numbers of such widths
    ∷ row (line_size (counters (plan_of plan_a) (fresh (plan_of plan_a)) 100)
    ∷ length (counters_line (plan_of plan_a) (fresh (plan_of plan_a)) 100)
    ∷ line_size (3 ∷ 65535 ∷ 65535 ∷ 255 ∷ 255 ∷ replicate 5 18446744073709551615) ∷ []) (22 ∷ 22 ∷ 127 ∷ [])
    -- bytes after the line do not change
    ∷ row (buffer_after (plan_of plan_a) (fresh (plan_of plan_a)) 0 (replicate 130 7))
    (48 ∷ 32 ∷ 48 ∷ 32 ∷ 52 ∷ 32 ∷ 49 ∷ 32 ∷ 48 ∷ 32 ∷ 48 ∷ 32 ∷ 48 ∷ 32 ∷ 48 ∷ 32 ∷ 48 ∷ 32 ∷ 48 ∷ 10 ∷ replicate 110 7)
    -- 20 asks the buffer's length
    ∷ row (length (keep (λ b. eqb b 7) (buffer_after (plan_of plan_a) (fresh (plan_of plan_a)) 0 (replicate 127 7)))
    ∷ answer_number (counters_answer (replicate 127 7)) ∷ answer_number (counters_answer (replicate 128 7)) ∷ []) (127 ∷ 20 ∷ 0 ∷ [])
    ∷ []

-- choices from a seed
unfoldable pub seed_rows : List Row
seed_rows =
    -- "the next s is 1,664,525 × s + 1,013,904,223, wrapped modulo 2^32", from 0, 1 and the largest; and the thousandth from 0
    row (next_seed 0 ∷ next_seed 1 ∷ next_seed 4294967295 ∷ seed_after 1000 0 ∷ [])
    (1013904223 ∷ 1015568748 ∷ 1012239698 ∷ 3926946568 ∷ [])
    -- "the whole part of that next s / 65,536", of the next state and not of the one before, and not its low half; "modulo the granted
    -- count"
    ∷ row (draws 65536 4 0 ++ draws 3 4 0) (15470 ∷ 18256 ∷ 53708 ∷ 43769 ∷ 2 ∷ 1 ∷ 2 ∷ 2 ∷ [])
    -- "One draw is made for every granted worker in order", the worker that works, too: the thieves' choices are the second and the third.
    -- None is made by the last tick, which is refused
    ∷ row (day_shown wide_seven 7 three_by_seed) (1550419440 ∷ 1 ∷ 5 ∷ 7 ∷ 9 ∷ 3 ∷ 5 ∷ 0 ∷ 2 ∷ 2 ∷ 0 ∷ [])
    ∷ row (day_logged wide_seven 7 three_by_seed) (1 ∷ 129 ∷ 0 ∷ 3 ∷ 131 ∷ 1 ∷ 0 ∷ 0 ∷ 3 ∷ 131 ∷ 2 ∷ 2 ∷ 2 ∷ [])
    ∷ row (day_replayed wide_seven 7 three_by_seed) (1 ∷ 5 ∷ 7 ∷ 9 ∷ 3 ∷ 5 ∷ 0 ∷ 2 ∷ 2 ∷ 0 ∷ [])
    -- in the tick that finishes the job two draws, too: six in all; then 11, and no draw
    ∷ row (day_shown plan_a 5 finished_by_seed) (seed_after 6 5 ∷ 3 ∷ 4 ∷ 4 ∷ 2 ∷ 2 ∷ 4 ∷ 0 ∷ 2 ∷ 0 ∷ 0 ∷ [])
    ∷ row (day_logged plan_a 5 finished_by_seed) (1 ∷ 129 ∷ 0 ∷ 129 ∷ 0 ∷ 2 ∷ 130 ∷ 0 ∷ 0 ∷ 130 ∷ 0 ∷ 0 ∷ [])
    -- "none when 0 are granted": a tick of no worker is an entry of one byte
    ∷ row (day_shown plan_a 5 held_by_seed ++ day_logged plan_a 5 held_by_seed)
    (5 ∷ 1 ∷ 0 ∷ 4 ∷ 1 ∷ 1 ∷ 0 ∷ 0 ∷ 0 ∷ 0 ∷ 0 ∷ 0 ∷ 128 ∷ 128 ∷ 1 ∷ [])
    ∷ row (seeded_number plan_a finished_by_seed ∷ seeded_number plan_a [] ∷ seeded_number plan_a held_by_seed ∷ []) (11 ∷ 15 ∷ 0 ∷ [])
    -- an entry behind what is written, and the bytes behind it stay; 20 asks for room, 14 and 16 before it for what 7 bits can say
    ∷ row (appended (entry_bytes (ticks (1 ∷ 0 ∷ []))) (replicate 6 7) 2) (7 ∷ 7 ∷ 130 ∷ 1 ∷ 0 ∷ 7 ∷ [])
    ∷ row (append_number (grant_sayable 127) (127 ∷ []) 3 2 ∷ append_number (grant_sayable 127) (127 ∷ []) 3 3
    ∷ append_number (grant_sayable 128) (128 ∷ []) 3 3 ∷ append_number (tick_sayable (replicate 128 0)) (replicate 129 0) 3 3
    ∷ append_number (tick_sayable (replicate 127 0)) (replicate 128 0) 130 2
    ∷ append_number (tick_sayable (replicate 127 0)) (replicate 128 0) 129 2 ∷ []) (0 ∷ 20 ∷ 14 ∷ 16 ∷ 0 ∷ 20 ∷ [])
    ∷ []

-- the program
unfoldable pub program_rows : List Row
program_rows =
    row (program [] ++ program (0 ∷ []) ++ program (0 ∷ 1 ∷ []) ++ program (0 ∷ 0 ∷ []))
    (114 ∷ 101 ∷ 102 ∷ 117 ∷ 115 ∷ 101 ∷ 100 ∷ 32 ∷ 50 ∷ 50 ∷ 10 ∷ 114 ∷ 101 ∷ 102 ∷ 117 ∷ 115 ∷ 101 ∷ 100 ∷ 32 ∷ 50 ∷ 50 ∷ 10 ∷ 114
    ∷ 101 ∷ 102 ∷ 117 ∷ 115 ∷ 101 ∷ 100 ∷ 32 ∷ 50 ∷ 50 ∷ 10 ∷ 114 ∷ 101 ∷ 102 ∷ 117 ∷ 115 ∷ 101 ∷ 100 ∷ 32 ∷ 49 ∷ 10 ∷ [])
    ∷ row (program (replicate 65536 0) ++ program (replicate 65537 0))
    (114 ∷ 101 ∷ 102 ∷ 117 ∷ 115 ∷ 101 ∷ 100 ∷ 32 ∷ 49 ∷ 10 ∷ 114 ∷ 101 ∷ 102 ∷ 117 ∷ 115 ∷ 101 ∷ 100 ∷ 32 ∷ 50 ∷ 49 ∷ 10 ∷ [])
    ∷ row (program (0 ∷ 17 ∷ [] ++ plan_a))
    (48 ∷ 32 ∷ 48 ∷ 32 ∷ 52 ∷ 32 ∷ 49 ∷ 32 ∷ 48 ∷ 32 ∷ 48 ∷ 32 ∷ 48 ∷ 32 ∷ 48 ∷ 32 ∷ 48 ∷ 32 ∷ 48 ∷ 10 ∷ [])
    -- after 18 the count line first
    ∷ row (program (0 ∷ 17 ∷ [] ++ plan_a ++ (1 ∷ 0x81 ∷ [])))
    (49 ∷ 32 ∷ 48 ∷ 32 ∷ 52 ∷ 32 ∷ 49 ∷ 32 ∷ 49 ∷ 32 ∷ 48 ∷ 32 ∷ 48 ∷ 32 ∷ 48 ∷ 32 ∷ 48 ∷ 32 ∷ 48 ∷ 10 ∷ 114 ∷ 101 ∷ 102 ∷ 117 ∷ 115
    ∷ 101 ∷ 100 ∷ 32 ∷ 49 ∷ 56 ∷ 10 ∷ [])
    -- with a refused plan nothing of the log is looked at
    ∷ row (program (0 ∷ 16 ∷ [] ++ plan_a) ++ program (0 ∷ 18 ∷ [] ++ plan_a))
    (114 ∷ 101 ∷ 102 ∷ 117 ∷ 115 ∷ 101 ∷ 100 ∷ 32 ∷ 54 ∷ 10 ∷ 114 ∷ 101 ∷ 102 ∷ 117 ∷ 115 ∷ 101 ∷ 100 ∷ 32 ∷ 50 ∷ 50 ∷ 10 ∷ [])
    ∷ []

unfoldable pub our_rows : List Row
our_rows =
    plan_rows ++ form_rows ++ gentle_rows ++ lasting_rows ++ grant_rows ++ offer_rows ++ withdrawal_rows ++ line_rows ++ tick_rows ++
    steal_rows ++ last_tick_rows ++ quantum_rows ++ log_rows ++ seed_rows ++ program_rows

unfoldable pub rows : List Row
rows = document_rows ++ our_rows

-- ---- the statements of demand 3 at numbers: what they allow at most, and what is more

-- a closed round with this k and wanted count
abbrev pub round : ℕ → ℕ → ClosedQuantum
round power wanted = record { power = power; wanted = wanted; granted = wanted; was_efficient = true; was_satisfied = true }

-- ---- the table of the six top desires: one test over all of its entries. The crate `laws` makes it the rule at each entry.

unfoldable pub powers : ℕ → List ℕ
powers r = map (desire_at (by_factor r)) (below 7)

-- "the largest powers of R up to 64": a power of R, at most 64, and R times it exceeds 64
unfoldable pub top_desire_right : ℕ → ℕ → Bool
top_desire_right r top = member top (powers r) && (leb top most_workers && ltb most_workers (top * r))

-- the entries are those of R, R + 1, ..
unfoldable pub top_desires_right : ℕ → List ℕ → Bool
top_desires_right r [] = true
top_desires_right r (top ∷ tops) = top_desire_right r top && top_desires_right (suc r) tops

-- ---- the nine rows of whole parts: one test over all entries of all rows. The crate `laws` makes it the rule of each row.

-- an entry of t tenths: the whole part of the power k, at most 64
unfoldable pub whole_part_right : ℕ → ℕ → ℕ → Bool
whole_part_right t k entry = eqb entry (desire_at (by_tenths t) k) && leb entry most_workers

-- the entries are those of the powers k, k + 1, .., and the next whole part exceeds 64
unfoldable pub row_right : ℕ → ℕ → List ℕ → Bool
row_right t k [] = ltb most_workers (desire_at (by_tenths t) k)
row_right t k (entry ∷ row) = whole_part_right t k entry && row_right t (suc k) row

-- the rows are those of t, t + 1, .. tenths
unfoldable pub rows_right : ℕ → List (List ℕ) → Bool
rows_right t [] = true
rows_right t (row ∷ rows) = row_right t 0 row && rows_right (suc t) rows
