-- Document 01, "Grant", "Tick" and "Round's end", and request U5's offers: what a job is, and how each call moves it.
use Rattle.std.specs.Prelude.{Bool, true, false, cond, not, ◌&&◌, ℕ, suc, ◌+◌, ◌-◌, ◌*◌, ◌/◌}
use Rattle.std.specs.Prelude.{◌^◌, leb, ltb, eqb, length, get_or, take, drop, set, replicate}
use mathlib.Core.List.{List, [], ◌∷◌, ◌++◌, tail, reverse}
use Rattle.model.specs.Tests.{every, keep, is_empty, count_set, all_set, zeros}
use Rattle.model.specs.Questions.{Question, ask, Answer, first_no, by_answer}
use Rattle.model.specs.Plan.{Growth, by_factor, by_tenths, Plan, Terms, Graph, successors_of, predecessors}

-- ---- what a job is

-- "Work ticks, mug ticks and steal ticks are three counts, and no total of one kind takes a tick of another": three types
pub record WorkCycles : Type 0 where
  pub work : ℕ

pub record MugCycles : Type 0 where
  pub mug : ℕ

pub record StealCycles : Type 0 where
  pub steal : ℕ

pub record Counts : Type 0 where
  pub works : WorkCycles  -- work ticks
  pub mugs : MugCycles  -- mug ticks
  pub steals : StealCycles  -- steal ticks, successful or not
  pub successes : ℕ  -- successful steals
  pub usage : ℕ  -- u: work plus mug ticks of the quantum last opened (nonsteal usage)

-- what the workers' cycles move
pub record Execution : Type 0 where
  pub left : List ℕ  -- of each task: the work ticks that it has left
  pub deques : List (List ℕ)  -- of each granted worker its deque (line) of ready tasks, front first
  pub muggable : List (List ℕ)  -- the muggable deques (orphans), oldest first
  pub counts : Counts

-- the open quantum (round)
pub data Quantum : Type 0 where
  idle : Quantum  -- none is open
  opened : ℕ → Quantum  -- one is open, and has had so many ticks

-- what a job wants
pub record Wish : Type 0 where
  pub power : ℕ  -- k: the wanted count is R to this power, or its whole part
  pub desire : ℕ  -- the wanted count

-- the offer that is noted (request U5)
pub data Note : Type 0 where
  no_offer : Note  -- none
  offered : ℕ → Note  -- one of so many workers

pub record State : Type 0 where
  pub execution : Execution
  pub started : Bool  -- a count above 0 was granted
  pub wish : Wish
  pub quantum : Quantum
  pub begun : ℕ  -- how many quanta (rounds) have begun
  pub note : Note

-- the granted count: each granted worker has a deque
abbrev pub allotment : State → ℕ
allotment s = length s.execution.deques

abbrev pub deque_of : Execution → ℕ → List ℕ
deque_of e w = get_or e.deques w []

-- of each task: it is worked. Request U9: "of a piece, "worked" means completed", that is, no tick of it is left
abbrev pub worked : Execution → List Bool
worked e = zeros e.left

-- "finished": all N are worked
unfoldable pub finished : Execution → Bool
finished e = all_set (worked e)

abbrev pub no_counts : Counts
no_counts =
    record {
      works = record { work = 0 };
      mugs = record { mug = 0 };
      steals = record { steal = 0 };
      successes = 0;
      usage = 0;
    }

-- "A fresh job wants 1 and has 0 granted." Request U14: "k starts at 0". Request U5: "the note, none at first"
unfoldable pub fresh : Plan → State
fresh plan =
    record {
      execution = record { left = plan.durations; deques = []; muggable = []; counts = no_counts };
      started = false;
      wish = record { power = 0; desire = 1 };
      quantum = idle;
      begun = 0;
      note = no_offer;
    }

-- ---- Grant

-- "Have fewer than 4,096 rounds begun?", where document 01 has 65,535. Request U4: "Make that the limit in place of 65,535 .. A grant that
-- passes 11 and 12 meets question 13 with 4,095 rounds begun; with 4,096 begun it is turned down with the number 13 it has today."
abbrev pub quantum_limit : ℕ
quantum_limit = 4096

abbrev pub no_quantum_open : Quantum → Bool
no_quantum_open idle = true
no_quantum_open (opened ticks) = false

abbrev pub none_noted : Note → Bool
none_noted no_offer = true
none_noted (offered g) = false

-- "A grant of g", 11 to 14. Request U5: "an offer or grant while one is noted gets 25, after 13 and before 14"
unfoldable pub grant_questions : ℕ → State → List Question
grant_questions g s =
    ask (not (finished s.execution)) 11
    ∷ ask (no_quantum_open s.quantum) 12
    ∷ ask (ltb s.begun quantum_limit) 13
    ∷ ask (none_noted s.note) 25
    ∷ ask (leb g s.wish.desire) 14
    ∷ []

-- "If g exceeds the last granted count, the new workers have empty lines."
unfoldable pub kept_deques : ℕ → List (List ℕ) → List (List ℕ)
kept_deques g deques = take g deques ++ replicate (g - length deques) []

-- the order in which one grant's withdrawn deques join the muggable ones: not "in rising worker order", as in document 01, but in falling.
-- Request U8: "Among lines orphaned by the same grant, the highest worker number is now taken first."
abbrev pub withdrawal_order : List (List ℕ) → List (List ℕ)
withdrawal_order deques = reverse deques

-- "workers g and up are withdrawn; their non-empty lines join the end of the orphans .. and empty ones vanish"
unfoldable pub withdrawn_deques : ℕ → List (List ℕ) → List (List ℕ)
withdrawn_deques g deques = withdrawal_order (keep (λ d. not (is_empty d)) (drop g deques))

-- worker 0's deque with task 0 in front
abbrev pub place_first_task : List (List ℕ) → List (List ℕ)
place_first_task [] = []
place_first_task (d ∷ ds) = (0 ∷ d) ∷ ds

-- "The first grant above 0 puts piece 0 in worker 0's line."
unfoldable pub first_task_placed : Bool → List (List ℕ) → List (List ℕ)
first_task_placed started deques = cond started deques (place_first_task deques)

abbrev pub with_usage_0 : Counts → Counts
with_usage_0 c =
    record { works = c.works; mugs = c.mugs; steals = c.steals; successes = c.successes; usage = 0 }

-- what an accepted grant of g does. "Every accepted grant, 0 too, opens a round."
unfoldable pub grant : ℕ → State → State
grant g s =
    record {
      execution =
          record {
            left = s.execution.left;
            deques = first_task_placed s.started (kept_deques g s.execution.deques);
            muggable = s.execution.muggable ++ withdrawn_deques g s.execution.deques;
            counts = with_usage_0 s.execution.counts;
          };
      started = cond (eqb g 0) s.started true;
      wish = s.wish;
      quantum = opened 0;
      begun = suc s.begun;
      note = s.note;
    }

-- ---- Offer, open and withdraw. Request U5: "Split the grant."

-- the state with another note, and else as it was
abbrev pub with_note : Note → State → State
with_note note s =
    record { execution = s.execution; started = s.started; wish = s.wish; quantum = s.quantum; begun = s.begun; note = note }

-- what an accepted offer of g does: it "only notes g"
abbrev pub offer : ℕ → State → State
offer g s = with_note (offered g) s

-- "An open or a withdrawal, which meets no question but these, with no offer noted gets 24"
unfoldable pub withdraw_questions : State → List Question
withdraw_questions s = ask (not (none_noted s.note)) 24 ∷ []

-- what an accepted withdrawal does: it drops the note, and nothing else
abbrev pub withdraw_offer : State → State
withdraw_offer s = with_note no_offer s

-- "Opening it takes a count up to g"
abbrev pub up_to_offer : ℕ → Note → Bool
up_to_offer c no_offer = false
up_to_offer c (offered g) = leb c g

-- the same question, "and an opened count above the offer gets 14"
unfoldable pub open_questions : ℕ → State → List Question
open_questions c s = ask (not (none_noted s.note)) 24 ∷ ask (up_to_offer c s.note) 14 ∷ []

-- what an accepted opening of c does: "opening and withdrawing both drop the note", and it "then does what a grant does"
unfoldable pub open_offer : ℕ → State → State
open_offer c s = grant c (withdraw_offer s)

-- ---- Tick

-- "A tick", 11 and 15 to 17; 17 asks every choice, "read or not"
unfoldable pub tick_questions : List ℕ → State → List Question
tick_questions choices s =
    ask (not (finished s.execution)) 11
    ∷ ask (not (no_quantum_open s.quantum)) 15
    ∷ ask (eqb (length choices) (allotment s)) 16
    ∷ ask (every (λ choice. ltb choice (allotment s)) choices) 17
    ∷ []

-- what one worker does in its cycle
pub data Cycle : Type 0 where
  works_on : ℕ → Cycle  -- a work tick: the front task of its deque
  mugs_deque : List ℕ → Cycle  -- a mug tick: the oldest muggable deque
  steals_from : ℕ → Cycle  -- a steal tick, successful: the worker that is robbed
  steals_nothing : Cycle  -- a steal tick in which nothing moves

-- "If the chosen worker's line has two or more pieces"
abbrev pub steal_cycle : ℕ → List ℕ → Cycle
steal_cycle choice victim = cond (leb 2 (length victim)) (steals_from choice) steals_nothing

-- by the worker's own deque, then the muggable ones, then the chosen worker's deque
abbrev pub decided : List ℕ → List (List ℕ) → ℕ → List ℕ → Cycle
decided (front ∷ rest) muggable choice victim = works_on front
decided [] (oldest ∷ others) choice victim = mugs_deque oldest
decided [] [] choice victim = steal_cycle choice victim

unfoldable pub cycle_of : ℕ → ℕ → Execution → Cycle
cycle_of w choice e = decided (deque_of e w) e.muggable choice (deque_of e choice)

-- "A piece is ready when every piece before it is worked."
unfoldable pub ready : Graph → List Bool → ℕ → Bool
ready graph worked t = every (λ p. get_or worked p false) (predecessors graph t)

-- a work tick takes one tick off its task
abbrev pub one_tick_less : ℕ → List ℕ → List ℕ
one_tick_less t left = set left t (get_or left t 0 - 1)

-- "its followers that became ready", in the order of their fields
unfoldable pub released : Graph → List Bool → ℕ → List ℕ
released graph worked t = keep (ready graph worked) (successors_of graph t)

-- how many tasks a successful steal takes from a deque of n: not "its back piece", as in document 01, but half. Request U1: "A successful
-- steal shall take the back half of the victim's line, rounded down, in its order, and it still needs two pieces there."
unfoldable pub stolen_count : ℕ → ℕ
stolen_count n = n / 2

-- what a steal leaves, and what it takes: the last tasks, "in its order"
unfoldable pub left_by_steal : List ℕ → List ℕ
left_by_steal deque = take (length deque - stolen_count (length deque)) deque

unfoldable pub taken_by_steal : List ℕ → List ℕ
taken_by_steal deque = drop (length deque - stolen_count (length deque)) deque

abbrev pub counted_work : Counts → Counts
counted_work c =
    record {
      works = record { work = suc c.works.work };
      mugs = c.mugs;
      steals = c.steals;
      successes = c.successes;
      usage = suc c.usage;
    }

abbrev pub counted_mug : Counts → Counts
counted_mug c =
    record {
      works = c.works;
      mugs = record { mug = suc c.mugs.mug };
      steals = c.steals;
      successes = c.successes;
      usage = suc c.usage;
    }

-- a steal tick, with 1 success or 0
abbrev pub counted_steal : ℕ → Counts → Counts
counted_steal success c =
    record {
      works = c.works;
      mugs = c.mugs;
      steals = record { steal = suc c.steals.steal };
      successes = success + c.successes;
      usage = c.usage;
    }

-- the deque of a worker that did a work tick at its front task t, where so many ticks are left afterwards: not "The front piece is worked
-- and leaves" at once, as in document 01. Request U9: "A front piece stays until its ticks are done; its followers come after the last
-- one." Then, as in document 01, it leaves, and "Of its followers that became ready, the second goes to the front, then the first before
-- it."
unfoldable pub worked_deque : Graph → List ℕ → ℕ → List ℕ → List ℕ
worked_deque graph left t deque = cond (eqb (get_or left t 0) 0) (released graph (zeros left) t ++ tail deque) deque

unfoldable pub work_cycle : Graph → ℕ → ℕ → Execution → Execution
work_cycle graph w t e =
    record {
      left = one_tick_less t e.left;
      deques = set e.deques w (worked_deque graph (one_tick_less t e.left) t (deque_of e w));
      muggable = e.muggable;
      counts = counted_work e.counts;
    }

-- "The oldest orphan becomes this worker's line, whole."
unfoldable pub mug_cycle : ℕ → List ℕ → Execution → Execution
mug_cycle w oldest e =
    record {
      left = e.left;
      deques = set e.deques w oldest;
      muggable = tail e.muggable;
      counts = counted_mug e.counts;
    }

-- what is taken "becomes the thief's line, a successful steal": one success, however many tasks move
unfoldable pub successful_steal : ℕ → ℕ → Execution → Execution
successful_steal w victim e =
    record {
      left = e.left;
      deques = set (set e.deques victim (left_by_steal (deque_of e victim))) w (taken_by_steal (deque_of e victim));
      muggable = e.muggable;
      counts = counted_steal 1 e.counts;
    }

-- "If not, nothing moves."
unfoldable pub failed_steal : Execution → Execution
failed_steal e =
    record { left = e.left; deques = e.deques; muggable = e.muggable; counts = counted_steal 0 e.counts }

abbrev pub performed : Graph → ℕ → Cycle → Execution → Execution
performed graph w (works_on t) e = work_cycle graph w t e
performed graph w (mugs_deque oldest) e = mug_cycle w oldest e
performed graph w (steals_from victim) e = successful_steal w victim e
performed graph w steals_nothing e = failed_steal e

-- one cycle of worker w
unfoldable pub cycle : Graph → ℕ → ℕ → Execution → Execution
cycle graph w choice e = performed graph w (cycle_of w choice e) e

-- what worker w does in its turn of a tick: its cycle. Of a finished job, not "the tick ends there; later workers take no cycle", as in
-- document 01, but a steal in vain. Request U6: "In the tick that finishes a job, the workers after the one that finished it shall each
-- count an unsuccessful steal."
unfoldable pub turn_of : ℕ → ℕ → Execution → Cycle
turn_of w choice e = cond (finished e) steals_nothing (cycle_of w choice e)

-- one turn of worker w
unfoldable pub turn : Graph → ℕ → ℕ → Execution → Execution
turn graph w choice e = performed graph w (turn_of w choice e) e

-- "Workers act in number order, one cycle each", from worker w on, a choice each
unfoldable pub cycles : Graph → ℕ → List ℕ → Execution → Execution
cycles graph w [] e = e
cycles graph w (choice ∷ choices) e = cycles graph (suc w) choices (turn graph w choice e)

-- the same cycles, as what each worker did
unfoldable pub cycles_made : Graph → ℕ → List ℕ → Execution → List Cycle
cycles_made graph w [] e = []
cycles_made graph w (choice ∷ choices) e = turn_of w choice e ∷ cycles_made graph (suc w) choices (turn graph w choice e)

abbrev pub ticks_of : Quantum → ℕ
ticks_of idle = 0
ticks_of (opened ticks) = ticks

-- the state after the workers' cycles, with the tick counted
unfoldable pub ticked : Plan → List ℕ → State → State
ticked plan choices s =
    record {
      execution = cycles plan.graph 0 choices s.execution;
      started = s.started;
      wish = s.wish;
      quantum = opened (suc (ticks_of s.quantum));
      begun = s.begun;
      note = s.note;
    }

-- ---- Round's end

-- "It is efficient when 100 × u is at least D × L × g"
unfoldable pub efficient : Terms → ℕ → ℕ → Bool
efficient terms usage granted = leb (terms.utilization * terms.quantum_length * granted) (100 * usage)

-- "satisfied when g equals the wanted count"
unfoldable pub satisfied : ℕ → ℕ → Bool
satisfied desire granted = eqb granted desire

-- no desire exceeds this
abbrev pub most_workers : ℕ
most_workers = 64

-- the desire at the power k: R to the power k. Request U14, of form 3: "Wanted is the whole part of R to the power k."
abbrev pub desire_at : Growth → ℕ → ℕ
desire_at (by_factor r) k = r ^ k
desire_at (by_tenths t) k = t ^ k / 10 ^ k

-- the wish at the power k
abbrev pub wish_at : Growth → ℕ → Wish
wish_at growth k = record { power = k; desire = desire_at growth k }

-- "wanted is divided by R". Request U14, of form 3: k "falls by one after an inefficient round"
abbrev pub lowered : Growth → Wish → Wish
lowered (by_factor r) wish = record { power = wish.power - 1; desire = wish.desire / r }
lowered (by_tenths t) wish = wish_at (by_tenths t) (wish.power - 1)

-- "multiplied by R". Request U14, of form 3: k "rises by one after an efficient and satisfied one"
abbrev pub higher : Growth → Wish → Wish
higher (by_factor r) wish = record { power = suc wish.power; desire = wish.desire * r }
higher (by_tenths t) wish = wish_at (by_tenths t) (suc wish.power)

-- "unless that exceeds 64". Request U14: "as long as the result is at most 64"
abbrev pub raised : Growth → Wish → Wish
raised growth wish = cond (leb (higher growth wish).desire most_workers) (higher growth wish) wish

-- the three cases: inefficient; efficient and satisfied; efficient and deprived
unfoldable pub next_wish : Growth → Wish → Bool → Bool → Wish
next_wish growth wish false satisfied = lowered growth wish
next_wish growth wish true true = raised growth wish
next_wish growth wish true false = wish

-- "After L ticks of an unfinished job the round closes."
unfoldable pub closes : Plan → State → Bool
closes plan s = not (finished s.execution) && eqb (ticks_of s.quantum) plan.terms.quantum_length

abbrev pub efficient_now : Plan → State → Bool
efficient_now plan s = efficient plan.terms s.execution.counts.usage (allotment s)

abbrev pub satisfied_now : State → Bool
satisfied_now s = satisfied s.wish.desire (allotment s)

unfoldable pub closed : Plan → State → State
closed plan s =
    record {
      execution = s.execution;
      started = s.started;
      wish = next_wish plan.terms.growth s.wish (efficient_now plan s) (satisfied_now s);
      quantum = idle;
      begun = s.begun;
      note = s.note;
    }

-- what an accepted tick does
unfoldable pub tick : Plan → List ℕ → State → State
tick plan choices s = cond (closes plan (ticked plan choices s)) (closed plan (ticked plan choices s)) (ticked plan choices s)

-- "So it stops at the largest powers of R up to 64, for R = 2 to 7": the table of the six top desires, from R = 2
unfoldable pub top_desires : List ℕ
top_desires = 64 ∷ 27 ∷ 64 ∷ 25 ∷ 36 ∷ 49 ∷ []

-- its entry for a responsiveness of 2 to 7
abbrev pub top_desire : ℕ → ℕ
top_desire responsiveness = get_or top_desires (responsiveness - 2) 0

-- Request U14: "For each of the nine ratios a row of whole parts, up to 23 of them, serves": the rows, from 12 tenths, each up to its last
-- whole part that is at most 64
unfoldable pub whole_parts : List (List ℕ)
whole_parts =
    (1 ∷ 1 ∷ 1 ∷ 1 ∷ 2 ∷ 2 ∷ 2 ∷ 3 ∷ 4 ∷ 5 ∷ 6 ∷ 7 ∷ 8 ∷ 10 ∷ 12 ∷ 15 ∷ 18 ∷ 22 ∷ 26 ∷ 31 ∷ 38 ∷ 46 ∷ 55 ∷ [])
    ∷ (1 ∷ 1 ∷ 1 ∷ 2 ∷ 2 ∷ 3 ∷ 4 ∷ 6 ∷ 8 ∷ 10 ∷ 13 ∷ 17 ∷ 23 ∷ 30 ∷ 39 ∷ 51 ∷ [])
    ∷ (1 ∷ 1 ∷ 1 ∷ 2 ∷ 3 ∷ 5 ∷ 7 ∷ 10 ∷ 14 ∷ 20 ∷ 28 ∷ 40 ∷ 56 ∷ [])
    ∷ (1 ∷ 1 ∷ 2 ∷ 3 ∷ 5 ∷ 7 ∷ 11 ∷ 17 ∷ 25 ∷ 38 ∷ 57 ∷ [])
    ∷ (1 ∷ 1 ∷ 2 ∷ 4 ∷ 6 ∷ 10 ∷ 16 ∷ 26 ∷ 42 ∷ [])
    ∷ (1 ∷ 1 ∷ 2 ∷ 4 ∷ 8 ∷ 14 ∷ 24 ∷ 41 ∷ [])
    ∷ (1 ∷ 1 ∷ 3 ∷ 5 ∷ 10 ∷ 18 ∷ 34 ∷ 61 ∷ [])
    ∷ (1 ∷ 1 ∷ 3 ∷ 6 ∷ 13 ∷ 24 ∷ 47 ∷ [])
    ∷ (1 ∷ 2 ∷ 4 ∷ 8 ∷ 16 ∷ 32 ∷ 64 ∷ [])
    ∷ []

-- the last power of a row of 23
abbrev pub last_power : ℕ
last_power = 22

-- the row of 12 to 20 tenths
abbrev pub row_of : ℕ → List ℕ
row_of tenths = get_or whole_parts (tenths - 12) []

-- ---- a call

-- the calls' arguments: "a grant's count or a tick's choices". Request U5: "Demand 3's list may now hold offers, openings and withdrawals
-- too"
pub data Call : Type 0 where
  grants : ℕ → Call
  ticks : List ℕ → Call
  offers : ℕ → Call
  opens : ℕ → Call
  withdraws : Call

-- "An offer of g meets the grant's questions"
abbrev pub call_questions : Call → State → List Question
call_questions (grants g) s = grant_questions g s
call_questions (ticks choices) s = tick_questions choices s
call_questions (offers g) s = grant_questions g s
call_questions (opens c) s = open_questions c s
call_questions withdraws s = withdraw_questions s

unfoldable pub call_answer : Call → State → Answer
call_answer call s = first_no (call_questions call s)

-- what an accepted call does
abbrev pub moved : Plan → Call → State → State
moved plan (grants g) s = grant g s
moved plan (ticks choices) s = tick plan choices s
moved plan (offers g) s = offer g s
moved plan (opens c) s = open_offer c s
moved plan withdraws s = withdraw_offer s

-- "11 to 17 return the number and the record unchanged". Request U5: "Each of these returns the record unchanged, the note too."
unfoldable pub step : Plan → Call → State → State
step plan call s = by_answer (call_answer call s) (moved plan call s) s

-- ---- Status

-- how many tasks are worked
abbrev pub tasks_worked : State → ℕ
tasks_worked s = count_set (worked s.execution)

-- "Status: 3 finished; else 0 if nothing above 0 was ever granted; else 2, held, if the last granted count is 0; else 1, running."
unfoldable pub status : State → ℕ
status s = cond (finished s.execution) 3 (cond (not s.started) 0 (cond (eqb (allotment s) 0) 2 1))
