-- Document 01, "History": made from the plan and the calls' arguments alone, it reads nothing from a record.
use Rattle.std.specs.Prelude.{Bool, cond, List, [], ◌∷◌, ◌++◌, ℕ}
use Rattle.model.specs.Tests.{occurrences}
use Rattle.model.specs.Questions.{by_answer}
use Rattle.model.specs.Plan.{Plan}
use Rattle.model.specs.Machine.{Wish, State, fresh, grant, offer, withdraw_offer, tick, ticked, closes, efficient}
use Rattle.model.specs.Machine.{satisfied}
use Rattle.model.specs.Machine.{Cycle, works_on, mugs_deque, steals_from, steals_nothing, cycles_made}
use Rattle.model.specs.Machine.{Call, grants, ticks, offers, opens, withdraws, call_answer}

-- a closed quantum (round): its wanted and granted counts, "and, once closed, efficient or not and satisfied or not". Request U14: "of each
-- of their rounds the history keeps k too"
pub record ClosedQuantum : Type 0 where
  pub power : ℕ  -- k
  pub wanted : ℕ
  pub granted : ℕ
  pub was_efficient : Bool
  pub was_satisfied : Bool

-- the quantum that is not closed: none, or what was wanted, k and the count, and granted. The one in which a job finishes never closes.
pub data CurrentQuantum : Type 0 where
  none : CurrentQuantum
  begun_with : Wish → ℕ → CurrentQuantum

-- the job's state, and what only the past knows
pub record History : Type 0 where
  pub state : State
  pub closed_quanta : List ClosedQuantum  -- in the order in which they began
  pub current : CurrentQuantum
  pub made : List Cycle  -- every worker's cycle so far, in order

-- "It starts with no piece worked, no line, no orphan, no round, wanted 1, granted 0 and all other counts 0."
unfoldable pub beginning : Plan → History
beginning plan = record { state = fresh plan; closed_quanta = []; current = none; made = [] }

unfoldable pub history_grant : ℕ → History → History
history_grant g h =
    record {
      state = grant g h.state;
      closed_quanta = h.closed_quanta;
      current = begun_with h.state.wish g;
      made = h.made;
    }

-- the verdict on the quantum that a tick closes, from the wanted and granted counts with which it began and its usage
abbrev pub verdict : Plan → CurrentQuantum → ℕ → List ClosedQuantum
verdict plan none usage = []
verdict plan (begun_with wish granted) usage =
    record {
      power = wish.power;
      wanted = wish.desire;
      granted = granted;
      was_efficient = efficient plan.terms usage granted;
      was_satisfied = satisfied wish.desire granted;
    }
    ∷ []

unfoldable pub history_tick : Plan → List ℕ → History → History
history_tick plan choices h =
    let after = ticked plan choices h.state in
    let judged = verdict plan h.current after.execution.counts.usage in
    record {
      state = tick plan choices h.state;
      closed_quanta = cond (closes plan after) (h.closed_quanta ++ judged) h.closed_quanta;
      current = cond (closes plan after) none h.current;
      made = h.made ++ cycles_made plan.graph 0 choices h.state.execution;
    }

-- Request U5: "the history keeps the note": an offer and a withdrawal move that alone
abbrev pub history_offer : ℕ → History → History
history_offer g h = record { state = offer g h.state; closed_quanta = h.closed_quanta; current = h.current; made = h.made }

abbrev pub history_withdraw : History → History
history_withdraw h = record { state = withdraw_offer h.state; closed_quanta = h.closed_quanta; current = h.current; made = h.made }

-- "an opening moves it as a grant of the opened count", and the note is dropped
unfoldable pub history_open : ℕ → History → History
history_open c h = history_grant c (history_withdraw h)

-- "A call moves it by Grant, Tick and Round's end", and request U5's calls
abbrev pub history_moved : Plan → Call → History → History
history_moved plan (grants g) h = history_grant g h
history_moved plan (ticks choices) h = history_tick plan choices h
history_moved plan (offers g) h = history_offer g h
history_moved plan (opens c) h = history_open c h
history_moved plan withdraws h = history_withdraw h

-- "one that a question turns down, asked of the history, leaves it as it was"
unfoldable pub history_step : Plan → Call → History → History
history_step plan call h = by_answer (call_answer call h.state) (history_moved plan call h) h

unfoldable pub run_from : Plan → History → List Call → History
run_from plan h [] = h
run_from plan h (call ∷ calls) = run_from plan (history_step plan call h) calls

-- the history of a list of calls
unfoldable pub run : Plan → List Call → History
run plan calls = run_from plan (beginning plan) calls

-- W and M, "the history's work and mug counts"
abbrev pub work_count : History → ℕ
work_count h = h.state.execution.counts.works.work

abbrev pub mug_count : History → ℕ
mug_count h = h.state.execution.counts.mugs.mug

-- the tasks of the work ticks among the cycles, in their order: a task stands there once for each of its ticks that is done
unfoldable pub tasks_in : List Cycle → List ℕ
tasks_in [] = []
tasks_in (works_on t ∷ made) = t ∷ tasks_in made
tasks_in (mugs_deque d ∷ made) = tasks_in made
tasks_in (steals_from v ∷ made) = tasks_in made
tasks_in (steals_nothing ∷ made) = tasks_in made

abbrev pub work_order : History → List ℕ
work_order h = tasks_in h.made

-- how many ticks of the task t are done
abbrev pub ticks_done : History → ℕ → ℕ
ticks_done h t = occurrences t (work_order h)
