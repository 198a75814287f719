-- Request U12 as a statement: how many lines can there be? "Prove that after every call, and after every worker's cycle inside a tick,
-- non-empty lines and orphans together number at most the largest count granted so far. So 64 always suffices. Include the half-line steals
-- and the pieces that last." It is proved in the crate `laws`, for plans of every form.
use Rattle.std.specs.Prelude.{◌≡◌, true, false, cond, ℕ, suc, ◌+◌, ◌≤◌, ◌<◌, max, length, get_or}
use mathlib.Core.List.{List, [], ◌∷◌, ◌++◌, flat_map, Memᴰ}
use Rattle.model.specs.Tests.{is_empty, occurrences}
use Rattle.model.specs.Questions.{accepted}
use Rattle.model.specs.Plan.{Plan, Graph, tasks}
use Rattle.model.specs.Machine.{Execution, State, allotment, deque_of, fresh, grant, cycle, turn, call_answer, step, most_workers}
use Rattle.model.specs.Machine.{Call, grants, ticks, offers, opens, withdraws}
use Rattle.model.specs.Machine.{Cycle, works_on, mugs_deque, steals_from, steals_nothing, cycle_of}
use Rattle.model.specs.History.{ClosedQuantum, CurrentQuantum, none, begun_with, History, run}
use Rattle.model.specs.WholeTicks.{accepted_calls, after_workers}

-- ---- what stands in deques

-- how many deques are not empty
unfoldable pub busy : List (List ℕ) → ℕ
busy [] = 0
busy (d ∷ ds) = cond (is_empty d) 0 1 + busy ds

-- "non-empty lines and orphans together"
abbrev pub deques_in_use : Execution → ℕ
deques_in_use e = busy e.deques + length e.muggable

-- the tasks in them, deque by deque
abbrev pub tasks_standing : Execution → List ℕ
tasks_standing e = flat_map (λ d. d) (e.deques ++ e.muggable)

-- what is to be held of them: tasks of the plan, each at most once, and so at most N
pub record TasksHeld (graph : Graph) (e : Execution) : Type 0 where
  pub of_plan : (t : ℕ) → Memᴰ t (tasks_standing e) → t < tasks graph
  pub once : (t : ℕ) → occurrences t (tasks_standing e) ≤ 1
  pub at_most : length (tasks_standing e) ≤ tasks graph

-- ---- the largest count granted so far

-- the present grant: the count with which the quantum (round) began that is not closed
abbrev pub granted_in : CurrentQuantum → ℕ
granted_in none = 0
granted_in (begun_with wish granted) = granted

unfoldable pub largest_closed : List ClosedQuantum → ℕ
largest_closed [] = 0
largest_closed (q ∷ quanta) = max q.granted (largest_closed quanta)

-- read from the history: of all quanta that have begun, each of which an accepted grant or opening began, the largest granted count
unfoldable pub largest_granted : History → ℕ
largest_granted h = max (largest_closed h.closed_quanta) (granted_in h.current)

-- read from the calls: of some accepted calls, the largest count of a grant or an opening. An offer grants nothing (request U5)
unfoldable pub largest_count : List Call → ℕ
largest_count [] = 0
largest_count (grants g ∷ calls) = max g (largest_count calls)
largest_count (ticks choices ∷ calls) = largest_count calls
largest_count (offers g ∷ calls) = largest_count calls
largest_count (opens c ∷ calls) = max c (largest_count calls)
largest_count (withdraws ∷ calls) = largest_count calls

-- ---- inside a tick

-- `after_workers` gives the executions between two workers' cycles of an accepted tick: the first is the state's, each later one is that
-- after the next worker's turn, and the last is what the tick leaves
pub record TurnByTurn (plan : Plan) (s : State) (choices : List ℕ) : Type 0 where
  pub before_all : after_workers plan s choices 0 ≡ s.execution
  pub one_more : (w : ℕ) → w < allotment s →
      after_workers plan s choices (suc w) ≡ turn plan.graph w (get_or choices w 0) (after_workers plan s choices w)
  pub after_all : after_workers plan s choices (allotment s) ≡ (step plan (ticks choices) s).execution

-- ---- what each move makes of the number

-- The limit alone would not tell a steal that takes the whole line, after which there are no more lines than before. So, exactly, what a
-- worker's cycle makes of the number:
abbrev pub LinesAfter : (before : Execution) (w : ℕ) → Cycle → (after : Execution) → Type 0
-- a work tick: one fewer where it leaves its worker's deque empty, and else as many
LinesAfter before w (works_on t) after = deques_in_use after + cond (is_empty (deque_of after w)) 1 0 ≡ deques_in_use before
-- a mug tick: as many, since an orphan becomes a line; an empty one, which never waits, would be one fewer
LinesAfter before w (mugs_deque d) after = deques_in_use after + cond (is_empty d) 1 0 ≡ deques_in_use before
-- a successful steal: one more, the thief's
LinesAfter before w (steals_from victim) after = deques_in_use after ≡ suc (deques_in_use before)
-- a steal in vain: as many
LinesAfter before w steals_nothing after = deques_in_use after ≡ deques_in_use before

pub record LinesMove (graph : Graph) : Type 0 where
  -- of every execution, and so also of those between two workers' cycles
  pub by_cycle : (e : Execution) (w choice : ℕ) → w < length e.deques →
      LinesAfter e w (cycle_of w choice e) (cycle graph w choice e)
  -- a grant: as many, since a withdrawn line becomes an orphan, and a new one is empty
  pub by_grant : (g : ℕ) (s : State) → s.started ≡ true → deques_in_use (grant g s).execution ≡ deques_in_use s.execution
  -- .. of 0, before the first one above 0 too
  pub by_grant_of_0 : (s : State) → deques_in_use (grant 0 s).execution ≡ deques_in_use s.execution
  -- the first one above 0, before which there is no worker: one more, that of piece 0
  pub by_first_grant : (g : ℕ) (s : State) → s.started ≡ false → s.execution.deques ≡ [] → 1 ≤ g →
      deques_in_use (grant g s).execution ≡ suc (deques_in_use s.execution)

-- ---- a list of calls

pub record LinesBounded (plan : Plan) (calls : List Call) : Type 0 where
  -- "after every call"
  pub after_calls : deques_in_use (run plan calls).state.execution ≤ largest_granted (run plan calls)
  -- "and after every worker's cycle inside a tick": after the turns of its first w workers
  pub after_cycles : (choices : List ℕ) → call_answer (ticks choices) (run plan calls).state ≡ accepted → (w : ℕ) →
      deques_in_use (after_workers plan (run plan calls).state choices w) ≤ largest_granted (run plan calls)
  pub turn_by_turn : (choices : List ℕ) → call_answer (ticks choices) (run plan calls).state ≡ accepted →
      TurnByTurn plan (run plan calls).state choices
  -- "the largest count granted so far": that of the accepted grants and openings, the present one included
  pub as_called : largest_granted (run plan calls) ≡ largest_count (accepted_calls plan (fresh plan) calls)
  pub present_included : allotment (run plan calls).state ≤ largest_granted (run plan calls)
  -- "So 64 always suffices."
  pub at_most_64 : largest_granted (run plan calls) ≤ most_workers
  -- and what stands in these deques
  pub tasks_after_calls : TasksHeld plan.graph (run plan calls).state.execution
  pub tasks_after_cycles : (choices : List ℕ) → call_answer (ticks choices) (run plan calls).state ≡ accepted → (w : ℕ) →
      TasksHeld plan.graph (after_workers plan (run plan calls).state choices w)
  -- how each move changes the number
  pub moves : LinesMove plan.graph
