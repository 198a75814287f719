-- What every worker's cycle keeps: where the tasks stand, and how many deques there are.
use Rattle.std.specs.Prelude.{◌≡◌, Bool, true, false, cond, not, ◌&&◌, List, [], ◌∷◌, ℕ, ◌+◌, ◌≤◌, ltb, length, get_or}
use Rattle.model.specs.Tests.{every, is_empty, occurrences, total}
use Rattle.model.specs.Plan.{Graph, tasks}
use Rattle.model.specs.Machine.{Execution, worked, ready}
use Rattle.model.specs.Lines.{deques_in_use}

-- how often the task t stands in some deques
unfoldable pub in_deques : ℕ → List (List ℕ) → ℕ
in_deques t [] = 0
in_deques t (d ∷ ds) = occurrences t d + in_deques t ds

-- the task is one of the plan, ready and not worked
unfoldable pub waiting_work : Graph → List Bool → ℕ → Bool
waiting_work graph worked t = ltb t (tasks graph) && (ready graph worked t && not (get_or worked t false))

-- "the tasks in deques and muggable deques are exactly the ready unworked ones, each once; a muggable deque is never empty"
pub record Placed (graph : Graph) (e : Execution) : Type 0 where
  pub each_left : length e.left ≡ tasks graph
  pub once : (t : ℕ) → in_deques t e.deques + in_deques t e.muggable ≡ cond (waiting_work graph (worked e) t) 1 0
  pub filled : every (λ d. not (is_empty d)) e.muggable ≡ true
  -- a worked task's predecessors are worked: without it a task that is released might be worked already
  pub ordered : (t : ℕ) → get_or (worked e) t false ≡ true → ready graph (worked e) t ≡ true

-- there are at most so many workers, and the non-empty deques and the muggable ones together number at most as many
pub record Bounded (most : ℕ) (e : Execution) : Type 0 where
  pub workers : length e.deques ≤ most
  pub lines : deques_in_use e ≤ most

-- work counts the ticks done: with those that are left they are all ticks of the tasks
pub record Tallied (durations : List ℕ) (e : Execution) : Type 0 where
  pub work_is_ticks : e.counts.works.work + total e.left ≡ total durations
