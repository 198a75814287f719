-- Request U9 as statements: pieces that last. "A front piece stays until its ticks are done; its followers come after the last one. When
-- its worker is withdrawn, or its line is picked up, the ticks done so far are kept. Only a front piece may be begun. .. W counts work
-- ticks". They are proved in the crate `laws`.
use Rattle.std.specs.Prelude.{◌≡◌, ◌⊎◌, ℕ, ◌+◌, ◌≤◌, ◌<◌, get_or}
use mathlib.Core.List.{List, ◌∷◌, map, Memᴰ}
use Rattle.model.specs.Tests.{below, total}
use Rattle.model.specs.Questions.{accepted}
use Rattle.model.specs.Plan.{Plan, tasks, duration_of}
use Rattle.model.specs.Machine.{Execution, ticks, call_answer, tasks_worked}
use Rattle.model.specs.History.{History, work_count, ticks_done}
use Rattle.model.specs.WholeTicks.{after_workers}

-- ---- the ticks done

pub record TicksAreWork (plan : Plan) (h : History) : Type 0 where
  -- of each task: no more ticks are done than it has, and the others are left, whatever was withdrawn, picked up or stolen in between
  pub at_most : (t : ℕ) → ticks_done h t ≤ duration_of plan t
  pub others_left : (t : ℕ) → ticks_done h t + get_or h.state.execution.left t 0 ≡ duration_of plan t
  -- "W counts work ticks": it is the sum over the tasks of the ticks done
  pub work_is_ticks : work_count h ≡ total (map (ticks_done h) (below (tasks plan.graph)))

-- where each task lasts one tick, as in form 1, W is the number of tasks worked, as it was before the request
abbrev pub WorkIsTasks : Plan → History → Type 0
WorkIsTasks plan h = ((t : ℕ) → duration_of plan t ≤ 1) → work_count h ≡ tasks_worked h.state

-- ---- only a front piece may be begun

-- some of the ticks of the task t are done, but not all
pub record Begun (plan : Plan) (e : Execution) (t : ℕ) : Type 0 where
  pub some_done : get_or e.left t 0 < duration_of plan t
  pub some_left : 1 ≤ get_or e.left t 0

-- t is the front task of one of the deques
abbrev pub FrontIn : ℕ → List (List ℕ) → Type 0
FrontIn t deques = (rest : List ℕ) × Memᴰ (t ∷ rest) deques

-- a begun task stands at the front of a worker's deque or of a muggable one
abbrev pub FrontsBegun : Plan → Execution → Type 0
FrontsBegun plan e = (t : ℕ) → Begun plan e t → FrontIn t e.deques ⊎ FrontIn t e.muggable

-- "Only a front piece may be begun": after the calls, and inside a tick after each worker's cycle
pub record OnlyFrontsBegun (plan : Plan) (h : History) : Type 0 where
  pub after_calls : FrontsBegun plan h.state.execution
  pub after_cycles : (choices : List ℕ) → call_answer (ticks choices) h.state ≡ accepted → (w : ℕ) →
      FrontsBegun plan (after_workers plan h.state choices w)
