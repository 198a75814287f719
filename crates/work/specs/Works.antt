-- What a work cycle asks and promises: what the memory shows afterwards is what the model's step makes of what it showed before.
use Rattle.std.specs.Prelude.{◌≡◌, ℕ, ◌-◌, ◌≤◌, ◌<◌, get_or, set}
use Rattle.model.specs.Machine.{work_cycle}
use Rattle.memory.specs.Parts.{Parts, with_spans, left_at, SamePlan}
use Rattle.memory.specs.Words.{Numbers}
use Rattle.memory.specs.Graphs.{graph}
use Rattle.memory.specs.View.{front_at, size_at, view}
use Rattle.memory.specs.Sound.{Sizes, Kept, Sound}
use Rattle.memory.specs.Cycles.{after_work}

-- sound parts and numbers, and a worker of them
pub record WorkerTurn (p : Parts) (m : Numbers) (w : ℕ) : Type 0 where
  pub sound : Sound p m
  pub worker : w < m.workers

-- a worker whose deque is not empty
pub record WorkTurn (p : Parts) (m : Numbers) (w : ℕ) : Type 0 where
  pub turn : WorkerTurn p m w
  pub filled : 1 ≤ get_or p.ends (size_at w) 0

-- the front task of the deque at a place
abbrev pub front_task : Parts → ℕ → ℕ
front_task p place = get_or p.ends (front_at place) 0

-- with one work cycle more, which completed so many tasks, 1 or 0, the parts show the model's work cycle
pub record Worked (p : Parts) (m : Numbers) (w : ℕ) (p' : Parts) (completed : ℕ) : Type 0 where
  pub one_at_most : completed ≤ 1
  pub sizes : Sizes p'
  pub kept : Kept (graph p m.tasks) p' (after_work completed m)
  pub shows : view p' (after_work completed m) ≡ work_cycle (graph p m.tasks) w (front_task p w) (view p m)
  pub same_plan : SamePlan p p'

-- the parts with one tick less of a task
abbrev pub one_tick_off : Parts → ℕ → Parts
one_tick_off p task = with_spans p (set p.spans task (get_or p.spans task 0 - 1))

-- the parts q have one tick less of the front task than p, where it was its last one; its deque has so many tasks
pub record LastTick (p : Parts) (m : Numbers) (w task size : ℕ) (q : Parts) : Type 0 where
  pub turn : WorkTurn p m w
  pub in_front : task ≡ front_task p w
  pub its_size : size ≡ get_or p.ends (size_at w) 0
  pub last : left_at p.spans task ≡ 1
  pub ticked : q ≡ one_tick_off p task
