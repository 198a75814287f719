-- When the parts and numbers of a job are sound: they show an execution that obeys the laws of executions, and what the code keeps beside
-- it is right.
use Rattle.std.specs.Prelude.{◌≡◌, Bool, List, ℕ, ◌≤◌, ◌<◌, length, get_or}
use Rattle.model.specs.Tests.{count_set, zeros}
use Rattle.model.specs.Plan.{Graph}
use Rattle.model.specs.Machine.{Execution}
use Rattle.model.specs.Statements.{SoundGraph}
use Rattle.laws.specs.Awaited.{still_awaited}
use Rattle.laws.specs.Invariants.{Placed}
use Rattle.memory.specs.Parts.{Parts}
use Rattle.memory.specs.Words.{Numbers}
use Rattle.memory.specs.Graphs.{graph}
use Rattle.memory.specs.View.{view, left_view}

-- the parts' lengths
pub record Sizes (p : Parts) : Type 0 where
  pub firsts : length p.first ≡ 1024
  pub seconds : length p.second ≡ 1024
  pub links : length p.next ≡ 1024
  pub numbers : length p.pending ≡ 1024
  pub places : length p.ends ≡ 256
  pub ticks : length p.spans ≡ 1024

-- what the laws of executions tell, with at most 64 workers
pub record Lawful (graph : Graph) (e : Execution) : Type 0 where
  pub placed : Placed graph e
  pub few_workers : length e.deques ≤ 64

-- how many predecessors of a task are not worked
unfoldable pub awaited : Graph → List Bool → ℕ → ℕ
awaited graph worked t = still_awaited graph worked t

-- the worked tasks: none of their ticks is left
abbrev pub worked_in : Parts → Numbers → List Bool
worked_in p m = zeros (left_view p.spans m.tasks)

-- what the code keeps beside the execution
pub record Kept (graph : Graph) (p : Parts) (m : Numbers) : Type 0 where
  pub pending_right : (t : ℕ) → t < m.tasks → get_or p.pending t 0 ≡ awaited graph (worked_in p m) t
  pub done_right : m.done ≡ count_set (worked_in p m)
  pub head_in_ring : m.head < 64

pub record Sound (p : Parts) (m : Numbers) : Type 0 where
  pub sizes : Sizes p
  pub few_tasks : m.tasks ≤ 1024
  pub planned : SoundGraph (graph p m.tasks)
  pub lawful : Lawful (graph p m.tasks) (view p m)
  pub kept : Kept (graph p m.tasks) p m
