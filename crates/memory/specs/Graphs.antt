-- The plan's graph and its tasks' ticks, as three parts of the memory show them.
use Rattle.std.specs.Prelude.{cond, List, [], ◌∷◌, map, ℕ, eqb, get_or}
use Rattle.model.specs.Tests.{below}
use Rattle.model.specs.Plan.{Graph}
use Rattle.memory.specs.Parts.{Parts, ticks_at}

-- the successors that two fields show; 0 is an unused field, since no successor is task 0
unfoldable pub shown : ℕ → ℕ → List ℕ
shown first second = cond (eqb first 0) [] (cond (eqb second 0) (first ∷ []) (first ∷ second ∷ []))

-- the successors of the task t
unfoldable pub successors_at : List ℕ → List ℕ → ℕ → List ℕ
successors_at first second t = shown (get_or first t 0) (get_or second t 0)

-- those of each task below n
unfoldable pub successors_view : List ℕ → List ℕ → ℕ → List (List ℕ)
successors_view first second n = map (successors_at first second) (below n)

-- the graph that the parts show
abbrev pub graph : Parts → ℕ → Graph
graph p n = record { successors = successors_view p.first p.second n }

-- the ticks of each task below n
unfoldable pub durations_view : List ℕ → ℕ → List ℕ
durations_view spans n = map (ticks_at spans) (below n)
