-- How many predecessors a task still awaits: what code can keep instead of asking every predecessor.
use Rattle.std.specs.Prelude.{Bool, true, false, not, List, ℕ, length, get_or, set}
use Rattle.model.specs.Tests.{keep}
use Rattle.model.specs.Plan.{Graph, predecessors}

-- the predecessors of the task t that are not worked
abbrev pub still_awaited : Graph → List Bool → ℕ → ℕ
still_awaited graph worked t = length (keep (λ p. not (get_or worked p false)) (predecessors graph t))

-- the flags of the worked tasks after a work tick that completed t
abbrev pub completed : ℕ → List Bool → List Bool
completed t worked = set worked t true
