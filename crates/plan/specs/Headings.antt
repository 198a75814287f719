-- The plan that a heading and the parts of a memory show.
use Rattle.std.specs.Prelude.{◌≡◌, List, ℕ, ◌≤◌, length, get_or}
use Rattle.model.specs.Plan.{Plan}
use Rattle.growth.specs.Meaning.{growth_of}
use Rattle.memory.specs.Parts.{Parts}
use Rattle.memory.specs.Graphs.{graph, durations_view}
use Rattle.plan.specs.declared.Heading.{Heading}

unfoldable pub plan_view : Heading → Parts → Plan
plan_view r p =
    record {
      terms =
          record {
            growth = growth_of r.growth;
            utilization = r.utilization;
            quantum_length = r.quantum_length;
          };
      graph = graph p r.tasks;
      durations = durations_view p.spans r.tasks;
    }

-- a part of 1024 places with 0 at n and past it
pub record Ends (n : ℕ) (xs : List ℕ) : Type 0 where
  pub places : length xs ≡ 1024
  pub nothing_past : (t : ℕ) → n ≤ t → get_or xs t 0 ≡ 0
