-- What holds of every state that a history reaches, whatever the calls: where its tasks stand, and how large each count can be.
use Rattle.std.specs.Prelude.{◌≡◌, refl, true, false, [], ℕ, ◌+◌, ◌*◌, ◌≤◌, ◌<◌}
use Rattle.model.specs.Plan.{Plan, most_tasks, longest_quantum, longest_duration}
use Rattle.model.specs.Machine.{Execution, State, allotment, opened, finished, quantum_limit, most_workers}
use Rattle.model.specs.WholeTicks.{all_counted}
use Rattle.laws.specs.Invariants.{Placed, Tallied}

-- before a count above 0 is granted nothing stands anywhere, and no tick is done
pub record Unstarted (plan : Plan) (e : Execution) : Type 0 where
  pub none_begun : e.left ≡ plan.durations
  pub no_deques : e.deques ≡ []
  pub no_muggable : e.muggable ≡ []

pub record Arranged (plan : Plan) (s : State) : Type 0 where
  pub before : s.started ≡ false → Unstarted plan s.execution
  pub after : s.started ≡ true → Placed plan.graph s.execution
  pub tally : Tallied plan.durations s.execution

-- ---- how large the counts can be

-- an open quantum that has had so many ticks
pub record OpenQuantum (plan : Plan) (s : State) (ticks : ℕ) : Type 0 where
  pub within : ticks ≤ plan.terms.quantum_length
  pub unclosed : finished s.execution ≡ false → ticks < plan.terms.quantum_length
  pub granted : allotment s ≤ s.wish.desire
  pub usage_so_far : s.execution.counts.usage ≤ most_workers * ticks
  -- the ticks that it has not had leave room
  pub room : all_counted s.execution.counts + most_workers * plan.terms.quantum_length
      ≤ most_workers * (plan.terms.quantum_length * s.begun) + most_workers * ticks

pub record Measured (plan : Plan) (s : State) : Type 0 where
  pub wanted : s.wish.desire ≤ most_workers
  pub quanta : s.begun ≤ quantum_limit
  pub current : (ticks : ℕ) → s.quantum ≡ opened ticks → OpenQuantum plan s ticks
  pub usage_at_most : s.execution.counts.usage ≤ most_workers * plan.terms.quantum_length
  pub cycles_at_most : all_counted s.execution.counts ≤ most_workers * (plan.terms.quantum_length * s.begun)
  pub successful : s.execution.counts.successes ≤ s.execution.counts.steals.steal

-- every worker that a job can want, in every tick of every quantum that it can begin
abbrev pub most_cycles : ℕ
most_cycles = most_workers * (longest_quantum * quantum_limit)

pub most_cycles_are : most_cycles ≡ 17179607040
most_cycles_are = refl

-- every tick of every task that a plan can have
abbrev pub most_work : ℕ
most_work = longest_duration * most_tasks

pub most_work_is : most_work ≡ 261120
most_work_is = refl

-- in numbers, for a plan whose fields have the widths of document 01: no count comes near 2^64
pub record CountsFit (s : State) : Type 0 where
  pub work : s.execution.counts.works.work ≤ most_work
  pub usage : s.execution.counts.usage ≤ most_workers * longest_quantum
  pub all_cycles : all_counted s.execution.counts ≤ most_cycles
  pub successes : s.execution.counts.successes ≤ most_cycles
  pub begun : s.begun ≤ quantum_limit
