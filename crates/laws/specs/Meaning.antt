-- What the counts mean: each is the number of the cycles of its kind among the cycles that the workers made.
use Rattle.std.specs.Prelude.{◌≡◌, List, [], ◌∷◌, ◌++◌, ℕ, ◌+◌}
use Rattle.model.specs.Questions.{accepted}
use Rattle.model.specs.Plan.{Plan}
use Rattle.model.specs.Machine.{Counts, Cycle, works_on, mugs_deque, steals_from, steals_nothing, cycles_made}
use Rattle.model.specs.Machine.{grants, ticks, opens, call_answer}
use Rattle.model.specs.History.{History, history_step}

-- a cycle counts 1 where it is of the kind, and else 0
abbrev pub is_work : Cycle → ℕ
is_work (works_on t) = 1
is_work (mugs_deque d) = 0
is_work (steals_from v) = 0
is_work steals_nothing = 0

abbrev pub is_mug : Cycle → ℕ
is_mug (works_on t) = 0
is_mug (mugs_deque d) = 1
is_mug (steals_from v) = 0
is_mug steals_nothing = 0

-- successful or not
abbrev pub is_steal : Cycle → ℕ
is_steal (works_on t) = 0
is_steal (mugs_deque d) = 0
is_steal (steals_from v) = 1
is_steal steals_nothing = 1

abbrev pub is_success : Cycle → ℕ
is_success (works_on t) = 0
is_success (mugs_deque d) = 0
is_success (steals_from v) = 1
is_success steals_nothing = 0

-- how many of the cycles are of a kind
unfoldable pub count_of : (Cycle → ℕ) → List Cycle → ℕ
count_of kind [] = 0
count_of kind (c ∷ made) = kind c + count_of kind made

abbrev pub works_in : List Cycle → ℕ
works_in made = count_of is_work made

abbrev pub mugs_in : List Cycle → ℕ
mugs_in made = count_of is_mug made

abbrev pub steals_in : List Cycle → ℕ
steals_in made = count_of is_steal made

abbrev pub successes_in : List Cycle → ℕ
successes_in made = count_of is_success made

-- the counts after some cycles, from those before
pub record Counted (made : List Cycle) (before after : Counts) : Type 0 where
  pub work : after.works.work ≡ before.works.work + works_in made
  pub mug : after.mugs.mug ≡ before.mugs.mug + mugs_in made
  pub steal : after.steals.steal ≡ before.steals.steal + steals_in made
  pub success : after.successes ≡ before.successes + successes_in made
  pub nonsteal_usage : after.usage ≡ before.usage + (works_in made + mugs_in made)

-- the counts of a history are those of all cycles made in it
pub record CountsMean (h : History) : Type 0 where
  pub work : h.state.execution.counts.works.work ≡ works_in h.made
  pub mug : h.state.execution.counts.mugs.mug ≡ mugs_in h.made
  pub steal : h.state.execution.counts.steals.steal ≡ steals_in h.made
  pub success : h.state.execution.counts.successes ≡ successes_in h.made

-- the nonsteal usage is that of the quantum last opened: 0 after an accepted grant or opening, and after an accepted tick more by the
-- tick's work and mug cycles, which are the cycles that the tick adds to those made
pub record UsageMeans (plan : Plan) (h : History) : Type 0 where
  pub granted_at_0 : (g : ℕ) → call_answer (grants g) h.state ≡ accepted →
      (history_step plan (grants g) h).state.execution.counts.usage ≡ 0
  pub opened_at_0 : (c : ℕ) → call_answer (opens c) h.state ≡ accepted →
      (history_step plan (opens c) h).state.execution.counts.usage ≡ 0
  pub grows : (choices : List ℕ) → call_answer (ticks choices) h.state ≡ accepted →
      let more = cycles_made plan.graph 0 choices h.state.execution in
      ((history_step plan (ticks choices) h).state.execution.counts.usage
      ≡ h.state.execution.counts.usage + (works_in more + mugs_in more))
      × ((history_step plan (ticks choices) h).made ≡ h.made ++ more)
