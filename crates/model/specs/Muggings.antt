-- Request U8 as a statement: in which order withdrawn deques (orphaned lines) wait and are mugged (picked up). "Among lines orphaned by the
-- same grant, the highest worker number is now taken first. Lines of an earlier grant still come before them. All other cases are as
-- before." It is proved in the crate `laws`.
use Rattle.std.specs.Prelude.{◌≡◌, ℕ, ◌≤◌, ◌<◌, length, get_or}
use mathlib.Core.List.{List, [], ◌∷◌, ◌++◌, map, Memᴰ}
use Rattle.model.specs.Questions.{by_answer}
use Rattle.model.specs.Plan.{Plan}
use Rattle.model.specs.Machine.{Execution, State, deque_of, fresh, withdrawn_deques, cycle, call_answer, step}
use Rattle.model.specs.Machine.{Call, grants, ticks, offers, opens, withdraws}
use Rattle.model.specs.Machine.{Cycle, works_on, mugs_deque, steals_from, steals_nothing}
use Rattle.model.specs.History.{run}

-- some deques are those that a grant of g withdraws, by falling worker number
pub record HighestFirst (g : ℕ) (deques withdrawn : List (List ℕ)) : Type 0 where
  -- whose they are, in their order
  pub workers : List ℕ
  pub theirs : withdrawn ≡ map (λ w. get_or deques w []) workers
  -- each number is below every one before it
  pub falling : (i j : ℕ) → i < j → j < length workers → get_or workers j 0 < get_or workers i 0
  -- they are the workers "g and up" whose deques are not empty, and no others
  pub only : (w : ℕ) → Memᴰ w workers → (g ≤ w) × (1 ≤ length (get_or deques w []))
  pub all : (w : ℕ) → g ≤ w → 1 ≤ length (get_or deques w []) → Memᴰ w workers

-- the deques that an accepted call withdraws
abbrev pub withdrawn_by : Call → State → List (List ℕ)
withdrawn_by (grants g) s = withdrawn_deques g s.execution.deques
withdrawn_by (ticks choices) s = []
withdrawn_by (offers g) s = []
withdrawn_by (opens c) s = withdrawn_deques c s.execution.deques
withdrawn_by withdraws s = []

-- the deques that a list of calls withdraws from a state on, grant by grant, where an opening is a grant of the opened count; a refused
-- call withdraws none
unfoldable pub all_withdrawn : Plan → State → List Call → List (List ℕ)
all_withdrawn plan s [] = []
all_withdrawn plan s (call ∷ calls) =
    by_answer (call_answer call s) (withdrawn_by call s) [] ++ all_withdrawn plan (step plan call s) calls

-- the deques that the cycles mugged, in the order in which they were mugged
unfoldable pub mugged_in : List Cycle → List (List ℕ)
mugged_in [] = []
mugged_in (works_on t ∷ made) = mugged_in made
mugged_in (mugs_deque d ∷ made) = d ∷ mugged_in made
mugged_in (steals_from v ∷ made) = mugged_in made
mugged_in (steals_nothing ∷ made) = mugged_in made

pub record MuggedInTurn (plan : Plan) (calls : List Call) : Type 0 where
  -- of one grant the highest worker's deque is the first
  pub highest_first : (g : ℕ) (deques : List (List ℕ)) → HighestFirst g deques (withdrawn_deques g deques)
  -- what was mugged so far, and then what waits, is what all grants and openings so far withdrew: an earlier grant's deques are mugged
  -- before a later one's, in the order of each grant, and no deque changes while it waits
  pub in_turn : mugged_in (run plan calls).made ++ (run plan calls).state.execution.muggable ≡ all_withdrawn plan (fresh plan) calls
  -- a mug cycle, in every execution: "The oldest orphan becomes this worker's line, whole", and the others wait on
  pub oldest_whole : (e : Execution) (w choice : ℕ) → w < length e.deques → deque_of e w ≡ [] → 1 ≤ length e.muggable →
      let after = cycle plan.graph w choice e in
      deque_of after w ∷ after.muggable ≡ e.muggable
