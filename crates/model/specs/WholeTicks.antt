-- Request U6 as a statement: the last tick counts in full. "In the tick that finishes a job, the workers after the one that finished it
-- shall each count an unsuccessful steal. Then work, mug and steal ticks add up to the sum of the granted counts over all accepted ticks, a
-- sum read from the history of calls." It is proved in the crate `laws`.
use Rattle.std.specs.Prelude.{◌≡◌, true, false, List, [], ◌∷◌, ◌++◌, ℕ, suc, ◌+◌, ◌-◌, ◌≤◌, ◌<◌, length, get_or, take}
use Rattle.model.specs.Questions.{accepted, by_answer}
use Rattle.model.specs.Plan.{Plan}
use Rattle.model.specs.Machine.{Counts, Execution, State, allotment, finished, fresh, cycle, cycles, call_answer, step}
use Rattle.model.specs.Machine.{Call, grants, ticks, offers, opens, withdraws}
use Rattle.model.specs.History.{run}

-- ---- the sum of the granted counts

-- the calls of a list that are accepted, from a state on
unfoldable pub accepted_calls : Plan → State → List Call → List Call
accepted_calls plan s [] = []
accepted_calls plan s (call ∷ calls) =
    by_answer (call_answer call s) (call ∷ []) [] ++ accepted_calls plan (step plan call s) calls

-- of accepted calls, the sum over the ticks of the count granted at each: that of the last grant or opening, and before the first so many.
-- Request U5: an opening is a grant of the opened count; an offer and a withdrawal grant nothing
unfoldable pub granted_ticks : ℕ → List Call → ℕ
granted_ticks granted [] = 0
granted_ticks granted (grants g ∷ calls) = granted_ticks g calls
granted_ticks granted (ticks choices ∷ calls) = granted + granted_ticks granted calls
granted_ticks granted (offers g ∷ calls) = granted_ticks granted calls
granted_ticks granted (opens c ∷ calls) = granted_ticks c calls
granted_ticks granted (withdraws ∷ calls) = granted_ticks granted calls

-- "the sum of the granted counts over all accepted ticks": of a fresh job 0 are granted
abbrev pub worker_ticks : Plan → List Call → ℕ
worker_ticks plan calls = granted_ticks 0 (accepted_calls plan (fresh plan) calls)

-- work, mug and steal ticks
abbrev pub all_counted : Counts → ℕ
all_counted c = c.works.work + c.mugs.mug + c.steals.steal

-- ---- the tick that finishes a job

-- the execution after the turns of the first w workers of a tick
abbrev pub after_workers : Plan → State → List ℕ → ℕ → Execution
after_workers plan s choices w = cycles plan.graph 0 (take w choices) s.execution

-- so many unsuccessful steals more, and nothing else
abbrev pub with_vain_steals : ℕ → Execution → Execution
with_vain_steals n e =
    record {
      left = e.left;
      deques = e.deques;
      muggable = e.muggable;
      counts =
          record {
            works = e.counts.works;
            mugs = e.counts.mugs;
            steals = record { steal = e.counts.steals.steal + n };
            successes = e.counts.successes;
            usage = e.counts.usage;
          };
    }

pub record FinishingTick (plan : Plan) (s : State) (choices : List ℕ) : Type 0 where
  -- the one that finishes the job: a granted worker, before whose turn it is unfinished and after whose turn it is finished
  pub finisher : ℕ
  pub granted : finisher < allotment s
  pub unfinished_before : finished (after_workers plan s choices finisher) ≡ false
  pub finished_after : finished (after_workers plan s choices (suc finisher)) ≡ true
  -- up to it each worker takes its cycle, and counts nothing besides
  pub up_to_it : (w : ℕ) → w ≤ finisher →
      after_workers plan s choices (suc w) ≡ cycle plan.graph w (get_or choices w 0) (after_workers plan s choices w)
  -- the workers after it each count an unsuccessful steal, whatever their choices, and nothing moves
  pub after_it : (step plan (ticks choices) s).execution
      ≡ with_vain_steals (allotment s - suc finisher) (after_workers plan s choices (suc finisher))

-- ---- a list of calls

pub record WholeTicks (plan : Plan) (calls : List Call) : Type 0 where
  -- "work, mug and steal ticks add up to the sum of the granted counts over all accepted ticks"
  pub adds_up : all_counted (run plan calls).state.execution.counts ≡ worker_ticks plan calls
  -- so many cycles were made
  pub all_made : length (run plan calls).made ≡ worker_ticks plan calls
  -- an accepted tick after which the job is finished
  pub last_tick : (choices : List ℕ) → call_answer (ticks choices) (run plan calls).state ≡ accepted →
      finished (step plan (ticks choices) (run plan calls).state).execution ≡ true → FinishingTick plan (run plan calls).state choices
