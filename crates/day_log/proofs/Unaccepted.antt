-- Where a run leaves the job as it came: what `untouched` of its promise says of an empty log, of a log that is broken at its first entry,
-- and of a log whose calls are all refused.
-- Assumes nothing.
use mathlib.Core.Path.{◌≡◌, refl, ap, ◌∙◌}
use mathlib.Core.Bool.{false}
use mathlib.Core.List.{List, [], ◌∷◌}
use Prim.Native.Nat.{ℕ, ◌+◌}
use native.Mathlib.Omega.{arith}
use lib.ListN.{length}
use Rattle.model.specs.Questions.{refused}
use Rattle.model.specs.Plan.{Plan}
use Rattle.model.specs.Machine.{State, Call, call_answer, step}
use Rattle.model.specs.Log.{Ran, entry_whole, entries_up_to, entries, run_calls, run_log}
use Rattle.memory.specs.declared.Job.{Job}
use Rattle.memory.specs.Jobs.{job_state}
use Rattle.day_log.specs.Running.{Runs}
use Rattle.log_reader.proofs.Entries.{entries_cons}
use Rattle.day_log.proofs.Running.{called}

-- each of these calls is refused when it is asked of the state s
abbrev pub AllRefused : State → List Call → Type 0
AllRefused s [] = Unit
AllRefused s (call ∷ calls) = ((n : ℕ) × (call_answer call s ≡ refused n)) × AllRefused s calls

-- a refused call leaves the state and is counted
refused_once : (plan : Plan) (call : Call) (s : State) (refusals : ℕ) (n : ℕ) → call_answer call s ≡ refused n →
    called plan call (record { state = s; refusals = refusals }) ≡ record { state = s; refusals = refusals + 1 }
unfolding step
refused_once plan call s refusals n e = rw e

-- model's run of them counts each
refused_each : (plan : Plan) (calls : List Call) (s : State) (refusals : ℕ) → AllRefused s calls →
    (run_calls plan calls (record { state = s; refusals = refusals })).refusals ≡ refusals + length calls
unfolding run_calls
refused_each plan [] s refusals all = omega arith
refused_each plan (call ∷ calls) s refusals all =
    ap (λ (ran : Ran). (run_calls plan calls ran).refusals) (refused_once plan call s refusals all.0.0 all.0.1)
    ∙ refused_each plan calls s (refusals + 1) all.1
    ∙ omega arith

module _ {log : List ℕ} {job job' : Job} {refusals : ℕ} (runs : Runs log job refusals job') where
  -- a log with no whole entry
  no_whole_entry : (entries log).calls ≡ [] → job' ≡ job
  unfolding run_log run_calls
  no_whole_entry none = runs.untouched (runs.counted ∙ rw none refl)

  pub after_an_empty_log : log ≡ [] → job' ≡ job
  unfolding entries entries_up_to
  after_an_empty_log empty = no_whole_entry (rw empty refl)

  -- the first entry is broken: fewer bytes come after its first than it announces
  pub after_a_broken_start : (byte : ℕ) (after : List ℕ) → log ≡ byte ∷ after → entry_whole byte after ≡ false → job' ≡ job
  after_a_broken_start byte after is broken = no_whole_entry (rw (is, entries_cons byte after, broken) refl)

  -- every call is refused when it is asked of the state that the run began with
  pub after_refusals_only : AllRefused (job_state job) (entries log).calls → job' ≡ job
  unfolding run_log
  after_refusals_only all = runs.untouched (runs.counted ∙ refused_each _ (entries log).calls (job_state job) 0 all ∙ omega arith)
