-- Running a log, entry after entry: what holds after the entries so far, that one call more keeps it, and that it gives the promise where
-- the log ends.
-- Assumes nothing.
use mathlib.Core.Path.{◌≡◌, refl, sym, ap, ◌∙◌}
use mathlib.Core.Bool.{Bool, true, false, cond}
use mathlib.Core.List.{List, [], ◌∷◌, ◌++◌, append_assoc, append-nil}
use Prim.Native.Nat.{ℕ, ◌+◌, ◌≤◌, ◌<◌}
use native.Mathlib.Omega.{arith}
use lib.ListN.{length, drop, length-append}
use Rattle.model.specs.Questions.{Answer, accepted, refused}
use Rattle.model.specs.Plan.{Plan}
use Rattle.model.specs.Machine.{Call, call_answer, step}
use Rattle.model.specs.Log.{Entries, Ran, entry_then, entries, refusals_in, run_calls, run_log, log_answer}
use Rattle.memory.specs.declared.Job.{Job}
use Rattle.memory.specs.Jobs.{job_plan, job_state}
use Rattle.engine.specs.Reached.{Reached, IsJob}
use Rattle.engine.specs.Moves.{Moves}
use mir.Val.{bool_byte}
use Rattle.std.specs.Prelude.{Option, Some, None, Result, Ok, Err}
use Rattle.std.specs.Result.{is_err}
use Rattle.call_questions.specs.declared.CallRefusal.{CallRefusal}
use Rattle.call_questions.specs.Answers.{answer_of}
use Rattle.log_reader.specs.declared.BrokenEntry.{BrokenEntry}
use Rattle.log_reader.specs.declared.Entry.{Entry}
use Rattle.log_reader.specs.declared.LogReader.{LogReader}
use Rattle.log_reader.specs.Reading.{Placed, call_of, then_entries, Reads}
use Rattle.log_reader.proofs.Entries.{entries_read, call_inside}
use Rattle.day_log.specs.Running.{log_answer_of, Runs}

-- ---- model's run of one call more

abbrev pub called : Plan → Call → Ran → Ran
called plan call ran =
    record {
      state = step plan call ran.state;
      refusals = ran.refusals + refusals_in (call_answer call ran.state);
    }

run_one_more : (plan : Plan) (done : List Call) (call : Call) (ran : Ran) →
    run_calls plan (done ++ call ∷ []) ran ≡ called plan call (run_calls plan done ran)
unfolding run_calls
run_one_more plan [] call ran = refl
run_one_more plan (first ∷ done) call ran = run_one_more plan done call (called plan first ran)

refusals_at_most : (answer : Answer) → refusals_in answer ≤ 1
refusals_at_most accepted = omega arith
refusals_at_most (refused n) = omega arith

-- a call is not refused more than once: where as many are refused as there are, those before the last are, and the last one is
all_refused : (count : ℕ) (done : List Call) (call : Call) (answer : Answer) → count ≤ length done →
    count + refusals_in answer ≡ length (done ++ call ∷ []) → (count ≡ length done) × (n : ℕ) × (answer ≡ refused n)
all_refused count done call accepted few all = absurd (omega (arith, few, all, length-append done (call ∷ [])))
all_refused count done call (refused n) few all = (omega (arith, few, all, length-append done (call ∷ [])), n, refl)

-- ---- after the entries so far

-- the run began with job₀
module _ (log : List ℕ) (job₀ : Job) where
  -- where model's run begins
  abbrev before : Ran
  before = record { state = job_state job₀; refusals = 0 }

  -- the calls of the entries before `at` left this job, and so many of them were refused
  pub record SoFar (job : Job) (count at : ℕ) : Type 0 where
    pub done : List Call
    pub calls_left : (entries log).calls ≡ done ++ (entries (drop at log)).calls
    pub broken_left : (entries log).broken ≡ (entries (drop at log)).broken
    pub ran : run_calls (job_plan job₀) done before ≡ record { state = job_state job; refusals = count }
    pub plan_so_far : job_plan job ≡ job_plan job₀
    pub reached_so_far : (plan : Plan) (calls : List Call) → Reached plan calls job₀ → Reached plan (calls ++ done) job
    pub few : count ≤ at
    pub refused_of_done : count ≤ length done
    pub untouched_so_far : count ≡ length done → job ≡ job₀

  pub starts : SoFar job₀ 0 0
  unfolding run_calls
  starts =
      record {
        done = [];
        calls_left = refl;
        broken_left = refl;
        ran = refl;
        plan_so_far = refl;
        reached_so_far = λ plan calls r. rw append-nil r;
        few = omega arith;
        refused_of_done = omega arith;
        untouched_so_far = λ all. refl;
      }

  module _ {job : Job} {count at : ℕ} (so_far : SoFar job count at) where
    -- the job is still a job
    pub still_job : IsJob job₀ → IsJob job
    still_job (plan, calls, reached) = (plan, calls ++ so_far.done, so_far.reached_so_far plan calls reached)

    -- each entry takes a byte or more
    pub few_more : {more : ℕ} (answer : Answer) → more ≡ refusals_in answer → count + more ≤ at + 1
    few_more answer counted = omega (arith, counted, so_far.few, refusals_at_most answer)

    -- one call more, with the next entry at `next`
    pub one_more : (call : Call) {job' : Job} {more next : ℕ} → Moves call job job' →
        more ≡ refusals_in (call_answer call (job_state job)) →
        entries (drop at log) ≡ entry_then call (entries (drop next log)) → at < next →
        SoFar job' (count + more) next
    one_more call {job'} {more} {next} moves counted here further =
        let answer = call_answer call (job_state job) in
        rw counted
        (record {
          done = so_far.done ++ call ∷ [];
          calls_left =
              so_far.calls_left
              ∙ ap (λ (e : Entries). so_far.done ++ e.calls) here
              ∙ sym (append_assoc so_far.done (call ∷ []) (entries (drop next log)).calls);
          broken_left = so_far.broken_left ∙ ap (λ (e : Entries). e.broken) here;
          ran =
              run_one_more _ so_far.done call _
              ∙ ap (called (job_plan job₀) call) so_far.ran
              ∙ (rw (← so_far.plan_so_far, moves.stepped));
          plan_so_far = moves.same_plan ∙ so_far.plan_so_far;
          reached_so_far =
              λ plan calls r. rw (← append_assoc) (moves.reached plan (calls ++ so_far.done) (so_far.reached_so_far plan calls r));
          few = omega (arith, few_more answer refl);
          refused_of_done = omega (arith, so_far.refused_of_done, refusals_at_most answer, length-append so_far.done (call ∷ []));
          untouched_so_far =
              λ all.
              let refusals = all_refused count so_far.done call answer so_far.refused_of_done all in
              moves.unchanged refusals.1 refusals.2 ∙ so_far.untouched_so_far refusals.0;
        })

    -- the log ends here, with a broken entry or without
    pub ends_here : (broken : Bool) {A : Type 0} (answer : Result A BrokenEntry) → entries (drop at log) ≡ record
        { calls = []; broken = broken } →
        log_answer_of answer ≡ cond broken (refused 18) accepted →
        (log_answer_of answer ≡ log_answer log) × Runs log job₀ count job
    unfolding run_log log_answer
    ends_here broken answer here number =
        let all : (entries log).calls ≡ so_far.done =
        so_far.calls_left ∙ ap (λ (e : Entries). so_far.done ++ e.calls) here ∙ append-nil so_far.done
        in
        let ran = ap (λ done. run_calls (job_plan job₀) done before) all ∙ so_far.ran in (
          number ∙ ap (λ b. cond b (refused 18) accepted) (sym (so_far.broken_left ∙ ap (λ (e : Entries). e.broken) here)),
          record {
            counted = sym (ap (λ (r : Ran). r.refusals) ran);
            state_after = sym (ap (λ (r : Ran). r.state) ran);
            same_plan = so_far.plan_so_far;
            reached = λ plan calls r. rw all (so_far.reached_so_far plan calls r);
            untouched = λ refusals. so_far.untouched_so_far (refusals ∙ ap length all);
          },
        )

-- ---- after an entry

-- 1 for a refused call, and 0 for an accepted one
told_refused : (answer : Result (Unit {0}) CallRefusal) (told : Bool) → told ≡ is_err answer → bool_byte told ≡ refusals_in
    (answer_of answer)
told_refused (Ok done) told e = rw e refl
told_refused (Err refusal) told e = rw e refl

pub at_most_one : (told : Bool) → bool_byte told ≤ 1
at_most_one true = omega arith
at_most_one false = omega arith

module _ {log : List ℕ} {job₀ job : Job} {count : ℕ} {r r' : LogReader} (same_log : r.log.now ≡ log)
    (so_far : SoFar log job₀ job count r.at)
  where
    from_here : {placed : Placed} → Reads r placed r' → entries (drop r.at log) ≡ then_entries placed (entries (drop r'.at log))
    from_here step = rw same_log at (entries_read step)

    module _ {placed : Option Entry} (entry : Entry) (step : Reads r (Ok placed) r') (is : placed ≡ Some entry) where
      -- a call's entry takes a byte or more, and ends within the log
      pub inside : (r.at < r'.at) × (r'.at ≤ length log)
      inside = let read : Reads r (Ok (Some entry)) r' = rw is at step in rw same_log at (call_inside read)

      pub one_entry : {job' : Job} (answer : Result (Unit {0}) CallRefusal) (told : Bool) {more : ℕ} → Moves (call_of entry) job job' →
          answer_of answer ≡ call_answer (call_of entry) (job_state job) → told ≡ is_err answer → more ≡ bool_byte told →
          SoFar log job₀ job' (count + more) r'.at
      one_entry answer told moves answered tells counted =
          let read : Reads r (Ok (Some entry)) r' = rw is at step in
          one_more log job₀ so_far (call_of entry) moves (counted ∙ told_refused answer told tells ∙ ap refusals_in answered)
          (from_here read) inside.0

    pub broken_here : {A : Type 0} (answer : Result A BrokenEntry) (broken : BrokenEntry) → answer ≡ Err broken → Reads r (Err broken) r' →
        (log_answer_of answer ≡ log_answer log) × Runs log job₀ count job
    broken_here answer broken told step = ends_here log job₀ so_far true answer (from_here step) (rw told refl)

    pub end_here : {placed : Option Entry} → Reads r (Ok placed) r' → placed ≡ None → (accepted ≡ log_answer log) × Runs log job₀ count job
    end_here step none =
        let read : Reads r (Ok None) r' = rw none at step in
        let whole : Result (Unit {0}) BrokenEntry = Ok tt in
        ends_here log job₀ so_far false whole (from_here read) refl
