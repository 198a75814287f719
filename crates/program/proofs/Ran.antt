-- What is printed after a log: the counters line, and after a broken entry the line of the refusal.
-- Assumes nothing.
use mathlib.Core.Path.{◌≡◌, refl, sym, ap, ◌∙◌}
use mathlib.Core.List.{List, [], ◌++◌, append-nil}
use Prim.Native.Nat.{ℕ, ◌+◌, ◌^◌, ◌≤◌, ◌<◌}
use native.Mathlib.Omega.{arith}
use native.Mathlib.Nat.{zero-add}
use lib.Dec.{lit<}
use lib.ListN.{length, length-append}
use lib.Seq.{sets, length-sets}
use Rattle.model.specs.Questions.{accepted}
use Rattle.model.specs.Plan.{Plan, plan_of, plan_answer}
use Rattle.model.specs.Machine.{State, fresh}
use Rattle.model.specs.Log.{run_log, log_answer}
use Rattle.model.specs.Counters.{spaced, counters, counters_line, put_at_start}
use Rattle.model.specs.Program.{refused_line, refused_lines, log_output}
use Rattle.memory.specs.declared.Job.{Job}
use Rattle.engine.specs.Reached.{IsJob}
use Rattle.engine.specs.Moves.{Accepts}
use Rattle.counters.specs.declared.Counters.{Counters}
use Rattle.counters.specs.Line.{numbers_of}
use Rattle.digits.proofs.Stores.{sets_append, sets_start}
use Rattle.report.specs.Shown.{CountersOf}
use Rattle.std.specs.Prelude.{Result, Ok, Err}
use Rattle.log_reader.specs.declared.BrokenEntry.{BrokenEntry}
use Rattle.day_log.specs.Running.{log_answer_of, run_of, Runs}
use Rattle.program.specs.declared.printed.Output.{Output}
use Rattle.program.specs.Output.{Prints, LinePut, PrintsRan}
use Rattle.program.proofs.Printing.{read_back, refused_short}

-- ---- one line, or two

module _ {words : List ℕ} {refusals : ℕ} (answer : Result (Unit {0}) BrokenEntry) {k : Counters} (of : CountersOf words refusals k)
    {b b' : List ℕ} {size : ℕ} (room : length b ≡ 256) (line : LinePut k b b' size) where
  -- the text that is promised, where the ten numbers are the job's
  text : (plan : Plan) (s : State) (told : Result (Unit {0}) BrokenEntry) → numbers_of k ≡ counters plan s refusals → answer ≡ told
      → spaced (numbers_of k) ++ refused_lines (log_answer_of told) ≡ counters_line plan s refusals ++ refused_lines (log_answer_of answer)
  unfolding counters_line
  text plan s told e f = rw (e, f)

  same_length : length b' ≡ length b
  same_length =
      let x = spaced (numbers_of k) in
      ap length (line.bytes ∙ sym (sets_start x b (omega (arith, line.short, line.long)))) ∙ length-sets b 0 x

  pub whole_printed : answer ≡ Ok tt → (r : Output) → r.bytes ≡ b' → r.size ≡ size → PrintsRan words refusals answer r
  whole_printed whole r bytes_are size_is =
      record {
        right = λ memory job.
            record {
              written =
                  read_back (spaced (numbers_of k)) b r.bytes r.size (size_is ∙ line.long) (bytes_are ∙ line.bytes)
                  ∙ sym (append-nil (spaced (numbers_of k)))
                  ∙ text _ _ (Ok tt) (of.right memory job) whole;
              fits = omega (arith, line.short, same_length, size_is, ap length bytes_are);
            };
      }

  -- there is room for a refusal behind the line
  pub refusal_room : (at n : ℕ) → at ≤ 127 → n < 2 ^ 8 → at + length (refused_line n) ≤ length b'
  refusal_room at n short byte = omega (arith, refused_short n byte, same_length)

  pub broken_printed : answer ≡ Err (record {}) → (r : Output) → r.size ≡ size + length (refused_line 18)
      → r.bytes ≡ sets b' size (refused_line 18) → PrintsRan words refusals answer r
  broken_printed broken r end_is b₂_is =
      let x = spaced (numbers_of k) in
      let y = refused_line 18 in
      let behind = refusal_room size 18 line.short (lit< tt) in
      let both : r.bytes ≡ put_at_start (x ++ y) b =
      b₂_is
      ∙ ap (λ (n : ℕ). sets b' n y) (line.long ∙ sym (zero-add (length x)))
      ∙ ap (λ (l : List ℕ). sets l (0 + length x) y) (line.bytes ∙ sym (sets_start x b (omega (arith, line.short, line.long))))
      ∙ sets_append b 0 x y
      ∙ sets_start (x ++ y) b (omega (arith, behind, same_length, line.long, length-append x y)) in
      record {
        right = λ memory job.
            record {
              written =
                  read_back (x ++ y) b r.bytes r.size (omega (arith, line.long, length-append x y)) both
                  ∙ text _ _ (Err (record {})) (of.right memory job) broken;
              fits = omega (arith, behind, ap length b₂_is, length-sets b' size y);
            };
      }

-- ---- an accepted plan and its log

module _ {bytes : List ℕ} {before fresh_job : Job} (accepts : Accepts bytes before fresh_job) (yes : plan_answer bytes ≡ accepted) where
  pub its_job : IsJob fresh_job
  its_job = (plan_of bytes, [], accepts.reached yes)

  module _ {log : List ℕ} {refusals : ℕ} {job : Job} (runs : Runs log fresh_job refusals job) where
    -- what the log left is a job
    pub job_left : IsJob job
    job_left = (plan_of bytes, _, runs.reached (plan_of bytes) [] (accepts.reached yes))

    pub log_printed : {answer : Result (Unit {0}) BrokenEntry} {r : Output} → log_answer_of answer ≡ log_answer log →
        PrintsRan job.words refusals answer r → Prints (log_output (plan_of bytes) log) r
    unfolding log_output
    log_printed answered prints =
        let same : run_of log fresh_job ≡ run_log (plan_of bytes) log (fresh (plan_of bytes)) =
        rw (accepts.its_plan yes, accepts.its_state yes) refl in
        let its_state = runs.state_after ∙ ap (λ r. r.state) same in
        let its_count = runs.counted ∙ ap (λ r. r.refusals) same in
        rw (runs.same_plan ∙ accepts.its_plan yes, its_state, its_count, answered) at (prints.right job.memory job_left)
