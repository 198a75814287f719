-- The ten numbers that are taken off a job's words are model's, whatever memory makes the words a job.
-- Assumes nothing.
use mathlib.Core.Path.{◌≡◌, refl, sym, ◌∙◌}
use mathlib.Core.List.{List}
use Prim.Native.Nat.{ℕ, ◌≤◌}
use native.Mathlib.Omega.{arith}
use Rattle.std.specs.Prelude.{bit_and}
use Rattle.std.proofs.Math.Nat.{mod-eq_of_lt}
use Rattle.std.proofs.lemmas.Grind.{and_numeral}
use Rattle.model.specs.Counters.{counters}
use Rattle.memory.specs.declared.Job.{Job}
use Rattle.memory.specs.Words.{numbers_in, desire_in}
use Rattle.memory.specs.Jobs.{job_plan, job_state}
use Rattle.memory.proofs.Views.{workers_shown, tasks_shown}
use Rattle.status.specs.declared.Status.{Status}
use Rattle.counters.specs.declared.Counters.{Counters}
use Rattle.engine.specs.Reached.{IsJob, JobWords, InRange}
use Rattle.engine.proofs.Known.{in_range}
use Rattle.job.specs.Status.{StatusOf}
use Rattle.report.specs.Shown.{CountersOf}

-- the numbers of words, with a status; the four that are shown narrower, of 16 bits and of 8, as they are taken
abbrev pub ten_by : (ℕ → ℕ) → (ℕ → ℕ) → List ℕ → ℕ → Status → Counters
ten_by of_16 of_8 words refusals s =
    let m = numbers_in words in
    record {
      status = s;
      worked = of_16 m.done;
      tasks = of_16 m.tasks;
      desire = of_8 (desire_in words);
      allotment = of_8 m.workers;
      work = m.works;
      mug = m.mugs;
      steal = m.steals;
      successes = m.successes;
      refusals = refusals;
    }

-- the numbers of a job, as they are
abbrev pub ten_of : List ℕ → ℕ → Status → Counters
ten_of = ten_by (λ n. n) (λ n. n)

-- a record's words are a job's, at its own memory
pub of_record : (job : Job) → IsJob job → JobWords job.words
of_record job is_job = (job.memory, is_job)

-- each number that is taken off fits its type
pub words_in_range : (words : List ℕ) → JobWords words → InRange words
words_in_range words known = in_range known.1

pub counted : (words : List ℕ) (refusals : ℕ) {s : Status} → StatusOf words s → CountersOf words refusals (ten_of words refusals s)
unfolding counters job_plan job_state
counted words refusals of =
    record {
      right = λ memory job.
          rw (sym (of.right memory job), sym job.2.kept.done_right, tasks_shown, workers_shown) refl;
    }

-- ---- taken off words that need not be a job's

-- the numbers of words, their low bits where they are shown narrower
abbrev pub low_ten_of : List ℕ → ℕ → Status → Counters
low_ten_of = ten_by (λ n. bit_and n 65535) (λ n. bit_and n 255)

-- a small number is its low bits
low_16 : {n : ℕ} → n ≤ 1024 → bit_and n 65535 ≡ n
low_16 {n} small = and_numeral n 65534 refl ∙ mod-eq_of_lt (omega (arith, small))

low_8 : {n : ℕ} → n ≤ 64 → bit_and n 255 ≡ n
low_8 {n} small = and_numeral n 254 refl ∙ mod-eq_of_lt (omega (arith, small))

-- of a job's words they are the numbers themselves
pub low_counted : (words : List ℕ) (refusals : ℕ) {s : Status} → StatusOf words s → CountersOf words refusals (low_ten_of words refusals s)
low_counted words refusals of =
    record {
      right = λ memory job.
          let fits = words_in_range words (memory, job) in
          rw (low_16 fits.done_fits, low_16 fits.tasks_fit, low_8 fits.desire_fits, low_8 fits.workers_fit)
          ((counted words refusals of).right memory job);
    }
