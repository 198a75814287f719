-- The status that words show: of a job the state's, whatever memory makes the words one; of the blank 0.
-- Assumes nothing.
use mathlib.Core.Path.{◌≡◌, refl, sym, ◌∙◌}
use mathlib.Core.List.{List}
use Prim.Native.Nat.{ℕ}
use borrow.Author.Tests.{eq-eqb, ne_eqb}
use Rattle.model.specs.Machine.{status}
use Rattle.memory.specs.Parts.{parts}
use Rattle.memory.specs.Words.{word, numbers_in}
use Rattle.memory.specs.Jobs.{lent, job_state}
use Rattle.memory.proofs.Views.{workers_shown, finished_shown}
use Rattle.engine.specs.Reached.{IsJob}
use Rattle.status.specs.declared.Status.{Status}
use Rattle.status.specs.Number.{status_number}
use Rattle.job.specs.Status.{shown_status, StatusOf}
use Rattle.job.specs.Blank.{blank_job}
use Rattle.job.proofs.Blanks.{has_task}

module _ (words : List ℕ) where
  none_shown : word words 0 ≡ 0 → 0 ≡ shown_status words
  unfolding shown_status
  none_shown none = rw (eq-eqb _ _ none)

  -- ---- of a job, it is the state's

  status_right : (memory : List ℕ) → IsJob (lent memory words) → shown_status words ≡ status (job_state (lent memory words))
  unfolding shown_status status job_state
  status_right memory job =
      rw
      (ne_eqb _ _ (has_task job.2), finished_shown (parts memory) (numbers_in words) job.2.kept.done_right, workers_shown)
      refl

  pub status_of_job : {r : Status} → status_number r ≡ shown_status words → StatusOf words r
  status_of_job same = record { shown = same; right = λ memory job. same ∙ status_right memory job }

-- the blank shows as fresh, and not as finished
pub blank_status : shown_status blank_job.words ≡ 0
unfolding blank_job
blank_status = sym (none_shown blank_job.words refl)
