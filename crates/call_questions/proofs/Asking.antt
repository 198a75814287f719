-- The questions that the code asks of words are the model's, asked of the state that the job shows.
-- Assumes nothing.
use mathlib.Core.Path.{◌≡◌, refl, sym}
use mathlib.Core.Bool.{Bool, true, false, not}
use mathlib.Core.List.{List}
use Prim.Native.Nat.{ℕ, zero, suc}
use native.Mathlib.Omega.{arith}
use lib.Dec.{eqb, ltb, leb-suc-suc}
use borrow.Author.Tests.{ne_eqb, le-ltb}
use Rattle.model.specs.Tests.{count_set}
use Rattle.model.specs.Questions.{first_no}
use Rattle.model.specs.Machine.{no_quantum_open, none_noted, up_to_offer, grant_questions, tick_questions, open_questions}
use Rattle.model.specs.Machine.{withdraw_questions, grants, ticks, opens, withdraws, call_answer}
use Rattle.memory.specs.declared.Job.{Job}
use Rattle.memory.specs.Words.{word, open_in, ticks_in, note_word, note_shown}
use Rattle.memory.specs.Sound.{worked_in}
use Rattle.memory.specs.Jobs.{job_parts, job_numbers, quantum_view, job_state}
use Rattle.memory.proofs.Views.{finished_shown, workers_shown}
use Rattle.model.specs.Seeds.{seeded_questions, seeded_answer}
use Rattle.call_questions.specs.Asked.{grant_asked, tick_asked, seeded_asked, open_asked, withdraw_asked}

-- a quantum is open exactly where the flag says so
pub open_shown : (b : Bool) (k : ℕ) → no_quantum_open (quantum_view b k) ≡ not b
open_shown true k = refl
open_shown false k = refl

not_open_shown : (b : Bool) (k : ℕ) → not (no_quantum_open (quantum_view b k)) ≡ b
not_open_shown true k = refl
not_open_shown false k = refl

-- no offer is noted exactly where its word is 0, and else the word is one more than it
note_none : (n : ℕ) → none_noted (note_shown n) ≡ eqb n 0
note_none zero = refl
note_none (suc g) = sym (ne_eqb (suc g) 0 (λ e. omega arith))

note_up_to : (c n : ℕ) → up_to_offer c (note_shown n) ≡ ltb c n
note_up_to c zero = sym (le-ltb c 0 (omega arith))
note_up_to c (suc g) = sym (leb-suc-suc c g)

-- an opening and a withdrawal read the words alone
pub open_asking : (job : Job) (c : ℕ) → call_answer (opens c) (job_state job) ≡ first_no (open_asked job.words c)
unfolding call_answer open_questions open_asked job_state first_no
open_asking job c = rw (note_none (word job.words note_word), note_up_to c (word job.words note_word)) refl

pub withdraw_asking : (job : Job) → call_answer withdraws (job_state job) ≡ first_no (withdraw_asked job.words)
unfolding call_answer withdraw_questions withdraw_asked job_state first_no
withdraw_asking job = rw (note_none (word job.words note_word)) refl

module _ (job : Job) (done_right : (job_numbers job).done ≡ count_set (worked_in (job_parts job) (job_numbers job))) where
  pub grant_asking : (g : ℕ) → call_answer (grants g) (job_state job) ≡ first_no (grant_asked job.words g)
  unfolding call_answer grant_questions grant_asked job_state first_no
  grant_asking g =
      rw (
        finished_shown (job_parts job) (job_numbers job) done_right,
        open_shown (open_in job.words) (ticks_in job.words),
        note_none (word job.words note_word),
      )
      refl

  pub tick_asking : (choices : List ℕ) → call_answer (ticks choices) (job_state job) ≡ first_no (tick_asked job.words choices)
  unfolding call_answer tick_questions tick_asked job_state first_no
  tick_asking choices =
      rw (finished_shown (job_parts job) (job_numbers job) done_right, not_open_shown (open_in job.words) (ticks_in job.words))
      (simp workers_shown)

  pub seeded_asking : seeded_answer (job_state job) ≡ first_no (seeded_asked job.words)
  unfolding seeded_answer seeded_questions seeded_asked job_state first_no
  seeded_asking =
      rw (finished_shown (job_parts job) (job_numbers job) done_right, not_open_shown (open_in job.words) (ticks_in job.words))
      refl
