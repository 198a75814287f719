-- A seeded tick of a job: it is asked what the plain tick with the drawn choices is asked, since 16 and 17 are answered by yes; and what
-- the plain tick makes of the job, with the state after the draws, is what the model's seeded tick leaves.
-- Assumes nothing.
use mathlib.Core.Path.{◌≡◌, refl, sym, ap, ◌∙◌}
use mathlib.Core.List.{List}
use Prim.Native.Nat.{ℕ}
use Rattle.model.specs.Questions.{Answer, accepted, refused, first_no}
use Rattle.model.specs.Plan.{Plan}
use Rattle.model.specs.Machine.{allotment, Call, ticks, call_answer}
use Rattle.model.specs.Seeds.{draws, seed_after, Seeded, drawn, seeded_answer}
use Rattle.laws.proofs.Seeds.{same_answer, seeded_is_plain}
use Rattle.memory.specs.declared.Job.{Job}
use Rattle.memory.specs.Words.{numbers_in}
use Rattle.memory.specs.Jobs.{job_parts, job_numbers, job_plan, job_state}
use Rattle.memory.proofs.Views.{workers_shown}
use Rattle.call_questions.specs.Asked.{tick_asked, seeded_asked}
use Rattle.call_questions.proofs.Asking.{tick_asking, seeded_asking}
use Rattle.engine.specs.Reached.{Reached}
use Rattle.engine.specs.Moves.{Moves}
use Rattle.engine.proofs.Moving.{not_both, refused_moves}
use Rattle.seeded.specs.Drawn.{choices_for, shown, TicksSeeded}

-- the same state and the same seed
same_seeded : {a b : Seeded} → a.state ≡ b.state → a.seed ≡ b.seed → a ≡ b
same_seeded same_state same_seed i = record { state = same_state i; seed = same_seed i }

module _ {plan : Plan} {calls : List Call} {job : Job} (seed : ℕ) (r : Reached plan calls job) where
  abbrev choices : List ℕ
  choices = choices_for job.words seed

  granted_shown : allotment (job_state job) ≡ (numbers_in job.words).workers
  unfolding job_state
  granted_shown = workers_shown (job_parts job).next (job_parts job).ends (job_numbers job).workers

  -- the draws are for the granted workers, which the words show
  pub drawn_shown : drawn (job_state job) seed ≡ choices
  unfolding drawn
  drawn_shown = ap (λ (n : ℕ). draws n n seed) granted_shown

  -- what lets a seeded tick through lets the plain tick through
  pub asked_plainly : first_no (seeded_asked job.words) ≡ accepted → first_no (tick_asked job.words choices) ≡ accepted
  asked_plainly is =
      sym (tick_asking job r.kept.done_right choices)
      ∙ ap (λ (drawn_ones : List ℕ). call_answer (ticks drawn_ones) (job_state job)) (sym drawn_shown)
      ∙ sym (same_answer (job_state job) seed)
      ∙ seeded_asking job r.kept.done_right
      ∙ is

  pub seeded_moves : {job' : Job} {seed' : ℕ} → first_no (seeded_asked job.words) ≡ accepted → Moves (ticks choices) job job' →
      seed' ≡ seed_after (numbers_in job.words).workers seed → TicksSeeded job seed job' seed'
  seeded_moves {job'} {seed'} is plainly drawn_on =
      let answer : seeded_answer (job_state job) ≡ accepted = seeded_asking job r.kept.done_right ∙ is in
      let moves : Moves (ticks (drawn (job_state job) seed)) job job' = rw drawn_shown plainly in
      let plain = seeded_is_plain (job_plan job) (shown job seed) in
      record {
        leaves =
            same_seeded (moves.stepped ∙ sym plain.same_state)
            (drawn_on ∙ ap (λ (n : ℕ). seed_after n seed) (sym granted_shown) ∙ sym (plain.draws_made answer));
        moves = moves;
        unchanged = λ n is_no. absurd (not_both n answer is_no);
      }

  -- what is asked of the words is the model's answer
  pub seeded_answered : {answer : Answer} → answer ≡ first_no (seeded_asked job.words) → answer ≡ seeded_answer (job_state job)
  seeded_answered asked = asked ∙ sym (seeded_asking job r.kept.done_right)

  pub seeded_stays : (n : ℕ) → refused n ≡ first_no (seeded_asked job.words) → TicksSeeded job seed job seed
  seeded_stays n asked =
      let is_no : seeded_answer (job_state job) ≡ refused n = sym (seeded_answered asked) in
      record {
        leaves = sym ((seeded_is_plain (job_plan job) (shown job seed)).stays n is_no);
        moves = refused_moves n (sym (same_answer (job_state job) seed) ∙ is_no);
        unchanged = λ n h. (refl, refl);
      }
