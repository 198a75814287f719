-- An offer, its opening and its withdrawal of a job that calls reach. The noted offer is one word, and another number there is another note
-- and nothing else. An opening is a withdrawal and then a grant, which is accepted: so says `offer_then_open` of laws.
-- Assumes nothing.
use mathlib.Core.Path.{◌≡◌, refl, sym, ap, subst, ◌∙◌}
use mathlib.Core.List.{List, [], ◌∷◌, ◌++◌}
use Prim.Native.Nat.{ℕ, ◌+◌, ◌≤◌}
use native.Mathlib.Numerals.{add-one}
use native.Mathlib.Omega.{arith}
use lib.ListN.{length, set, length-set}
use Rattle.model.specs.Questions.{accepted, refused}
use Rattle.model.specs.Plan.{Plan}
use Rattle.model.specs.Machine.{State, offered, with_note, open_offer, Call, grants, offers, opens, withdraws, call_answer, step}
use Rattle.model.specs.History.{run}
use Rattle.laws.proofs.Accepted.{grant_accepted, offer_asks, open_accepted, noted_withdraw}
use Rattle.laws.proofs.Runs.{step_state, run_state}
use Rattle.laws.proofs.Theorems.{offer_then_open}
use Rattle.memory.specs.declared.Job.{Job}
use Rattle.memory.specs.Words.{Numbers, word_count, numbers_in, note_word, note_shown}
use Rattle.memory.specs.Graphs.{graph}
use Rattle.memory.specs.Sound.{Kept}
use Rattle.memory.specs.Jobs.{lent, job_parts, job_plan, job_state}
use Rattle.memory.proofs.Words.{by_words}
use Rattle.engine.specs.Reached.{Reached, IsJob}
use Rattle.engine.specs.Moves.{Moves, MovesWords, Grants}
use Rattle.engine.proofs.Known.{plan_sound, words_fit}
use Rattle.engine.proofs.Moving.{refused_moves, accepted_moves}

-- ---- another number in the note's word

module _ (memory : List ℕ) (n : ℕ) where
  noted_state : (words : List ℕ) → length words ≡ word_count →
      job_state (lent memory (set words note_word n)) ≡ with_note (note_shown n) (job_state (lent memory words))
  unfolding job_state
  noted_state words sized =
      by_words
      (λ (l : List ℕ). job_state (lent memory (set l note_word n)) ≡ with_note (note_shown n) (job_state (lent memory l)))
      (λ w. refl)
      words sized

  noted_plan : (words : List ℕ) → length words ≡ word_count → job_plan (lent memory (set words note_word n)) ≡ job_plan (lent memory words)
  unfolding job_plan
  noted_plan words sized =
      by_words (λ (l : List ℕ). job_plan (lent memory (set l note_word n)) ≡ job_plan (lent memory l)) (λ w. refl) words sized

noted_numbers : (n : ℕ) (words : List ℕ) → length words ≡ word_count → numbers_in (set words note_word n) ≡ numbers_in words
noted_numbers n words sized = by_words (λ (l : List ℕ). numbers_in (set l note_word n) ≡ numbers_in l) (λ w. refl) words sized

-- an accepted call that only moves the note
note_moves : {plan : Plan} {calls : List Call} {memory words : List ℕ} (r : Reached plan calls (lent memory words)) (n : ℕ) (call : Call) →
    call_answer call (job_state (lent memory words)) ≡ accepted →
    step (job_plan (lent memory words)) call (job_state (lent memory words)) ≡ with_note (note_shown n) (job_state (lent memory words)) →
    Moves call (lent memory words) (lent memory (set words note_word n))
note_moves {plan} {calls} {memory} {words} r n call answer steps =
    accepted_moves call answer
    (noted_state memory n words r.words_sized ∙ sym steps)
    (noted_plan memory n words r.words_sized)
    r.parts_sized
    (length-set words note_word n ∙ r.words_sized)
    (subst (λ (m : Numbers). Kept (graph (job_parts (lent memory words)) m.tasks) (job_parts (lent memory words)) m)
    (sym (noted_numbers n words r.words_sized)) r.kept)

-- ---- an offer

module _ {plan : Plan} {calls : List Call} {memory words : List ℕ} (g : ℕ) (r : Reached plan calls (lent memory words))
    (answer : call_answer (offers g) (job_state (lent memory words)) ≡ accepted) where
  -- it is at most the desire
  pub few_offered : g ≤ 64
  unfolding job_state
  few_offered =
      let asked = grant_accepted g (job_state (lent memory words)) (offer_asks g (job_state (lent memory words)) ∙ answer) in
      omega (arith, asked.wanted, (words_fit r).desire_fits)

  pub offered_moves : Moves (offers g) (lent memory words) (lent memory (set words note_word (g + 1)))
  unfolding step
  offered_moves = note_moves r (g + 1) (offers g) answer (rw (answer, add-one) refl)

-- ---- a withdrawal

pub withdrawn_moves : {plan : Plan} {calls : List Call} {memory words : List ℕ} → Reached plan calls (lent memory words) →
    call_answer withdraws (job_state (lent memory words)) ≡ accepted →
    Moves withdraws (lent memory words) (lent memory (set words note_word 0))
unfolding step
withdrawn_moves r answer = note_moves r 0 withdraws answer (rw answer refl)

-- ---- an opening

module _ {plan : Plan} {calls : List Call} {memory words : List ℕ} (c : ℕ) (r : Reached plan calls (lent memory words))
    (answer : call_answer (opens c) (job_state (lent memory words)) ≡ accepted) where
  abbrev job : Job
  job = lent memory words

  -- the job with the note dropped
  abbrev without : Job
  without = lent memory (set words note_word 0)

  offer_noted : (g : ℕ) × ((job_state job).note ≡ offered g) × (c ≤ g)
  offer_noted = open_accepted c (job_state job) answer

  dropped : Moves withdraws job without
  dropped = withdrawn_moves r (noted_withdraw (job_state job) offer_noted.1)

  reached_without : Reached plan (calls ++ withdraws ∷ []) without
  reached_without = dropped.reached plan calls r

  pub grants_it : Grants c without
  grants_it =
      let noted : (run plan calls).state.note ≡ offered offer_noted.0 =
      ap (λ (s : State). s.note) (sym r.its_state) ∙ offer_noted.1 in
      let waits = (offer_then_open (plan_sound r.accepted_plan) calls).while_noted offer_noted.0 noted in
      record {
        a_job = (plan, calls ++ withdraws ∷ [], reached_without);
        accepts_it =
            rw (reached_without.its_state ∙ run_state plan calls withdraws ∙ sym (step_state plan withdraws (run plan calls)))
            (waits.would_be_granted c offer_noted.2);
      }

  pub opened_moves : {job' : Job} → Moves (grants c) without job' → Moves (opens c) job job'
  unfolding step open_offer
  opened_moves {job'} moves =
      let after = moves.reached plan (calls ++ withdraws ∷ []) reached_without in
      accepted_moves (opens c) answer
      (moves.stepped ∙ rw (grants_it.accepts_it, noted_state memory 0 words r.words_sized, answer) refl)
      (moves.same_plan ∙ dropped.same_plan)
      after.parts_sized
      after.words_sized
      after.kept

-- ---- a call of the words alone

pub refused_words : {words : List ℕ} (call : Call) (n : ℕ) →
    ((memory : List ℕ) → IsJob (lent memory words) → refused n ≡ call_answer call (job_state (lent memory words))) →
    MovesWords call words words (refused n)
refused_words call n answered =
    record { answered = answered; moves = λ memory is_job. refused_moves n (sym (answered memory is_job)) }
