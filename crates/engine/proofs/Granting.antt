-- A grant of a job that calls reach: what the crate `allot` asks holds, and what it and the quantum's opening leave is the model's grant.
-- Assumes nothing.
use mathlib.Core.Path.{◌≡◌, refl, sym, ◌∙◌, ap, subst}
use mathlib.Core.List.{List}
use Prim.Native.Nat.{ℕ}
use native.Mathlib.Omega.{arith}
use lib.ListN.{length}
use Rattle.model.specs.Questions.{accepted}
use Rattle.model.specs.Plan.{Plan}
use Rattle.model.specs.Machine.{Call, grants, call_answer, step}
use Rattle.model.specs.Machine as machine
use Rattle.laws.proofs.Accepted.{GrantAccepted, grant_accepted}
use Rattle.memory.specs.declared.Job.{Job}
use Rattle.memory.specs.Parts.{parts}
use Rattle.memory.specs.Words.{Numbers, numbers_in}
use Rattle.memory.specs.Graphs.{graph}
use Rattle.memory.specs.Sound.{Kept}
use Rattle.memory.specs.Jobs.{lent, job_plan, job_state}
use Rattle.memory.proofs.Views.{workers_shown}
use Rattle.clock.specs.Clock.{Openable, Opened}
use Rattle.allot.specs.Grants.{Grantable, Granted}
use Rattle.engine.specs.Reached.{Reached}
use Rattle.engine.specs.Moves.{Moves}
use Rattle.engine.proofs.Known.{known_arranged, known_lines, words_fit}
use Rattle.engine.proofs.Moving.{plan_stays, accepted_moves}

-- ---- an accepted grant

module _ {plan : Plan} {calls : List Call} {memory words : List ℕ} (g : ℕ) (r : Reached plan calls (lent memory words))
    (grant_is_accepted : call_answer (grants g) (job_state (lent memory words)) ≡ accepted) where
  abbrev job : Job
  job = lent memory words

  facts : GrantAccepted g (job_state job)
  facts = grant_accepted g (job_state job) grant_is_accepted

  pub grantable : Grantable memory words g
  unfolding job_state
  grantable =
      record {
        size = r.words_sized;
        places = r.parts_sized.places;
        head_in_ring = r.kept.head_in_ring;
        at_most = omega (arith, facts.wanted, (words_fit r).desire_fits);
        few_workers = (words_fit r).workers_fit;
        room = known_lines r;
        unstarted = λ off.
            sym (workers_shown (parts memory).next (parts memory).ends (numbers_in words).workers)
            ∙ ap length ((known_arranged r).before off).no_deques;
      }

  -- `allot` leaves this memory and these words
  module _ {memory' words₁ : List ℕ} (granted : Granted memory words g memory' words₁) where
    same_tasks : (numbers_in words₁).tasks ≡ (numbers_in words).tasks
    same_tasks = ap (λ (m : Numbers). m.tasks) granted.numbers

    -- one quantum more may begin
    pub openable : Openable words₁
    unfolding job_state
    openable =
        record {
          size = granted.tail.same_length ∙ r.words_sized;
          more = rw (granted.tail.same_from 17 (omega arith)) facts.more_quanta;
        }

    granted_kept : Kept (graph (parts memory') (numbers_in words₁).tasks) (parts memory') (numbers_in words₁)
    granted_kept =
        let same = granted.same_parts in
        record {
          pending_right =
              rw (same.same_pending, same.same_spans, same.same_first, same.same_second, same_tasks) r.kept.pending_right;
          done_right = rw (same.same_spans, same_tasks) (ap (λ (m : Numbers). m.done) granted.numbers ∙ r.kept.done_right);
          head_in_ring = rw (ap (λ (m : Numbers). m.head) granted.numbers) r.kept.head_in_ring;
        }

    -- and began, with these words
    module _ {words₂ : List ℕ} (began : Opened words₁ g words₂) where
      granted_stepped : job_state (lent memory' words₂) ≡ step (job_plan job) (grants g) (job_state job)
      unfolding step job_state machine.grant
      granted_stepped =
          began.shows memory'
          ∙ rw (
            grant_is_accepted,
            granted.tail.same_from 13 (omega arith),
            granted.tail.same_from 14 (omega arith),
            granted.tail.same_from 17 (omega arith),
            granted.tail.same_from 19 (omega arith),
            granted.tail.same_from 20 (omega arith),
            granted.shown (job_state job) refl refl,
          )
          refl

      pub granted_moves : Moves (grants g) job (lent memory' words₂)
      granted_moves =
          let same = granted.same_parts in
          accepted_moves (grants g) grant_is_accepted granted_stepped
          (began.rest.same_plan memory'
          ∙ plan_stays memory words memory' words₁ granted.tail same_tasks
          (record { same_first = same.same_first; same_second = same.same_second; same_ticks = rw same.same_spans (λ t. refl) }))
          (record {
            firsts = rw same.same_first r.parts_sized.firsts;
            seconds = rw same.same_second r.parts_sized.seconds;
            links = rw same.same_next r.parts_sized.links;
            numbers = rw same.same_pending r.parts_sized.numbers;
            places = granted.places;
            ticks = rw same.same_spans r.parts_sized.ticks;
          })
          (began.rest.same_size ∙ granted.tail.same_length ∙ r.words_sized)
          (subst (λ (m : Numbers). Kept (graph (parts memory') m.tasks) (parts memory') m)
          (sym began.rest.same_numbers) granted_kept)
