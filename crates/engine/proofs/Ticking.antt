-- A tick of a job that calls reach: what the crate `turn` asks holds, and what its cycles and the tick's end leave is the model's tick.
-- Assumes nothing.
use mathlib.Core.Path.{◌≡◌, refl, sym, ◌∙◌, subst}
use mathlib.Core.Bool.{Bool, true, false}
use mathlib.Core.List.{List, [], ◌∷◌}
use Prim.Native.Nat.{ℕ, ◌+◌, ◌≤◌, ◌<◌}
use native.Mathlib.Omega.{arith}
use lib.ListN.{length}
use Rattle.model.specs.Questions.{accepted, first_no}
use Rattle.model.specs.Plan.{Graph, Plan}
use Rattle.model.specs.Machine.{Execution, opened, cycles, ticked, tick, Call, ticks, call_answer, step}
use Rattle.laws.specs.Reached.{OpenQuantum}
use Rattle.laws.proofs.Accepted.{TickAccepted, tick_accepted}
use Rattle.laws.proofs.Histories.{workers_placed}
use Rattle.memory.specs.declared.Job.{Job}
use Rattle.memory.specs.Parts.{parts, SamePlan}
use Rattle.memory.specs.Words.{Numbers, numbers_in, terms_in, open_in, ticks_in, SameTail}
use Rattle.memory.specs.Graphs.{graph}
use Rattle.memory.specs.View.{view}
use Rattle.memory.specs.Sound.{Sizes, Kept, Sound}
use Rattle.memory.specs.Cycles.{count_limit, Room}
use Rattle.memory.specs.Jobs.{lent, quantum_view, job_plan, job_state}
use Rattle.memory.proofs.Views.{workers_shown}
use Rattle.memory.proofs.Words.{same_tail}
use Rattle.turn.specs.Turns.{TickTurn, Ticked}
use Rattle.call_questions.specs.Asked.{tick_asked}
use Rattle.clock.specs.Clock.{tick_counted, quantum_ended, Countable, TickEnded}
use Rattle.engine.specs.Reached.{Reached}
use Rattle.engine.specs.Moves.{Moves}
use Rattle.call_questions.proofs.Asking.{tick_asking}
use Rattle.engine.proofs.Known.{known_sound, known_bounds, known_arranged, known_measured, known_workers, known_numbers}
use Rattle.engine.proofs.Known.{known_wish, words_fit}
use Rattle.engine.proofs.Moving.{plan_stays, accepted_moves}

-- an open quantum's flag is set
flag_set : (b : Bool) (k j : ℕ) → quantum_view b k ≡ opened j → b ≡ true
flag_set true k j h = refl
flag_set false k j h = let z : ◌≡◌ {A = ℕ} 0 1 = cc in absurd (omega arith)

shown_open : (b : Bool) (k : ℕ) → b ≡ true → quantum_view b k ≡ opened k
shown_open b k h = rw h refl

-- with no worker, and so no choice, nothing moves
no_cycles : (graph : Graph) (choices : List ℕ) (e : Execution) → length choices ≡ 0 → e ≡ cycles graph 0 choices e
unfolding cycles
no_cycles graph [] e none = refl
no_cycles graph (choice ∷ choices) e none = absurd (omega arith)

module _ {plan : Plan} {calls : List Call} {memory words : List ℕ} (choices : List ℕ) (r : Reached plan calls (lent memory words))
    (asked : first_no (tick_asked words choices) ≡ accepted) where
  abbrev job : Job
  job = lent memory words

  tick_is_accepted : call_answer (ticks choices) (job_state job) ≡ accepted
  tick_is_accepted = tick_asking job r.kept.done_right choices ∙ asked

  facts : TickAccepted choices (job_state job)
  facts = tick_accepted choices (job_state job) tick_is_accepted

  is_open : open_in words ≡ true
  unfolding job_state
  is_open = flag_set (open_in words) (ticks_in words) _ facts.open_quantum

  current : OpenQuantum (job_plan job) (job_state job) (ticks_in words)
  unfolding job_state
  current = (known_measured r).current (ticks_in words) (shown_open (open_in words) (ticks_in words) is_open)

  one_each : length choices ≡ (numbers_in words).workers
  unfolding job_state
  one_each = facts.one_each ∙ workers_shown (parts memory).next (parts memory).ends (numbers_in words).workers

  -- ---- what the cycles ask

  sound_job : 1 ≤ (numbers_in words).workers → Sound (parts memory) (numbers_in words)
  unfolding job_state job_plan
  sound_job some =
      record {
        sizes = r.parts_sized;
        few_tasks = (words_fit r).tasks_fit;
        planned = (known_sound r).graph;
        lawful =
            record {
              placed =
                  workers_placed (known_arranged r)
                  (rw (workers_shown (parts memory).next (parts memory).ends (numbers_in words).workers) some);
              few_workers = known_workers r;
            };
        kept = r.kept;
      }

  room : Room count_limit (numbers_in words)
  unfolding job_state
  room =
      let fit = known_numbers r in
      record {
        works_fit = omega (arith, fit.work);
        mugs_fit = omega (arith, fit.all_cycles);
        steals_fit = omega (arith, fit.all_cycles);
        successes_fit = omega (arith, fit.successes);
        usage_fits = omega (arith, fit.usage);
      }

  pub tick_turn : 1 ≤ (numbers_in words).workers → TickTurn memory words choices
  unfolding job_state
  tick_turn some =
      record {
        size = r.words_sized;
        sound = sound_job some;
        one_each = one_each;
        all_workers = simp workers_shown at facts.below_allotment;
        room = room;
      }

  -- ---- what the tick's end asks, and the tick as a whole

  -- the cycles of the tick leave the plan and the words beside the execution's numbers, and use no more than the workers of one tick
  module _ {words₁ : List ℕ} (tail : SameTail words words₁) where
    pub countable : (numbers_in words₁).usage ≤ (numbers_in words).usage + 64 → (numbers_in words₁).workers ≡ (numbers_in words).workers →
        Countable words₁
    unfolding job_state job_plan
    countable used same_workers =
        let left : ticks_in words < (terms_in words).quantum_length = current.unclosed facts.unfinished in
        let responsiveness = tail.same_from 10 (omega arith) in
        let in_tenths = tail.same_from 18 (omega arith) in
        let utilization = tail.same_from 11 (omega arith) in
        let its_length = tail.same_from 12 (omega arith) in
        let desire = tail.same_from 13 (omega arith) in
        let power = tail.same_from 19 (omega arith) in
        record {
          size = tail.same_length ∙ r.words_sized;
          its_quantum = rw (tail.same_from 15 (omega arith)) is_open;
          ticks_fit = omega (arith, left, its_length, tail.same_from 16 (omega arith));
          closable =
              record {
                desired = rw (in_tenths, responsiveness, power, desire) (known_wish r);
                usage_fits = omega (arith, left, used, current.usage_so_far, (known_bounds r).quantum_most);
              };
          utilization_fits = omega (arith, utilization, (known_sound r).terms.percent);
          length_fits = omega (arith, its_length, (known_bounds r).quantum_most);
          workers_fit = omega (arith, same_workers, (words_fit r).workers_fit);
        }

    module _ (memory' : List ℕ) {words' : List ℕ}
        (shows : view (parts memory') (numbers_in words₁)
        ≡ cycles (graph (parts memory) (numbers_in words).tasks) 0 choices (view (parts memory) (numbers_in words)))
        (same_tasks : (numbers_in words₁).tasks ≡ (numbers_in words).tasks)
        (same_plan : SamePlan (parts memory) (parts memory'))
        (sizes : Sizes (parts memory'))
        (kept : Kept (graph (parts memory') (numbers_in words₁).tasks) (parts memory') (numbers_in words₁))
        (ended : TickEnded words₁ words') where
      plan_after_cycles : job_plan (lent memory' words₁) ≡ job_plan job
      plan_after_cycles = plan_stays memory words memory' words₁ tail same_tasks same_plan

      counted_is_ticked : tick_counted (lent memory' words₁) ≡ ticked (job_plan job) choices (job_state job)
      unfolding ticked job_state job_plan
      counted_is_ticked =
          rw (
            shows,
            tail.same_from 13 (omega arith),
            tail.same_from 14 (omega arith),
            tail.same_from 16 (omega arith),
            tail.same_from 17 (omega arith),
            tail.same_from 19 (omega arith),
            tail.same_from 20 (omega arith),
            is_open,
          )
          refl

      ticked_stepped : job_state (lent memory' words') ≡ step (job_plan job) (ticks choices) (job_state job)
      unfolding step tick quantum_ended
      ticked_stepped =
          rw tick_is_accepted (ended.shows memory' kept.done_right ∙ rw (plan_after_cycles, counted_is_ticked) refl)

      ticked_moves : Moves (ticks choices) job (lent memory' words')
      ticked_moves =
          accepted_moves (ticks choices) tick_is_accepted ticked_stepped (ended.rest.same_plan memory' ∙ plan_after_cycles) sizes
          (ended.rest.same_size ∙ tail.same_length ∙ r.words_sized)
          (subst (λ (m : Numbers). Kept (graph (parts memory') m.tasks) (parts memory') m) (sym ended.rest.same_numbers) kept)

  -- ---- what the function promises

  -- some workers took their cycles
  pub worked_tick : {memory' words₁ words' : List ℕ} → Ticked memory words choices memory' words₁ → TickEnded words₁ words' →
      Moves (ticks choices) job (lent memory' words')
  worked_tick {memory'} done ended =
      ticked_moves done.tail memory' done.shows done.grown.same_tasks done.same_plan done.sound.sizes
      done.sound.kept ended

  -- no worker is granted
  pub idle_tick : {words' : List ℕ} → (numbers_in words).workers ≡ 0 → TickEnded words words' →
      Moves (ticks choices) job (lent memory words')
  idle_tick nobody ended =
      ticked_moves (same_tail words) memory
      (no_cycles (graph (parts memory) (numbers_in words).tasks) choices (view (parts memory) (numbers_in words)) (one_each ∙ nobody))
      refl (record { same_first = refl; same_second = refl; same_ticks = λ t. refl }) r.parts_sized r.kept ended
