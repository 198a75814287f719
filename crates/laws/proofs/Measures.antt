-- How large each count can be after any calls, and in numbers.
-- Assumes nothing.
use mathlib.Core.Path.{◌≡◌, refl, sym}
use mathlib.Core.Bool.{Bool, true, false, not, ◌&&◌}
use mathlib.Core.List.{List}
use Prim.Native.Nat.{ℕ, suc, ◌+◌, ◌≤◌}
use native.Mathlib.Nat.{mul-suc, mul-le-mul}
use native.Mathlib.Omega.{arith}
use lib.Dec.{eqb}
use lib.ListN.{length}
use borrow.Author.Tests.{eqb-false}
use Rattle.model.specs.Plan.{Plan, longest_duration}
use Rattle.model.specs.Machine.{Execution, State, idle, opened, ticks_of, fresh, grant, cycles, cycles_made, tick}
use Rattle.model.specs.Machine.{ticked, closes, closed, finished, most_workers, Note, with_note, Call}
use Rattle.model.specs.History.{beginning, history_grant, history_tick, run}
use Rattle.model.specs.Statements.{SoundPlan, WithinBounds}
use Rattle.model.specs.WholeTicks.{all_counted}
use Rattle.laws.specs.Reached.{OpenQuantum, Measured, CountsFit}
use Rattle.lists.proofs.Tests.{true_is_not_false}
use Rattle.lists.proofs.Sums.{total_at_most}
use Rattle.laws.proofs.Cycles.{cycles_allotment}
use Rattle.laws.proofs.Grants.{grant_allotment}
use Rattle.laws.proofs.Meaning.{cycles_counted, all_kinds, successes_are_steals, one_cycle_each}
use Rattle.laws.proofs.Accepted.{GrantAccepted, TickAccepted, not_idle, tick_cases}
use Rattle.laws.proofs.Runs.{run_keeps}
use Rattle.laws.proofs.Histories.{arranged, work_at_most}
use Rattle.laws.proofs.Carried.{carried_tick}

not_opened : {k : ℕ} → idle ≡ opened k → ⊥
not_opened p = not_idle (sym p)

opened_with : {j k : ℕ} → opened j ≡ opened k → j ≡ k
opened_with p = cc

module _ {plan : Plan} (sound : SoundPlan plan) where
  fresh_measured : Measured plan (fresh plan)
  unfolding fresh
  fresh_measured =
      record {
        wanted = omega arith;
        quanta = omega arith;
        current = λ k p. absurd (not_opened p);
        usage_at_most = omega arith;
        cycles_at_most = omega arith;
        successful = omega arith;
      }

  noted_measured : (s : State) (note : Note) → Measured plan s → Measured plan (with_note note s)
  noted_measured s note m =
      record {
        wanted = m.wanted;
        quanta = m.quanta;
        current = λ ticks p.
            let q = m.current ticks p in
            record {
              within = q.within;
              unclosed = q.unclosed;
              granted = q.granted;
              usage_so_far = q.usage_so_far;
              room = q.room;
            };
        usage_at_most = m.usage_at_most;
        cycles_at_most = m.cycles_at_most;
        successful = m.successful;
      }

  grant_measured : {s : State} → Measured plan s → (g : ℕ) → GrantAccepted g s → Measured plan (grant g s)
  grant_measured {s} m g t =
      unfold grant in
      record {
        wanted = m.wanted;
        quanta = t.more_quanta;
        current = λ k p.
            let none_yet = opened_with p in
            let room_more = mul-suc plan.terms.quantum_length s.begun in
            record {
              within = omega arith;
              unclosed = λ f. omega (arith, sound.terms.timed);
              granted = omega (arith, grant_allotment g s, t.wanted);
              usage_so_far = omega arith;
              room = omega (arith, m.cycles_at_most);
            };
        usage_at_most = omega arith;
        cycles_at_most = omega (arith, m.cycles_at_most, mul-suc plan.terms.quantum_length s.begun);
        successful = m.successful;
      }

  tick_measured : {s : State} → Measured plan s → (choices : List ℕ) → TickAccepted choices s →
      (tick plan choices s).wish.desire ≤ most_workers → Measured plan (tick plan choices s)
  tick_measured {s} m choices t =
      tick_cases plan choices s (λ s'. s'.wish.desire ≤ most_workers → Measured plan s')
      (λ c wanted. unfold ticked closed in
      record {
        wanted = wanted;
        quanta = m.quanta;
        current = λ k p. absurd (not_opened p);
        usage_at_most = omega (arith, used, o.unclosed t.unfinished, o.usage_so_far, few);
        cycles_at_most = omega (arith, more, o.unclosed t.unfinished, o.room, few);
        successful = succeeded;
      })
      (λ c wanted. unfold ticked in
      record {
        wanted = m.wanted;
        quanta = m.quanta;
        current = λ k p.
            let next = opened_with p in
            let open_before = o.unclosed t.unfinished in
            record {
              within = omega arith;
              unclosed = λ f. omega (arith, not_yet c f);
              granted = omega (arith, same_allotment, o.granted);
              usage_so_far = omega (arith, used, o.usage_so_far, few);
              room = omega (arith, more, o.room, few);
            };
        usage_at_most = omega (arith, used, o.unclosed t.unfinished, o.usage_so_far, few);
        cycles_at_most = omega (arith, more, o.unclosed t.unfinished, o.room, few);
        successful = succeeded;
      })
    where
      e : Execution
      e = s.execution

      k : ℕ
      k = ticks_of s.quantum

      after : Execution
      after = cycles plan.graph 0 choices e

      o : OpenQuantum plan s k
      o = m.current k t.open_quantum

      fits : 0 + length choices ≤ length e.deques
      fits = omega (arith, t.one_each)

      few : length (cycles_made plan.graph 0 choices e) ≤ most_workers
      few = omega (arith, one_cycle_each plan.graph choices 0 e, t.one_each, o.granted, m.wanted)

      used : after.counts.usage ≤ e.counts.usage + length (cycles_made plan.graph 0 choices e)
      used = omega (arith, (cycles_counted plan.graph 0 choices e fits).nonsteal_usage, all_kinds (cycles_made plan.graph 0 choices e))

      more : all_counted after.counts ≡ all_counted e.counts + length (cycles_made plan.graph 0 choices e)
      more =
          let c = cycles_counted plan.graph 0 choices e fits in
          omega (arith, c.work, c.mug, c.steal, all_kinds (cycles_made plan.graph 0 choices e))

      succeeded : after.counts.successes ≤ after.counts.steals.steal
      succeeded =
          let c = cycles_counted plan.graph 0 choices e fits in
          omega (arith, c.success, c.steal, successes_are_steals (cycles_made plan.graph 0 choices e), m.successful)

      same_allotment : length after.deques ≡ length e.deques
      same_allotment = cycles_allotment plan.graph choices 0 e fits

      not_yet : closes plan (ticked plan choices s) ≡ false → finished after ≡ false → suc k ≡ plan.terms.quantum_length → ⊥
      not_yet c f = eqb-false (suc k) plan.terms.quantum_length (go (finished after) f (unfold closes ticked in c))
        where
          go : (b : Bool) → b ≡ false → (not b && eqb (suc k) plan.terms.quantum_length) ≡ false →
              eqb (suc k) plan.terms.quantum_length ≡ false
          go false p q = q
          go true p q = absurd (true_is_not_false refl p)

  pub measured : (calls : List Call) → Measured plan (run plan calls).state
  unfolding beginning history_grant history_tick
  measured calls =
      run_keeps plan (λ h. Measured plan h.state)
      fresh_measured
      (λ h note m. noted_measured h.state note m)
      (λ done g t m. grant_measured m g t)
      (λ done choices t m. tick_measured m choices t (carried_tick sound done choices t).desire.at_most)
      calls

-- ---- in numbers

pub counts_fit : {plan : Plan} → SoundPlan plan → WithinBounds plan → (calls : List Call) → CountsFit (run plan calls).state
counts_fit {plan} sound widths calls =
    let m = measured sound calls in
    let product = mul-le-mul widths.quantum_most m.quanta in
    record {
      work =
          omega (
            arith,
            work_at_most (arranged sound calls),
            total_at_most longest_duration plan.durations widths.durations_most,
            sound.each_lasts,
            widths.tasks_most,
          );
      usage = omega (arith, m.usage_at_most, widths.quantum_most);
      all_cycles = omega (arith, m.cycles_at_most);
      successes = omega (arith, m.cycles_at_most, m.successful);
      begun = m.quanta;
    }
