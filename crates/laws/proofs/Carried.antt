-- What one induction over the list of calls carries for demand 3: the open quantum agrees with the state, the desire is that of its power,
-- the stack of unused quanta has one for each power below it, the balance of the mugs holds at that power, and the ticks of the closed
-- quanta are used. The open quantum's agreement gives that a quantum's end is recorded as the state judges it.
-- Assumes a sound plan.
use mathlib.Core.Path.{◌≡◌, refl, sym}
use mathlib.Core.Bool.{true}
use mathlib.Core.List.{List}
use Prim.Native.Nat.{ℕ}
use native.Mathlib.Omega.{arith}
use Rattle.model.specs.Plan.{Plan}
use Rattle.model.specs.Machine.{Note, Call, fresh, grant, ticked, closes, closed, tick}
use Rattle.model.specs.History.{History, beginning, history_grant, history_tick, history_step, run}
use Rattle.model.specs.Statements.{SoundPlan, ending, EndsAsRecorded}
use Rattle.laws.proofs.Accepted.{GrantAccepted, TickAccepted, tick_accepted}
use Rattle.laws.proofs.Runs.{history_noted, history_ticked, history_closed, tick_moves, by_moves}
use Rattle.laws.proofs.Progress.{tick_progress}
use Rattle.laws.proofs.Ladder.{ladder_of}
use Rattle.laws.proofs.Powers.{Phase, phase_start, phase_noted, phase_granted, phase_ticked, phase_closed, at_end, OnLadder, ended}
use Rattle.laws.proofs.PairingLaw.{Stacked, stacked_none, stacked_end}
use Rattle.laws.proofs.MugLimitLaw.{Balance, balance_start, balance_granted, balance_ticked, balance_closed}
use Rattle.laws.proofs.SpentLaw.{Paced, paced_start, paced_granted, paced_ticked, paced_closed}

pub record Carried (plan : Plan) (h : History) : Type 0 where
  pub phase : Phase h
  pub desire : OnLadder plan.terms.growth h.state.wish
  pub stack : Stacked plan.terms.growth h.closed_quanta h.state.wish.power
  pub balance : Balance plan.terms h.state h.closed_quanta h.state.wish.power
  pub pace : Paced plan.terms.quantum_length h.state h.closed_quanta

module _ {plan : Plan} (sound : SoundPlan plan) where
  carried_start : Carried plan (beginning plan)
  unfolding beginning fresh
  carried_start =
      record {
        phase = phase_start plan;
        desire = record { is_count = sym (ladder_of plan.terms.growth sound.terms.responsive).starts; at_most = omega arith };
        stack = stacked_none plan.terms.growth;
        balance = balance_start plan;
        pace = paced_start plan;
      }

  carried_noted : (h : History) (note : Note) → Carried plan h → Carried plan (history_noted note h)
  carried_noted h note c =
      record {
        phase = phase_noted h note c.phase;
        desire = c.desire;
        stack = c.stack;
        balance = record { covered = c.balance.covered; paid = c.balance.paid };
        pace = record { counted = c.pace.counted; used = c.pace.used };
      }

  carried_granted : (g : ℕ) (h : History) → GrantAccepted g h.state → Carried plan h → Carried plan (history_grant g h)
  unfolding history_grant grant
  carried_granted g h asked c =
      record {
        phase = phase_granted g h asked;
        desire = c.desire;
        stack = c.stack;
        balance = balance_granted plan h.state h.closed_quanta _ c.balance g asked.idle_quantum;
        pace = paced_granted plan h.state h.closed_quanta c.pace g asked.idle_quantum;
      }

  still_open : (calls : List Call) (choices : List ℕ) → TickAccepted choices (run plan calls).state → Phase (run plan calls) →
      Phase (history_ticked plan choices (run plan calls))
  still_open calls choices asked = phase_ticked plan choices (run plan calls) asked (tick_progress sound calls choices asked)

  carried_ticked : (calls : List Call) (choices : List ℕ) → TickAccepted choices (run plan calls).state →
      Carried plan (run plan calls) → Carried plan (history_ticked plan choices (run plan calls))
  unfolding ticked
  carried_ticked calls choices asked c =
      record {
        phase = still_open calls choices asked c.phase;
        desire = c.desire;
        stack = c.stack;
        balance =
            balance_ticked plan (run plan calls).state (run plan calls).closed_quanta _ c.balance _
            asked.open_quantum
            choices asked.one_each;
        pace = paced_ticked plan _ _ c.pace _ asked.open_quantum choices asked.one_each;
      }

  carried_closed : (h : History) → closes plan h.state ≡ true → Carried plan h → Carried plan (history_closed plan h)
  carried_closed h closing c =
      let here = at_end plan sound.terms h closing c.phase in
      let next = ended plan sound.terms h.state here.no_more here.used c.desire in
      record {
        phase = phase_closed plan h;
        desire = next.power;
        stack =
            rw here.verdict_is
            (stacked_end plan.terms.growth h.closed_quanta (ending plan h.state) c.desire.is_count
            h.state.execution.counts.usage _ _ refl next.end c.stack);
        balance =
            rw here.verdict_is
            (balance_closed plan h.state h.closed_quanta _ c.balance _ here.open_at_end
            (ladder_of plan.terms.growth sound.terms.responsive) _ here.no_more c.desire.is_count next.end);
        pace = rw here.verdict_is (paced_closed plan h.state h.closed_quanta c.pace _ here.open_at_end here.used);
      }

  -- after any calls; and after a tick that is accepted then
  pub carried : (calls : List Call) → Carried plan (run plan calls)
  carried =
      by_moves plan (Carried plan) carried_start carried_noted
      (λ calls g asked c. carried_granted g (run plan calls) asked c)
      carried_ticked
      carried_closed

  pub carried_tick : (calls : List Call) (choices : List ℕ) → TickAccepted choices (run plan calls).state →
      Carried plan (history_tick plan choices (run plan calls))
  carried_tick calls choices asked =
      let q = carried_ticked calls choices asked (carried calls) in
      tick_moves plan (Carried plan) choices (run plan calls) q (λ closing. carried_closed _ closing q)

  -- the quantum that a tick closes was begun with the desire and the allotment that the state still shows
  pub ends_as_recorded : (calls : List Call) → EndsAsRecorded plan (run plan calls)
  unfolding history_step history_tick tick closed
  ends_as_recorded calls choices answer closing =
      let open_still = still_open calls choices (tick_accepted choices (run plan calls).state answer) (carried calls).phase in
      let here = at_end plan sound.terms (history_ticked plan choices (run plan calls)) closing open_still in
      record { recorded = rw (answer, closing, here.verdict_is) refl; moved = rw (answer, closing) refl }
