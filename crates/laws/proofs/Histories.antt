-- What holds after any list of calls, refused ones included: where the tasks stand (`arranged`).
-- Assumes nothing.
use mathlib.Core.Path.{◌≡◌, refl, sym, ap, ◌∙◌}
use mathlib.Core.Bool.{Bool, true, false}
use mathlib.Core.List.{List, [], ◌∷◌}
use Prim.Native.Nat.{ℕ, zero, suc, ◌≤◌}
use native.Mathlib.Omega.{arith}
use lib.ListN.{length}
use borrow.Author.Tests.{ne_eqb}
use Rattle.model.specs.Tests.{total}
use Rattle.model.specs.Plan.{Plan, tasks}
use Rattle.model.specs.Machine.{worked, Execution, State, allotment, fresh, grant, cycles, cycles_made, tick}
use Rattle.model.specs.Machine.{Call}
use Rattle.model.specs.History.{beginning, history_grant, history_tick}
use Rattle.model.specs.History.{run}
use Rattle.model.specs.Statements.{SoundPlan}
use Rattle.laws.specs.Invariants.{Placed, Tallied}
use Rattle.laws.specs.Reached.{Unstarted, Arranged}
use Rattle.lists.proofs.Tests.{true_is_not_false}
use Rattle.lists.proofs.Sums.{zeros_length}
use Rattle.laws.proofs.Placement.{cycles_placed, cycles_tallied}
use Rattle.laws.proofs.Grants.{grant_placed, first_grant_placed}
use Rattle.laws.proofs.Grants.{no_grant_unstarted}
use Rattle.laws.proofs.Accepted.{TickAccepted, tick_execution, tick_started}
use Rattle.laws.proofs.Runs.{run_keeps}

-- ---- where the tasks stand

-- with no worker a tick does nothing
pub unstarted_cycles : {plan : Plan} (e : Execution) → Unstarted plan e → (choices : List ℕ) → length choices ≡ length e.deques →
    (cycles plan.graph 0 choices e ≡ e) × (cycles_made plan.graph 0 choices e ≡ [])
unfolding cycles cycles_made
unstarted_cycles e u [] h = (refl, refl)
unstarted_cycles e u (c ∷ choices) h = let z : ◌≡◌ {A = ℕ} (length e.deques) 0 = ap length u.no_deques in absurd (omega arith)

module _ {plan : Plan} (sound : SoundPlan plan) where
  pub fresh_arranged : Arranged plan (fresh plan)
  unfolding fresh
  fresh_arranged =
      record {
        before = λ h. record { none_begun = refl; no_deques = refl; no_muggable = refl };
        after = λ h. absurd (true_is_not_false h refl);
        tally = record { work_is_ticks = omega arith };
      }

  module _ (s : State) (a : Arranged plan s) where
    still_unstarted : (g : ℕ) → (grant g s).started ≡ false → Unstarted plan (grant g s).execution
    unfolding grant
    still_unstarted zero h = no_grant_unstarted s h (a.before h)
    still_unstarted (suc n) h = absurd (true_is_not_false refl (rw (ne_eqb (suc n) 0 (omega arith)) at h))

    then_placed : (g : ℕ) → (grant g s).started ≡ true → Placed plan.graph (grant g s).execution
    unfolding grant
    then_placed zero h = grant_placed s h 0 (a.after h)
    then_placed (suc n) h = go s.started refl
      where
        go : (b : Bool) → s.started ≡ b → Placed plan.graph (grant (suc n) s).execution
        go true on = grant_placed s on (suc n) (a.after on)
        go false off = first_grant_placed s off (a.before off) sound (suc n) (omega arith)

    pub grant_arranged : (g : ℕ) → Arranged plan (grant g s)
    grant_arranged g =
        record {
          before = still_unstarted g;
          after = then_placed g;
          tally = unfold grant in record { work_is_ticks = a.tally.work_is_ticks };
        }

    pub tick_arranged : (choices : List ℕ) → TickAccepted choices s → Arranged plan (tick plan choices s)
    tick_arranged choices t =
        record {
          before = λ h.
              let off = sym (tick_started plan choices s) ∙ h in
              rw (tick_execution plan choices s, (unstarted_cycles s.execution (a.before off) choices t.one_each).0)
              (a.before off);
          after = λ h.
              let on = sym (tick_started plan choices s) ∙ h in
              rw (tick_execution plan choices s) (cycles_placed sound.graph (a.after on) 0 choices (omega (arith, t.one_each)));
          tally = rw (tick_execution plan choices s) (go s.started refl);
        }
      where
        go : (b : Bool) → s.started ≡ b → Tallied plan.durations (cycles plan.graph 0 choices s.execution)
        go true on = cycles_tallied sound.graph (a.after on) a.tally 0 choices (omega (arith, t.one_each))
        go false off = rw (unstarted_cycles s.execution (a.before off) choices t.one_each).0 a.tally

  pub arranged : (calls : List Call) → Arranged plan (run plan calls).state
  unfolding beginning history_grant history_tick
  arranged calls =
      run_keeps plan (λ h. Arranged plan h.state)
      fresh_arranged
      (λ h note a. record { before = a.before; after = a.after; tally = a.tally })
      (λ done g t a. grant_arranged (run plan done).state a g)
      (λ done choices t a. tick_arranged (run plan done).state a choices t)
      calls

module _ {plan : Plan} {s : State} (a : Arranged plan s) where
  -- a job with a granted worker has started
  pub workers_started : 1 ≤ allotment s → s.started ≡ true
  workers_started h = go s.started refl
    where
      go : (b : Bool) → s.started ≡ b → s.started ≡ true
      go true on = on
      go false off = let z : allotment s ≡ 0 = ap length (a.before off).no_deques in absurd (omega arith)

  pub workers_placed : 1 ≤ allotment s → Placed plan.graph s.execution
  workers_placed h = a.after (workers_started h)

  -- started or not, there are ticks left, and a flag, for each task
  pub left_length : SoundPlan plan → length s.execution.left ≡ tasks plan.graph
  left_length sound = go s.started refl
    where
      go : (b : Bool) → s.started ≡ b → length s.execution.left ≡ tasks plan.graph
      go true on = (a.after on).each_left
      go false off = ap length (a.before off).none_begun ∙ sound.each_lasts

  pub flags_length : SoundPlan plan → length (worked s.execution) ≡ tasks plan.graph
  flags_length sound = zeros_length s.execution.left ∙ left_length sound

  pub work_at_most : s.execution.counts.works.work ≤ total plan.durations
  work_at_most = omega (arith, a.tally.work_is_ticks)
