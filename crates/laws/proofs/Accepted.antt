-- What is known of a call when its questions let it through, of a job of which 13 refuses a call, of a job with an offer noted, and of a
-- tick by whether the quantum closes with it.
-- Assumes nothing.
use mathlib.Core.Path.{◌≡◌, refl, sym, ◌∙◌}
use mathlib.Core.Bool.{Bool, true, false, cond}
use mathlib.Core.List.{List}
use Prim.Native.Nat.{ℕ, ◌≤◌, ◌<◌}
use native.Mathlib.Omega.{arith}
use lib.Dec.{ltb}
use lib.ListN.{length}
use borrow.Author.Tests.{ltb-true, ltb-false, leb-true, eqb-true, not-true, lt-ltb, le-leb, lt-leb}
use Rattle.model.specs.Tests.{every}
use Rattle.model.specs.Questions.{accepted, refused, first_no}
use Rattle.model.specs.Plan.{Plan}
use Rattle.model.specs.Machine.{State, allotment, finished, Quantum, idle, opened, no_quantum_open, ticks_of, quantum_limit}
use Rattle.model.specs.Machine.{Note, no_offer, offered, none_noted, up_to_offer, withdraw_offer, tick, ticked, closes, closed, cycles}
use Rattle.model.specs.Machine.{grant_questions, tick_questions, open_questions, withdraw_questions}
use Rattle.model.specs.Machine.{Call, grants, ticks, offers, opens, withdraws, call_answer}
use Rattle.lists.proofs.Tests.{true_is_not_false}
use Rattle.lists.proofs.Questions.{ask_accepted, ask_passes, ask_refuses, none_refuses}

-- ---- accepted calls

pub record GrantAccepted (g : ℕ) (s : State) : Type 0 where
  pub unfinished : finished s.execution ≡ false
  pub idle_quantum : s.quantum ≡ idle
  pub more_quanta : s.begun < quantum_limit
  pub no_note : s.note ≡ no_offer
  pub wanted : g ≤ s.wish.desire

pub record TickAccepted (choices : List ℕ) (s : State) : Type 0 where
  pub unfinished : finished s.execution ≡ false
  pub open_quantum : s.quantum ≡ opened (ticks_of s.quantum)
  pub one_each : length choices ≡ allotment s
  pub below_allotment : every (λ choice. ltb choice (allotment s)) choices ≡ true

is_idle : (q : Quantum) → no_quantum_open q ≡ true → q ≡ idle
is_idle idle h = refl
is_idle (opened k) h = absurd (true_is_not_false h refl)

pub not_idle : {k : ℕ} → opened k ≡ idle → ⊥
not_idle p = let z : ◌≡◌ {A = ℕ} 0 1 = cc in omega arith

is_opened : (q : Quantum) → no_quantum_open q ≡ false → q ≡ opened (ticks_of q)
is_opened idle h = absurd (true_is_not_false refl h)
is_opened (opened k) h = refl

is_none : (n : Note) → none_noted n ≡ true → n ≡ no_offer
is_none no_offer h = refl
is_none (offered g) h = absurd (true_is_not_false h refl)

is_up_to : (n : Note) (c : ℕ) → up_to_offer c n ≡ true → (g : ℕ) × (n ≡ offered g) × (c ≤ g)
is_up_to no_offer c h = absurd (true_is_not_false h refl)
is_up_to (offered g) c h = (g, refl, leb-true c g h)

pub grant_accepted : (g : ℕ) (s : State) → call_answer (grants g) s ≡ accepted → GrantAccepted g s
unfolding call_answer grant_questions
grant_accepted g s h =
    let first = ask_accepted _ _ _ h in
    let second = ask_accepted _ _ _ first.1 in
    let third = ask_accepted _ _ _ second.1 in
    let fourth = ask_accepted _ _ _ third.1 in
    let fifth = ask_accepted _ _ _ fourth.1 in
    record {
      unfinished = not-true (finished s.execution) first.0;
      idle_quantum = is_idle s.quantum second.0;
      more_quanta = ltb-true s.begun quantum_limit third.0;
      no_note = is_none s.note fourth.0;
      wanted = leb-true g s.wish.desire fifth.0;
    }

pub grant_passes : (g : ℕ) (s : State) → GrantAccepted g s → call_answer (grants g) s ≡ accepted
unfolding call_answer grant_questions first_no
grant_passes g s asked =
    rw (
      asked.unfinished,
      asked.idle_quantum,
      lt-ltb s.begun quantum_limit asked.more_quanta,
      asked.no_note,
      le-leb g s.wish.desire asked.wanted,
    )
    refl

-- what lets a grant through lets one of fewer workers through
pub grant_fewer : {g : ℕ} (s : State) → GrantAccepted g s → (c : ℕ) → c ≤ g → GrantAccepted c s
grant_fewer s asked c l =
    record {
      unfinished = asked.unfinished;
      idle_quantum = asked.idle_quantum;
      more_quanta = asked.more_quanta;
      no_note = asked.no_note;
      wanted = omega (arith, asked.wanted, l);
    }

-- an offer is asked what a grant is asked
pub offer_asks : (g : ℕ) (s : State) → call_answer (grants g) s ≡ call_answer (offers g) s
unfolding call_answer
offer_asks g s = refl

-- an opening is of at most what is offered
pub open_accepted : (c : ℕ) (s : State) → call_answer (opens c) s ≡ accepted → (g : ℕ) × (s.note ≡ offered g) × (c ≤ g)
unfolding call_answer open_questions
open_accepted c s h = is_up_to s.note c (ask_accepted _ _ _ (ask_accepted _ _ _ h).1).0

pub tick_accepted : (choices : List ℕ) (s : State) → call_answer (ticks choices) s ≡ accepted → TickAccepted choices s
unfolding call_answer tick_questions
tick_accepted choices s h =
    let first = ask_accepted _ _ _ h in
    let second = ask_accepted _ _ _ first.1 in
    let third = ask_accepted _ _ _ second.1 in
    let fourth = ask_accepted _ _ _ third.1 in
    record {
      unfinished = not-true (finished s.execution) first.0;
      open_quantum = is_opened s.quantum (not-true (no_quantum_open s.quantum) second.0);
      one_each = eqb-true (length choices) (allotment s) third.0;
      below_allotment = fourth.0;
    }

-- ---- a call refused with 13

pub record GrantSpent (s : State) : Type 0 where
  pub idle_quantum : s.quantum ≡ idle
  pub no_more_quanta : quantum_limit ≤ s.begun

grant_spent : (g : ℕ) (s : State) → first_no (grant_questions g s) ≡ refused 13 → GrantSpent s
unfolding grant_questions
grant_spent g s h =
    let first = ask_passes _ _ _ _ (λ e. omega arith) h in
    let second = ask_passes _ _ _ _ (λ e. omega arith) first.1 in
    let third =
    ask_refuses _ _ _
    (λ answer.
    let fourth = ask_passes _ _ _ _ (λ e. omega arith) answer in
    none_refuses 13 (ask_passes _ _ _ _ (λ e. omega arith) fourth.1).1)
    second.1 in
    record { idle_quantum = is_idle s.quantum second.0; no_more_quanta = ltb-false s.begun quantum_limit third }

-- only a grant and an offer ask 13
pub call_spent : (call : Call) (s : State) → call_answer call s ≡ refused 13 → GrantSpent s
unfolding call_answer tick_questions open_questions withdraw_questions
call_spent (grants g) s h = grant_spent g s h
call_spent (offers g) s h = grant_spent g s h
call_spent (ticks choices) s h =
    let first = ask_passes _ _ _ _ (λ e. omega arith) h in
    let second = ask_passes _ _ _ _ (λ e. omega arith) first.1 in
    let third = ask_passes _ _ _ _ (λ e. omega arith) second.1 in
    absurd (none_refuses 13 (ask_passes _ _ _ _ (λ e. omega arith) third.1).1)
call_spent (opens c) s h =
    let first = ask_passes _ _ _ _ (λ e. omega arith) h in
    absurd (none_refuses 13 (ask_passes _ _ _ _ (λ e. omega arith) first.1).1)
call_spent withdraws s h = absurd (none_refuses 13 (ask_passes _ _ _ _ (λ e. omega arith) h).1)

-- ---- an offer noted

-- a grant of up to g would be accepted without the note: then each grant and offer is refused with 25, each tick with 15, and an opening
-- goes by the offer alone
module _ (s : State) {g : ℕ} (noted : s.note ≡ offered g) where
  module _ (waits : GrantAccepted g (withdraw_offer s)) where
    more : ltb s.begun quantum_limit ≡ true
    more = lt-ltb s.begun quantum_limit waits.more_quanta

    pub noted_grant : (n : ℕ) → call_answer (grants n) s ≡ refused 25
    unfolding call_answer grant_questions first_no
    noted_grant n = rw (waits.unfinished, waits.idle_quantum, more, noted) refl

    pub noted_offer : (n : ℕ) → call_answer (offers n) s ≡ refused 25
    noted_offer n = sym (offer_asks n s) ∙ noted_grant n

    pub noted_tick : (choices : List ℕ) → call_answer (ticks choices) s ≡ refused 15
    unfolding call_answer tick_questions first_no
    noted_tick choices = rw (waits.unfinished, waits.idle_quantum) refl

    pub granted_without : (c : ℕ) → c ≤ g → call_answer (grants c) (withdraw_offer s) ≡ accepted
    granted_without c l = grant_passes c (withdraw_offer s) (grant_fewer (withdraw_offer s) waits c l)

  pub noted_open : (c : ℕ) → c ≤ g → call_answer (opens c) s ≡ accepted
  unfolding call_answer open_questions first_no
  noted_open c l = rw (noted, le-leb c g l) refl

  pub noted_open_above : (c : ℕ) → g < c → call_answer (opens c) s ≡ refused 14
  unfolding call_answer open_questions first_no
  noted_open_above c l = rw (noted, lt-leb c g l) refl

  pub noted_withdraw : call_answer withdraws s ≡ accepted
  unfolding call_answer withdraw_questions first_no
  noted_withdraw = rw noted refl

-- ---- no offer noted

module _ (s : State) (none : s.note ≡ no_offer) where
  pub none_open : (c : ℕ) → call_answer (opens c) s ≡ refused 24
  unfolding call_answer open_questions first_no
  none_open c = rw none refl

  pub none_withdraw : call_answer withdraws s ≡ refused 24
  unfolding call_answer withdraw_questions first_no
  none_withdraw = rw none refl

-- ---- a tick, closing or not

module _ (plan : Plan) (choices : List ℕ) (s : State) (P : State → Type 0)
    (closing : closes plan (ticked plan choices s) ≡ true → P (closed plan (ticked plan choices s)))
    (staying : closes plan (ticked plan choices s) ≡ false → P (ticked plan choices s)) where
  pub tick_cases : P (tick plan choices s)
  unfolding tick
  tick_cases = go (closes plan (ticked plan choices s)) refl
    where
      go : (b : Bool) → closes plan (ticked plan choices s) ≡ b → P (cond b (closed plan (ticked plan choices s)) (ticked plan choices s))
      go true h = closing h
      go false h = staying h

module _ (plan : Plan) (choices : List ℕ) (s : State) where
  pub tick_execution : (tick plan choices s).execution ≡ cycles plan.graph 0 choices s.execution
  unfolding ticked closed
  tick_execution =
      tick_cases plan choices s (λ after. after.execution ≡ cycles plan.graph 0 choices s.execution) (λ h. refl) (λ h. refl)

  pub tick_started : (tick plan choices s).started ≡ s.started
  unfolding ticked closed
  tick_started = tick_cases plan choices s (λ after. after.started ≡ s.started) (λ h. refl) (λ h. refl)

  pub tick_note : (tick plan choices s).note ≡ s.note
  unfolding ticked closed
  tick_note = tick_cases plan choices s (λ after. after.note ≡ s.note) (λ h. refl) (λ h. refl)
