-- How a property is carried through a list of calls, refused ones included: what holds at the beginning, does not mind another note, and is
-- kept by every accepted grant and every accepted tick from a history that is reached, holds after every list of calls (`run_keeps`); or
-- with the tick in its two parts, its cycles and, where the quantum closes with it, the quantum's end (`by_moves`). An accepted opening is
-- a withdrawal and an accepted grant, since what the offer was asked holds on while it is noted (`offer_waits`). A step of the history is a
-- step of its state.
-- Assumes nothing.
use mathlib.Core.Path.{◌≡◌, refl, sym, ap, subst, ◌∙◌}
use mathlib.Core.Bool.{Bool, true, false, cond}
use mathlib.Core.List.{List, [], ◌∷◌, ◌++◌}
use Prim.Native.Nat.{ℕ}
use native.Mathlib.Omega.{arith}
use Rattle.model.specs.Questions.{Answer, accepted, refused, by_answer}
use Rattle.model.specs.Plan.{Plan}
use Rattle.model.specs.Machine.{State, Note, no_offer, offered, with_note, fresh, grant, withdraw_offer, open_offer, tick, ticked}
use Rattle.model.specs.Machine.{closes, closed, cycles_made, Call, grants, ticks, offers, opens, withdraws, call_answer, step, moved}
use Rattle.model.specs.History.{History, none, verdict, beginning, history_grant, history_tick, history_withdraw, history_open}
use Rattle.model.specs.History.{history_moved, history_step, run, run_from}
use Rattle.laws.proofs.Accepted.{GrantAccepted, TickAccepted, grant_accepted, tick_accepted, offer_asks, open_accepted}
use Rattle.laws.proofs.Accepted.{grant_fewer, noted_withdraw, tick_note, not_idle}

-- ---- one call more

run_from_snoc : (plan : Plan) (calls : List Call) (h : History) (call : Call) →
    run_from plan h (calls ++ (call ∷ [])) ≡ history_step plan call (run_from plan h calls)
unfolding run_from
run_from_snoc plan [] h call = refl
run_from_snoc plan (c ∷ calls) h call = run_from_snoc plan calls (history_step plan c h) call

pub run_snoc : (plan : Plan) (calls : List Call) (call : Call) → run plan (calls ++ (call ∷ [])) ≡ history_step plan call (run plan calls)
unfolding run
run_snoc plan calls call = run_from_snoc plan calls (beginning plan) call

-- .. and some calls more
pub run_append : (plan : Plan) (calls more : List Call) → run plan (calls ++ more) ≡ run_from plan (run plan calls) more
unfolding run run_from
run_append plan calls more = go calls (beginning plan)
  where
    go : (first : List Call) (h : History) → run_from plan h (first ++ more) ≡ run_from plan (run_from plan h first) more
    go [] h = refl
    go (call ∷ first) h = go first (history_step plan call h)

-- the history's state makes the state's step
pub step_state : (plan : Plan) (call : Call) (h : History) → (history_step plan call h).state ≡ step plan call h.state
unfolding history_step step history_grant history_tick history_open open_offer
step_state plan call h = go (call_answer call h.state)
  where
    move : (c : Call) → (history_moved plan c h).state ≡ moved plan c h.state
    move (grants g) = refl
    move (ticks choices) = refl
    move (offers g) = refl
    move (opens c) = refl
    move withdraws = refl

    go : (a : Answer) → (by_answer a (history_moved plan call h) h).state ≡ by_answer a (moved plan call h.state) h.state
    go accepted = move call
    go (refused n) = refl

pub run_state : (plan : Plan) (calls : List Call) (call : Call) →
    (run plan (calls ++ (call ∷ []))).state ≡ step plan call (run plan calls).state
run_state plan calls call = ap (λ (h : History). h.state) (run_snoc plan calls call) ∙ step_state plan call (run plan calls)

-- ---- the tick's two parts

-- a tick's cycles, before it is asked whether the quantum closes
abbrev pub history_ticked : Plan → List ℕ → History → History
history_ticked plan choices h =
    record {
      state = ticked plan choices h.state;
      closed_quanta = h.closed_quanta;
      current = h.current;
      made = h.made ++ cycles_made plan.graph 0 choices h.state.execution;
    }

-- the quantum's end
abbrev pub history_closed : Plan → History → History
history_closed plan h =
    record {
      state = closed plan h.state;
      closed_quanta = h.closed_quanta ++ verdict plan h.current h.state.execution.counts.usage;
      current = none;
      made = h.made;
    }

pub tick_moves : (plan : Plan) (P : History → Type 0) (choices : List ℕ) (h : History) → P (history_ticked plan choices h) →
    (closes plan (ticked plan choices h.state) ≡ true → P (history_closed plan (history_ticked plan choices h))) →
    P (history_tick plan choices h)
unfolding history_tick tick
tick_moves plan P choices h open_still ended = go (closes plan (ticked plan choices h.state)) refl
  where
    go : (b : Bool) → closes plan (ticked plan choices h.state) ≡ b →
        P
        (record {
          state = cond b (closed plan (ticked plan choices h.state)) (ticked plan choices h.state);
          closed_quanta =
              cond b (h.closed_quanta ++ verdict plan h.current (ticked plan choices h.state).execution.counts.usage)
              h.closed_quanta;
          current = cond b none h.current;
          made = h.made ++ cycles_made plan.graph 0 choices h.state.execution;
        })
    go true e = ended e
    go false e = open_still

-- ---- the induction

module _ (plan : Plan) (P : History → Type 0)
    (start : P (beginning plan))
    (moving : (calls : List Call) (call : Call) → call_answer call (run plan calls).state ≡ accepted → P (run plan calls) →
    P (history_moved plan call (run plan calls)))
  where
    step_keeps : (calls : List Call) (call : Call) → P (run plan calls) → P (history_step plan call (run plan calls))
    unfolding history_step
    step_keeps calls call p = go (call_answer call (run plan calls).state) refl
      where
        go : (a : Answer) → call_answer call (run plan calls).state ≡ a →
            P (by_answer a (history_moved plan call (run plan calls)) (run plan calls))
        go accepted answer = moving calls call answer p
        go (refused n) answer = p

    onward : (done calls : List Call) → P (run plan done) → P (run_from plan (run plan done) calls)
    unfolding run_from
    onward done [] p = p
    onward done (call ∷ calls) p =
        rw (← run_snoc plan done call) (onward (done ++ call ∷ []) calls (rw run_snoc (step_keeps done call p)))

    by_calls : (calls : List Call) → P (run plan calls)
    unfolding run run_from
    by_calls calls = onward [] calls start

-- ---- the note

-- the history with another note, and else as it was
abbrev pub history_noted : Note → History → History
history_noted note h =
    record { state = with_note note h.state; closed_quanta = h.closed_quanta; current = h.current; made = h.made }

not_noted : {g : ℕ} → no_offer ≡ offered g → ⊥
not_noted p = let z : ◌≡◌ {A = ℕ} 0 1 = cc in omega arith

-- while an offer is noted nothing but an opening or a withdrawal moves the job: what a grant of the offered count was asked still holds
abbrev Waits : State → Type 0
Waits s = (g : ℕ) → s.note ≡ offered g → GrantAccepted g (withdraw_offer s)

waits_moved : (plan : Plan) (call : Call) (h : History) → call_answer call h.state ≡ accepted → Waits h.state →
    Waits (history_moved plan call h).state
unfolding history_grant history_tick history_open grant
waits_moved plan (grants n) h answer w g noted =
    absurd (not_noted (sym (grant_accepted n h.state answer).no_note ∙ noted))
waits_moved plan (ticks choices) h answer w g noted =
    let idle_now = (w g (sym (tick_note plan choices h.state) ∙ noted)).idle_quantum in
    absurd (not_idle (sym (tick_accepted choices h.state answer).open_quantum ∙ idle_now))
waits_moved plan (offers n) h answer w g noted =
    let asked = grant_accepted n h.state (offer_asks n h.state ∙ answer) in
    let same : n ≡ g = cc in
    record {
      unfinished = asked.unfinished;
      idle_quantum = asked.idle_quantum;
      more_quanta = asked.more_quanta;
      no_note = refl;
      wanted = omega (arith, asked.wanted, same);
    }
waits_moved plan (opens c) h answer w g noted = absurd (not_noted noted)
waits_moved plan withdraws h answer w g noted = absurd (not_noted noted)

pub offer_waits : (plan : Plan) (calls : List Call) → Waits (run plan calls).state
unfolding beginning fresh
offer_waits plan calls =
    by_calls plan (λ h. Waits h.state) (λ g noted. absurd (not_noted noted))
    (λ done call answer w. waits_moved plan call (run plan done) answer w)
    calls

-- a withdrawal of an offer that is noted drops the note
pub withdrawn : (plan : Plan) (calls : List Call) (g : ℕ) → (run plan calls).state.note ≡ offered g →
    run plan (calls ++ withdraws ∷ []) ≡ history_withdraw (run plan calls)
unfolding history_step
withdrawn plan calls g noted = run_snoc plan calls withdraws ∙ rw (noted_withdraw (run plan calls).state noted) refl

-- ---- the induction by what moves a history

module _ (plan : Plan) (P : History → Type 0)
    (start : P (beginning plan))
    (noting : (h : History) (note : Note) → P h → P (history_noted note h))
    (granting : (calls : List Call) (g : ℕ) → GrantAccepted g (run plan calls).state → P (run plan calls) →
    P (history_grant g (run plan calls)))
  where
    -- an opening is a withdrawal and a grant
    opening : (calls : List Call) (c : ℕ) → call_answer (opens c) (run plan calls).state ≡ accepted → P (run plan calls) →
        P (history_open c (run plan calls))
    unfolding history_open
    opening calls c answer p =
        let offer = open_accepted c (run plan calls).state answer in
        let without = withdrawn plan calls offer.0 offer.1 in
        let asked = offer_waits plan calls offer.0 offer.1 in
        subst (λ (h : History). P (history_grant c h)) without
        (granting (calls ++ withdraws ∷ []) c
        (subst (λ (h : History). GrantAccepted c h.state) (sym without) (grant_fewer _ asked c offer.2))
        (subst P (sym without) (noting (run plan calls) no_offer p)))

    module _
        (ticking : (calls : List Call) (choices : List ℕ) → TickAccepted choices (run plan calls).state → P (run plan calls) →
        P (history_tick plan choices (run plan calls)))
      where
        moves_keep : (calls : List Call) (call : Call) → call_answer call (run plan calls).state ≡ accepted → P (run plan calls) →
            P (history_moved plan call (run plan calls))
        moves_keep calls (grants g) answer p = granting calls g (grant_accepted g (run plan calls).state answer) p
        moves_keep calls (ticks choices) answer p = ticking calls choices (tick_accepted choices (run plan calls).state answer) p
        moves_keep calls (offers g) answer p = noting (run plan calls) (offered g) p
        moves_keep calls (opens c) answer p = opening calls c answer p
        moves_keep calls withdraws answer p = noting (run plan calls) no_offer p

        pub run_keeps : (calls : List Call) → P (run plan calls)
        run_keeps calls = by_calls plan P start moves_keep calls

    pub by_moves :
        ((calls : List Call) (choices : List ℕ) → TickAccepted choices (run plan calls).state → P (run plan calls) →
        P (history_ticked plan choices (run plan calls))) →
        ((h : History) → closes plan h.state ≡ true → P h → P (history_closed plan h)) → (calls : List Call) → P (run plan calls)
    by_moves cycling ending =
        run_keeps
        (λ calls choices asked p.
        let q = cycling calls choices asked p in
        tick_moves plan P choices (run plan calls) q (λ closing. ending _ closing q))
