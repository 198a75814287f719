-- Request U5: an offer that is opened is a grant of the opened count, one that is withdrawn leaves the history as it was, and while it is
-- noted nothing but an opening or a withdrawal moves the job: a grant of up to the offered count would be accepted without the note
-- (`offer_waits` of Runs), so every grant and offer is refused with 25, every tick with 15, and an opening need not ask 11 to 13.
-- Assumes nothing.
use mathlib.Core.Path.{◌≡◌, refl, sym, ap, ◌∙◌}
use mathlib.Core.Bool.{Bool, true, false, cond}
use mathlib.Core.List.{List, [], ◌∷◌}
use Prim.Native.Nat.{ℕ, zero, suc, ◌+◌, ◌≤◌}
use native.Mathlib.Omega.{arith}
use lib.Dec.{ltb}
use lib.ListN.{length, take, drop}
use Rattle.model.specs.Questions.{accepted, refused}
use Rattle.model.specs.Plan.{Plan}
use Rattle.model.specs.Machine.{State, Note, no_offer, offered, status, grant, withdraw_offer, Call, grants, ticks, offers}
use Rattle.model.specs.Machine.{call_answer, step}
use Rattle.model.specs.History.{History, history_offer, history_grant, history_open, history_step, run}
use Rattle.model.specs.Log.{Entries, choices_announced, entry_whole, entry_call, entry_then, entries_up_to, entries, Ran, run_calls}
use Rattle.model.specs.Log.{run_log}
use Rattle.model.specs.Offers.{OnlyNoted, WhileNoted, Offered, OfferThenOpen}
use Rattle.laws.proofs.Accepted.{GrantAccepted, grant_accepted, grant_passes, grant_fewer, offer_asks, noted_grant, noted_offer}
use Rattle.laws.proofs.Accepted.{noted_tick, granted_without, noted_open, noted_open_above, noted_withdraw, none_open, none_withdraw}
use Rattle.laws.proofs.Runs.{history_noted, offer_waits}

-- ---- another note

noted_only : (h : History) (note : Note) → OnlyNoted h (history_noted note h)
unfolding status
noted_only h note =
    record {
      same_execution = refl;
      same_wish = refl;
      same_quantum = refl;
      same_begun = refl;
      same_status = refl;
      same_closed = refl;
      same_current = refl;
      same_made = refl;
    }

-- ---- a log

module _ (plan : Plan) (s : State) {g : ℕ} (noted : s.note ≡ offered g) (waits : GrantAccepted g (withdraw_offer s)) where
  -- a grant and a tick are all that an entry can be
  entry_refused : (first : ℕ) (after : List ℕ) → (n : ℕ) × (call_answer (entry_call first after) s ≡ refused n)
  entry_refused first after = go (ltb first 128)
    where
      go : (b : Bool) →
          (n : ℕ) × (call_answer (cond b (grants first) (ticks (take (choices_announced first) after))) s ≡ refused n)
      go true = (25, noted_grant s noted waits first)
      go false = (15, noted_tick s noted waits (take (choices_announced first) after))

  abbrev after_refusals : ℕ → Ran
  after_refusals k = record { state = s; refusals = k }

  -- after k refusals these entries are refused, too
  abbrev LogRefused : Entries → ℕ → Type 0
  LogRefused read k = run_calls plan read.calls (after_refusals k) ≡ after_refusals (k + length read.calls)

  -- a refused call is counted, and the others follow
  one_refused : (call : Call) (calls : List Call) (k n : ℕ) → call_answer call s ≡ refused n →
      run_calls plan (call ∷ calls) (after_refusals k) ≡ run_calls plan calls (after_refusals (k + 1))
  unfolding run_calls step
  one_refused call calls k n is = rw is refl

  -- an entry is refused, and then the others are
  entry_then_others : (first : ℕ) (after : List ℕ) (others : Entries) (k : ℕ) → LogRefused others (k + 1) → (b : Bool) →
      LogRefused (cond b (entry_then (entry_call first after) others) (record { calls = []; broken = true })) k
  unfolding run_calls
  entry_then_others first after others k onward true =
      one_refused (entry_call first after) others.calls k _ (entry_refused first after).1 ∙ onward ∙ ap after_refusals (omega arith)
  entry_then_others first after others k onward false = ap after_refusals (omega arith)

  all_refused : (most : ℕ) (log : List ℕ) (k : ℕ) → LogRefused (entries_up_to most log) k
  unfolding run_calls entries_up_to
  all_refused zero log k = ap after_refusals (omega arith)
  all_refused (suc most) [] k = ap after_refusals (omega arith)
  all_refused (suc most) (first ∷ after) k =
      let others = drop (choices_announced first) after in
      entry_then_others first after (entries_up_to most others) k (all_refused most others (k + 1)) (entry_whole first after)

  log_refused : (log : List ℕ) → run_log plan log s ≡ after_refusals (length (entries log).calls)
  unfolding run_log entries
  log_refused log = all_refused (length log) log 0 ∙ ap after_refusals (omega arith)

-- ---- while an offer is noted

while_noted : (plan : Plan) (h : History) (g : ℕ) → h.state.note ≡ offered g → GrantAccepted g (withdraw_offer h.state) →
    WhileNoted plan h g
unfolding history_step history_open history_grant grant
while_noted plan h g noted waits =
    record {
      grants_refused = noted_grant h.state noted waits;
      offers_refused = noted_offer h.state noted waits;
      ticks_refused = noted_tick h.state noted waits;
      logs_refused = log_refused plan h.state noted waits;
      opens_up_to_it = noted_open h.state noted;
      above_refused = noted_open_above h.state noted;
      withdraws_it = noted_withdraw h.state noted;
      opening_drops = λ c l. rw (noted_open h.state noted c l) refl;
      withdrawing_drops = rw (noted_withdraw h.state noted) refl;
      withdrawing_only = rw (noted_withdraw h.state noted) (noted_only h no_offer);
      would_be_granted = λ c l. rw (noted_withdraw h.state noted) (granted_without h.state noted waits c l);
      opens_as_grant = λ c l.
          rw (noted_withdraw h.state noted, noted_open h.state noted c l, granted_without h.state noted waits c l) refl;
    }

-- ---- an offer that is accepted

module _ (plan : Plan) (h : History) (g : ℕ) (answer : call_answer (offers g) h.state ≡ accepted) where
  asked : GrantAccepted g h.state
  asked = grant_accepted g h.state (offer_asks g h.state ∙ answer)

  granted : (c : ℕ) → c ≤ g → call_answer (grants c) h.state ≡ accepted
  granted c l = grant_passes c h.state (grant_fewer h.state asked c l)

  offer_then : Offered plan h g
  unfolding history_step history_open
  offer_then =
      record {
        notes = rw answer refl;
        notes_only = rw answer (noted_only h (offered g));
        granted = granted;
        opened_is_granted = λ c l.
            rw (answer, noted_open (history_offer g h).state refl c l, granted c l)
            (ap (λ (n : Note). history_grant c (history_noted n h)) (sym asked.no_note));
        withdrawn_is_nothing =
            rw (answer, noted_withdraw (history_offer g h).state refl)
            (ap (λ (n : Note). history_noted n h) (sym asked.no_note));
      }

-- ---- a list of calls

pub offer_then_open : (plan : Plan) (calls : List Call) → OfferThenOpen plan calls
offer_then_open plan calls =
    record {
      same_answer = λ g. sym (offer_asks g (run plan calls).state);
      offer = λ g answer. offer_then plan (run plan calls) g answer;
      while_noted = λ g noted. while_noted plan (run plan calls) g noted (offer_waits plan calls g noted);
      opens_nothing = λ none c. none_open (run plan calls).state none c;
      withdraws_nothing = λ none. none_withdraw (run plan calls).state none;
    }
