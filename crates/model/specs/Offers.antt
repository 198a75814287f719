-- Request U5 as a statement: offer first, then open. "An offer of g meets the grant's questions and only notes g. Opening it takes a count
-- up to g and then does what a grant does; opening and withdrawing both drop the note." It is proved in the crate `laws`.
use Rattle.std.specs.Prelude.{◌≡◌, List, ℕ, ◌≤◌, ◌<◌, length}
use Rattle.model.specs.Questions.{accepted, refused}
use Rattle.model.specs.Plan.{Plan}
use Rattle.model.specs.Machine.{no_offer, offered, status, Call, grants, ticks, offers, opens, withdraws, call_answer}
use Rattle.model.specs.History.{History, history_step, run}
use Rattle.model.specs.Log.{entries, run_log}

-- nothing but the note moved: no line, orphan, tick left or count, no wanted count, no round, no status
pub record OnlyNoted (before after : History) : Type 0 where
  pub same_execution : after.state.execution ≡ before.state.execution
  pub same_wish : after.state.wish ≡ before.state.wish
  pub same_quantum : after.state.quantum ≡ before.state.quantum
  pub same_begun : after.state.begun ≡ before.state.begun
  pub same_status : status after.state ≡ status before.state
  -- .. and nothing of what only the past knows
  pub same_closed : after.closed_quanta ≡ before.closed_quanta
  pub same_current : after.current ≡ before.current
  pub same_made : after.made ≡ before.made

-- while an offer of g is noted nothing but an opening or a withdrawal can move the job
pub record WhileNoted (plan : Plan) (h : History) (g : ℕ) : Type 0 where
  -- "an offer or grant while one is noted gets 25", so that 11 to 13 are still answered by yes; and no tick is taken
  pub grants_refused : (n : ℕ) → call_answer (grants n) h.state ≡ refused 25
  pub offers_refused : (n : ℕ) → call_answer (offers n) h.state ≡ refused 25
  pub ticks_refused : (choices : List ℕ) → call_answer (ticks choices) h.state ≡ refused 15
  -- "the day log has no other": each call of a log is refused, and counted
  pub logs_refused : (log : List ℕ) → run_log plan log h.state ≡ record { state = h.state; refusals = length (entries log).calls }
  -- "an opened count above the offer gets 14", and no other is refused
  pub opens_up_to_it : (c : ℕ) → c ≤ g → call_answer (opens c) h.state ≡ accepted
  pub above_refused : (c : ℕ) → g < c → call_answer (opens c) h.state ≡ refused 14
  pub withdraws_it : call_answer withdraws h.state ≡ accepted
  -- "opening and withdrawing both drop the note", and withdrawing does nothing else
  pub opening_drops : (c : ℕ) → c ≤ g → (history_step plan (opens c) h).state.note ≡ no_offer
  pub withdrawing_drops : (history_step plan withdraws h).state.note ≡ no_offer
  pub withdrawing_only : OnlyNoted h (history_step plan withdraws h)
  -- without the note a grant of the opened count is accepted, and the opening is that grant: so it need not ask 11 to 13
  pub would_be_granted : (c : ℕ) → c ≤ g → call_answer (grants c) (history_step plan withdraws h).state ≡ accepted
  pub opens_as_grant : (c : ℕ) → c ≤ g → history_step plan (opens c) h ≡ history_step plan (grants c) (history_step plan withdraws h)

-- an offer of g that is accepted
pub record Offered (plan : Plan) (h : History) (g : ℕ) : Type 0 where
  -- it "only notes g"
  pub notes : (history_step plan (offers g) h).state.note ≡ offered g
  pub notes_only : OnlyNoted h (history_step plan (offers g) h)
  -- opened for c it is a grant of c, and the grant is accepted
  pub granted : (c : ℕ) → c ≤ g → call_answer (grants c) h.state ≡ accepted
  pub opened_is_granted : (c : ℕ) → c ≤ g →
      history_step plan (opens c) (history_step plan (offers g) h) ≡ history_step plan (grants c) h
  -- withdrawn it leaves the history as it was
  pub withdrawn_is_nothing : history_step plan withdraws (history_step plan (offers g) h) ≡ h

pub record OfferThenOpen (plan : Plan) (calls : List Call) : Type 0 where
  -- "An offer of g meets the grant's questions": it has the answer of a grant of g
  pub same_answer : (g : ℕ) → call_answer (offers g) (run plan calls).state ≡ call_answer (grants g) (run plan calls).state
  pub offer : (g : ℕ) → call_answer (offers g) (run plan calls).state ≡ accepted → Offered plan (run plan calls) g
  pub while_noted : (g : ℕ) → (run plan calls).state.note ≡ offered g → WhileNoted plan (run plan calls) g
  -- "An open or a withdrawal .. with no offer noted gets 24"
  pub opens_nothing : (run plan calls).state.note ≡ no_offer → (c : ℕ) → call_answer (opens c) (run plan calls).state ≡ refused 24
  pub withdraws_nothing : (run plan calls).state.note ≡ no_offer → call_answer withdraws (run plan calls).state ≡ refused 24
