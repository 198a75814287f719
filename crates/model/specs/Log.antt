-- Document 01, "Day log and label": the log's entries, and what running them gives.
use Rattle.std.specs.Prelude.{Bool, true, false, cond, List, [], ◌∷◌, ◌++◌, ℕ, zero, suc, ◌+◌, ◌-◌, leb, ltb, length, take, drop}
use Rattle.model.specs.Questions.{Question, Answer, accepted, refused, ask, first_no}
use Rattle.model.specs.Plan.{Plan}
use Rattle.model.specs.Machine.{State, Call, grants, ticks, offers, opens, withdraws, call_answer, step}

-- what a log's bytes give: the calls of its whole entries, and whether a broken entry ended it
pub record Entries : Type 0 where
  pub calls : List Call
  pub broken : Bool

abbrev pub entry_then : Call → Entries → Entries
entry_then call rest = record { calls = call ∷ rest.calls; broken = rest.broken }

-- how many choices an entry's first byte announces: none for a grant, "Top bit 1: a tick, number of choices in the low 7 bits"
abbrev pub choices_announced : ℕ → ℕ
choices_announced first = cond (ltb first 128) 0 (first - 128)

-- "Is the entry whole?": as many bytes after its first as it announces
abbrev pub entry_whole : ℕ → List ℕ → Bool
entry_whole first after = leb (choices_announced first) (length after)

-- "Top bit 0: a grant, count in the low 7 bits. Top bit 1: a tick, .., then one byte a choice."
abbrev pub entry_call : ℕ → List ℕ → Call
entry_call first after = cond (ltb first 128) (grants first) (ticks (take (choices_announced first) after))

-- the entries, one after the other; every entry takes a byte or more, so there are no more of them than bytes
unfoldable pub entries_up_to : ℕ → List ℕ → Entries
entries_up_to zero bytes = record { calls = []; broken = false }
entries_up_to (suc most) [] = record { calls = []; broken = false }
entries_up_to (suc most) (first ∷ after) =
    let rest = entry_then (entry_call first after) (entries_up_to most (drop (choices_announced first) after)) in
    cond (entry_whole first after) rest (record { calls = []; broken = true })

unfoldable pub entries : List ℕ → Entries
entries bytes = entries_up_to (length bytes) bytes

-- ---- written

-- the entry of a call: "a grant, count in the low 7 bits", or "a tick, number of choices in the low 7 bits, then one byte a choice". The
-- log has no other
unfoldable pub entry_bytes : Call → List ℕ
entry_bytes (grants g) = g ∷ []
entry_bytes (ticks choices) = (128 + length choices) ∷ choices
entry_bytes (offers g) = []
entry_bytes (opens c) = []
entry_bytes withdraws = []

-- the entries of some calls, one after the other
unfoldable pub written : List Call → List ℕ
written [] = []
written (call ∷ calls) = entry_bytes call ++ written calls

-- Request U13's writer appends an entry to a lent buffer, of which the first `size` bytes are written: a list of questions first, and then
-- whether the buffer has room for the entry, 20
unfoldable pub append_answer : List Question → List ℕ → List ℕ → ℕ → Answer
append_answer questions entry buffer size = first_no (questions ++ (ask (leb (size + length entry) (length buffer)) 20 ∷ []))

-- whether 7 bits can say a grant's count, 14, and the number of a tick's choices, 16
abbrev pub grant_sayable : ℕ → List Question
grant_sayable g = ask (leb g 127) 14 ∷ []

abbrev pub tick_sayable : List ℕ → List Question
tick_sayable choices = ask (leb (length choices) 127) 16 ∷ []

-- the buffer with the entry behind what is written, and else as it came
abbrev pub appended : List ℕ → List ℕ → ℕ → List ℕ
appended entry buffer size = take size buffer ++ entry ++ drop (size + length entry) buffer

-- ---- run

-- "A refused call is counted by the log, outside the record, and the next entry follows."
pub record Ran : Type 0 where
  pub state : State
  pub refusals : ℕ

abbrev pub refusals_in : Answer → ℕ
refusals_in accepted = 0
refusals_in (refused n) = 1

unfoldable pub run_calls : Plan → List Call → Ran → Ran
run_calls plan [] ran = ran
run_calls plan (call ∷ calls) ran =
    run_calls plan calls
    (record {
      state = step plan call ran.state;
      refusals = ran.refusals + refusals_in (call_answer call ran.state);
    })

-- a log run on a job: "18 returns the number with the record and the refused count after the entries before"
unfoldable pub run_log : Plan → List ℕ → State → Ran
run_log plan bytes s = run_calls plan (entries bytes).calls (record { state = s; refusals = 0 })

unfoldable pub log_answer : List ℕ → Answer
log_answer bytes = cond (entries bytes).broken (refused 18) accepted
