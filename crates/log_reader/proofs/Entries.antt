-- The entry at a place of a log is the first of model's entries from that place on, and the others are those from the place past it.
-- Assumes nothing.
use mathlib.Core.Path.{◌≡◌, refl, ap, ◌∙◌}
use mathlib.Core.Bool.{Bool, true, false, cond}
use mathlib.Core.List.{List, [], ◌∷◌}
use Prim.Native.Nat.{ℕ, zero, suc, ◌+◌, ◌-◌, ◌≤◌, ◌<◌}
use native.Mathlib.Numerals.{add-one}
use native.Mathlib.Omega.{arith}
use denote.Ref.{Bor}
use lib.Dec.{ltb, leb}
use lib.ListN.{length, get_or, take, drop, length-drop, drop_of_length-le}
use lib.Seq.{drop-cons, drop-drop, length-take-le}
use borrow.Author.Tests.{ltb-true, ltb-false, leb-true, le-leb}
use Rattle.std.specs.Prelude.{Some, None, Ok, Err}
use Rattle.model.specs.Log.{Entries, entry_then, choices_announced, entry_whole, entry_call, entries_up_to, entries}
use Rattle.model.specs.Machine.{ticks}
use Rattle.log_reader.specs.declared.Entry.{Entry}
use Rattle.log_reader.specs.declared.Entry.TheVariants.{Grant, Tick}
use Rattle.log_reader.specs.declared.LogReader.{LogReader}
use Rattle.log_reader.specs.Reading.{Placed, lent_part, begun_by, entry_of, past_entry, past, then_entries, Reads}

-- ---- the bound on the number of entries does not matter

-- any two bounds that the length does not exceed
same_entries : (most other : ℕ) (bytes : List ℕ) → length bytes ≤ most → length bytes ≤ other →
    entries_up_to most bytes ≡ entries_up_to other bytes
unfolding entries_up_to
same_entries zero zero bytes h k = refl
same_entries zero (suc other) [] h k = refl
same_entries zero (suc other) (first ∷ after) h k = absurd (omega arith)
same_entries (suc most) zero [] h k = refl
same_entries (suc most) zero (first ∷ after) h k = absurd (omega arith)
same_entries (suc most) (suc other) [] h k = refl
same_entries (suc most) (suc other) (first ∷ after) h k =
    ap (λ rest. cond (entry_whole first after) (entry_then (entry_call first after) rest) (record { calls = []; broken = true }))
    (same_entries most other (drop (choices_announced first) after) (rw length-drop (omega arith)) (rw length-drop (omega arith)))

-- the entries of a byte and those after it, without a bound
pub entries_cons : (first : ℕ) (after : List ℕ) →
    entries (first ∷ after)
    ≡ cond (entry_whole first after) (entry_then (entry_call first after) (entries (drop (choices_announced first) after)))
    (record { calls = []; broken = true })
unfolding entries entries_up_to
entries_cons first after =
    ap (λ rest. cond (entry_whole first after) (entry_then (entry_call first after) rest) (record { calls = []; broken = true }))
    (same_entries (length after) (length (drop (choices_announced first) after)) (drop (choices_announced first) after)
    (rw length-drop (omega arith)) (omega arith))

-- ---- the entry at a place

-- an entry that stands at `at`, with the entries from the place past it
abbrev pub from_here : List ℕ → ℕ → Placed → Entries
from_here log at entry = then_entries entry (entries (drop (past_entry at entry) log))

-- by the first byte's top bit and by whether so many choices are there
module _ (log : Bor (List ℕ)) (at byte : ℕ) where
  abbrev after : List ℕ
  after = drop (at + 1) log.now

  tick_begun : (whole : Bool) → leb (byte - 128) (length log.now - (at + 1)) ≡ whole →
      cond whole (entry_then (ticks (take (byte - 128) after)) (entries (drop (byte - 128) after))) (record { calls = []; broken = true })
      ≡ from_here log.now at (cond whole (Ok (Some (Tick (lent_part log (at + 1) (byte - 128))))) (Err (record {})))
  tick_begun true e =
      let there = leb-true (byte - 128) (length log.now - (at + 1)) e in
      let long : length (take (byte - 128) after) ≡ byte - 128 =
      length-take-le (byte - 128) after (omega (arith, there, length-drop (at + 1) log.now)) in
      rw (long, drop-drop)
  tick_begun false e = refl

  begun : (is_grant : Bool) → ltb byte 128 ≡ is_grant →
      cond (entry_whole byte after) (entry_then (entry_call byte after) (entries (drop (choices_announced byte) after)))
      (record { calls = []; broken = true })
      ≡ from_here log.now at (begun_by log byte (at + 1) (length log.now - (at + 1)))
  begun true e = rw (e, le-leb 0 (length after) (omega arith))
  begun false e = rw (e, length-drop) (tick_begun (leb (byte - 128) (length log.now - (at + 1))) refl)

first_byte : (log : List ℕ) (at : ℕ) → at < length log → drop at log ≡ get_or log at 0 ∷ drop (at + 1) log
first_byte log at h = rw (add-one, drop-cons log at 0)

-- by whether there is a byte
at_place : (log : Bor (List ℕ)) (at : ℕ) (more : Bool) → ltb at (length log.now) ≡ more →
    entries (drop at log.now)
    ≡ from_here log.now at (cond more (begun_by log (get_or log.now at 0) (at + 1) (length log.now - (at + 1))) (Ok None))
unfolding entries entries_up_to
at_place log at true e =
    ap entries (first_byte log.now at (ltb-true at (length log.now) e))
    ∙ entries_cons (get_or log.now at 0) (drop (at + 1) log.now)
    ∙ begun log at (get_or log.now at 0) (ltb (get_or log.now at 0) 128) refl
at_place log at false e = rw (drop_of_length-le log.now (ltb-false at (length log.now) e))

-- model's entries from a place on are the entry there, and then model's entries from the place past it on
pub entries_at : (log : Bor (List ℕ)) (at : ℕ) →
    entries (drop at log.now) ≡ then_entries (entry_of log at) (entries (drop (past log at) log.now))
unfolding entry_of
entries_at log at = at_place log at (ltb at (length log.now)) refl

-- ---- where the next entry stands

-- a call's entry is inside the log
abbrev pub Inside : List ℕ → ℕ → Placed → Type 0
Inside log at (Ok (Some entry)) = (at < past_entry at (Ok (Some entry))) × (past_entry at (Ok (Some entry)) ≤ length log)
Inside log at (Err broken) = Unit
Inside log at (Ok None) = Unit

begun_inside : (log : Bor (List ℕ)) (at byte : ℕ) (is_grant whole : Bool) → at < length log.now →
    leb (byte - 128) (length log.now - (at + 1)) ≡ whole →
    Inside log.now at
    (cond is_grant (Ok (Some (Grant byte)))
    (cond whole (Ok (Some (Tick (lent_part log (at + 1) (byte - 128))))) (Err (record {}))))
begun_inside log at byte true whole h e = (omega arith, omega (arith, h))
begun_inside log at byte false true h e =
    let there = leb-true (byte - 128) (length log.now - (at + 1)) e in
    let long : length (take (byte - 128) (drop (at + 1) log.now)) ≡ byte - 128 =
    length-take-le (byte - 128) (drop (at + 1) log.now) (omega (arith, there, length-drop (at + 1) log.now)) in
    (omega arith, omega (arith, there, long, h))
begun_inside log at byte false false h e = tt

place_inside : (log : Bor (List ℕ)) (at : ℕ) (more : Bool) → ltb at (length log.now) ≡ more →
    Inside log.now at (cond more (begun_by log (get_or log.now at 0) (at + 1) (length log.now - (at + 1))) (Ok None))
place_inside log at true e =
    begun_inside log at (get_or log.now at 0) (ltb (get_or log.now at 0) 128) _ (ltb-true at (length log.now) e) refl
place_inside log at false e = tt

pub entry_inside : (log : Bor (List ℕ)) (at : ℕ) → Inside log.now at (entry_of log at)
unfolding entry_of
entry_inside log at = place_inside log at (ltb at (length log.now)) refl

-- ---- an entry that was read

module _ {r r' : LogReader} {placed : Placed} (step : Reads r placed r') where
  pub same_log : r'.log ≡ r.log
  same_log = ap (λ (x : LogReader). x.log) step.left

  here : entry_of r.log r.at ≡ placed
  here = rw step.read refl

  place : r'.at ≡ past_entry r.at placed
  place = ap (λ (x : LogReader). x.at) step.left ∙ ap (past_entry r.at) here

  -- the entries from the reader on are those of the entry, with those from the reader past it on
  pub entries_read : entries (drop r.at r.log.now) ≡ then_entries placed (entries (drop r'.at r.log.now))
  entries_read = entries_at r.log r.at ∙ (rw (here, ← place) refl)

-- a call's entry is inside the log
pub call_inside : {r r' : LogReader} {entry : Entry} → Reads r (Ok (Some entry)) r' → (r.at < r'.at) × (r'.at ≤ length r.log.now)
call_inside {r} step = rw (place step) (rw (here step) at (entry_inside r.log r.at))
