-- The entry at a place of a log, as the code hands it out; the place past it; and a reader, which goes from entry to entry.
use Rattle.std.specs.Prelude.{◌≡◌, true, false, cond, List, [], ℕ, zero, suc, ◌+◌, ◌-◌, ltb, leb, length, get_or, take, drop}
use Rattle.std.specs.Prelude.{Option, Some, None, Result, Ok, Err}
use Rattle.std.specs.Borrow.{Bor}
use Rattle.model.specs.Machine.{Call, grants, ticks}
use Rattle.model.specs.Log.{Entries, entry_then}
use Rattle.log_reader.specs.declared.Entry.{Entry}
use Rattle.log_reader.specs.declared.Entry.TheVariants.{Grant, Tick}
use Rattle.log_reader.specs.declared.BrokenEntry.{BrokenEntry}
use Rattle.log_reader.specs.declared.LogReader.{LogReader}

-- the paper's number: "Is the entry whole? 18"
abbrev pub broken_number : BrokenEntry → ℕ
broken_number broken = 18

-- what stands at a place: an entry, one that is not whole, or nothing more
abbrev pub Placed : Type 0
Placed = Result (Option Entry) BrokenEntry

-- so many of the lent bytes themselves, from a place on
abbrev pub lent_part : Bor (List ℕ) → ℕ → ℕ → Bor (List ℕ)
lent_part log start count =
    record { ref_ptr = (log.ref_ptr.0, log.ref_ptr.1 + start); now = take count (drop start log.now) }

-- the entry that a first byte begins, with so many bytes after it; `start` is the place of the byte after the first
abbrev pub begun_by : Bor (List ℕ) → ℕ → ℕ → ℕ → Placed
begun_by log byte start left =
    cond (ltb byte 128) (Ok (Some (Grant byte)))
    (cond (leb (byte - 128) left) (Ok (Some (Tick (lent_part log start (byte - 128))))) (Err (record {})))

unfoldable pub entry_of : Bor (List ℕ) → ℕ → Placed
entry_of log at =
    cond (ltb at (length log.now)) (begun_by log (get_or log.now at 0) (at + 1) (length log.now - (at + 1))) (Ok None)

-- the place past an entry that stands at `at`: past a grant's byte; past a tick's choices; a broken entry and the log's end are not passed
abbrev pub past_entry : ℕ → Placed → ℕ
past_entry at (Ok (Some (Grant g))) = at + 1
past_entry at (Ok (Some (Tick choices))) = at + 1 + length choices.now
past_entry at (Err broken) = at
past_entry at (Ok None) = at

-- the place past the entry at a place
abbrev pub past : Bor (List ℕ) → ℕ → ℕ
past log at = past_entry at (entry_of log at)

-- the call that an entry is
abbrev pub call_of : Entry → Call
call_of (Grant g) = grants g
call_of (Tick choices) = ticks choices.now

-- what an entry is of model's entries: a call, and then the entries after it; or the end, broken or not
abbrev pub then_entries : Placed → Entries → Entries
then_entries (Ok (Some entry)) after = entry_then (call_of entry) after
then_entries (Err broken) after = record { calls = []; broken = true }
then_entries (Ok None) after = record { calls = []; broken = false }

-- ---- a reader: lent bytes and a place

-- at the start of a log
abbrev pub started : Bor (List ℕ) → LogReader
started log = record { log = log; at = 0 }

-- the entry at its place
abbrev pub entry_here : LogReader → Placed
entry_here r = entry_of r.log r.at

-- the same lent bytes, and the place past that entry
abbrev pub passed : LogReader → LogReader
passed r = record { log = r.log; at = past r.log r.at }

-- one call: the entry at the reader's place, and the reader past it
pub record Reads (r : LogReader) (entry : Placed) (r' : LogReader) : Type 0 where
  pub read : entry ≡ entry_here r
  pub left : r' ≡ passed r

-- what a chain of so many readers hands out, each past the entry of the one before: calls, up to the reader that finds a broken entry
-- or the end
unfoldable pub read_on : ℕ → LogReader → Entries
read_on zero r = record { calls = []; broken = false }
read_on (suc more) r = then_entries (entry_here r) (read_on more (passed r))
