-- Reading on from reader to reader gives model's entries. A reader's entry is the first of model's entries from its place on, and the
-- others are those from the place of the reader past it on; so a chain of readers from the log's start hands out the calls of model's
-- entries, and ends broken where they do.
-- Assumes nothing.
use mathlib.Core.Path.{◌≡◌, refl, sym, ap, ◌∙◌}
use mathlib.Core.List.{List}
use Prim.Native.Nat.{ℕ, zero, suc, ◌-◌, ◌≤◌}
use native.Mathlib.Omega.{arith}
use lib.ListN.{length, drop, drop_of_length-le}
use denote.Ref.{Bor}
use Rattle.model.specs.Log.{Entries, entries_up_to, entries}
use Rattle.log_reader.specs.declared.LogReader.{LogReader}
use Rattle.std.specs.Prelude.{Some, None, Ok, Err}
use Rattle.log_reader.specs.Reading.{Placed, past_entry, then_entries, started, entry_here, passed, read_on}
use Rattle.log_reader.proofs.Entries.{Inside, entry_inside, entries_at}

-- model's entries from a reader's place on
abbrev pub entries_from : LogReader → Entries
entries_from r = entries (drop r.at r.log.now)

pub from_the_start : (log : Bor (List ℕ)) → entries_from (started log) ≡ entries log.now
from_the_start log = refl

-- one reader on
pub read_one : (r : LogReader) → entries_from r ≡ then_entries (entry_here r) (entries_from (passed r))
read_one r = entries_at r.log r.at

-- at a broken entry and at the end the reader past the entry is the reader itself
pub stays_at_broken : (r : LogReader) → entry_here r ≡ Err (record {}) → passed r ≡ r
stays_at_broken r e = ap (λ entry. record { log = r.log; at = past_entry r.at entry }) e

pub stays_at_end : (r : LogReader) → entry_here r ≡ Ok None → passed r ≡ r
stays_at_end r e = ap (λ entry. record { log = r.log; at = past_entry r.at entry }) e

-- a chain of readers from r, long enough for the bytes that are left: by the entry at r, where a shorter chain is known to be right
module _ (readers : ℕ) (r : LogReader)
    (shorter : (on : LogReader) → length on.log.now - on.at ≤ readers → read_on readers on ≡ entries_from on)
  where
    -- the reader past this entry
    abbrev beyond : Placed → LogReader
    beyond entry = record { log = r.log; at = past_entry r.at entry }

    chain_by : (entry : Placed) → Inside r.log.now r.at entry → length r.log.now - r.at ≤ suc readers →
        then_entries entry (read_on readers (beyond entry)) ≡ then_entries entry (entries_from (beyond entry))
    chain_by (Ok (Some entry)) inside few = ap (then_entries (Ok (Some entry))) (shorter _ (omega (arith, inside, few)))
    chain_by (Err broken) inside few = refl
    chain_by (Ok None) inside few = refl

chain_from : (readers : ℕ) (r : LogReader) → length r.log.now - r.at ≤ readers → read_on readers r ≡ entries_from r
unfolding read_on entries entries_up_to
chain_from zero r few =
    let past_all : length r.log.now ≤ r.at = omega (arith, few) in
    rw (drop_of_length-le r.log.now past_all)
chain_from (suc readers) r few =
    chain_by readers r (chain_from readers) (entry_here r) (entry_inside r.log r.at) few ∙ sym (read_one r)

-- "Entries are read one after the other from the same lent bytes": the calls that a chain of readers from the log's start hands out are
-- those of model's entries, and it ends broken where they do; every entry takes a byte or more, so a reader a byte is enough
pub reads_the_log : (log : Bor (List ℕ)) (readers : ℕ) → length log.now ≤ readers → read_on readers (started log) ≡ entries log.now
reads_the_log log readers enough = chain_from readers (started log) (omega arith)
