-- `LogReader::next_entry` meets its contract: at each `return` the tests that led there say which case of `entry_of` holds.
-- Assumes nothing.
use Rattle.std.proofs.Common.{◌≡◌, ◌+◌, ◌-◌, ◌<◌, ◌≤◌, List, ℕ, Some, None, Ok, Err, false, ltb, length, get_or, drop, length-drop}
use Rattle.std.proofs.Common.{Bor, refl, ap, ◌∙◌, arith}
use Rattle.std.proofs.lemmas.List.{length-take-le}
use borrow.Rule.Slice.PartAt.{sl_partˢ}
use borrow.Author.Tests.{le-ltb, lt-ltb, le-leb, lt-leb}
use Rattle.log_reader.specs.declared.Entry.TheVariants.{Grant, Tick}
use Rattle.log_reader.specs.declared.LogReader.{LogReader}
use Rattle.log_reader.specs.Reading.{Placed, Reads, entry_of, entry_here, past_entry, lent_part}
use Rattle.log_reader.proofs.LogReader.next_entry.Goals as goal

-- an entry, and the place past it
reads : (r : LogReader) (placed : Placed) → placed ≡ entry_here r →
    Reads r placed (record { log = r.log; at = past_entry r.at placed })
reads r placed is = record { read = is; left = rw (← is) refl }

module _ (r : LogReader) (byte : ℕ) (here : r.at < length r.log.now) (is : byte ≡ get_or r.log.now r.at 0) where
  grant : byte < 128 → Reads r (Ok (Some (Grant byte))) (record { log = r.log; at = r.at + 1 })
  unfolding entry_of
  grant low = reads r _ (rw (← is, lt-ltb r.at (length r.log.now) here, lt-ltb byte 128 low) refl)

  broken : 128 ≤ byte → length r.log.now - (r.at + 1) < byte - 128 → Reads r (Err (record {})) r
  unfolding entry_of
  broken high short =
      reads r (Err (record {}))
      (rw (← is, lt-ltb r.at (length r.log.now) here, le-ltb byte 128 high, lt-leb (byte - 128) (length r.log.now - (r.at + 1)) short) refl)

  tick : 128 ≤ byte → byte - 128 ≤ length r.log.now - (r.at + 1) → (count : ℕ) → count ≡ byte - 128 → (choices : Bor (List ℕ)) →
      choices ≡ lent_part r.log (r.at + 1) count →
      Reads r (Ok (Some (Tick choices))) (record { log = r.log; at = r.at + 1 + count })
  unfolding entry_of
  tick high fits count counted choices lent =
      let long : length choices.now ≡ count =
      ap (λ (b : Bor (List ℕ)). length b.now) lent
      ∙ length-take-le count (drop (r.at + 1) r.log.now) (omega (arith, fits, counted, length-drop (r.at + 1) r.log.now)) in
      let read : Ok (Some (Tick choices)) ≡ entry_here r =
      rw (
        lent,
        counted,
        ← is,
        lt-ltb r.at (length r.log.now) here,
        le-ltb byte 128 high,
        le-leb (byte - 128)
            (length r.log.now - (r.at + 1)) fits,
      )
      refl in
      rw long at (reads r (Ok (Some (Tick choices))) read)

-- a part of a slice, as the checker writes it
part : (log : Bor (List ℕ)) (start count : ℕ) →
    sl_partˢ log (start + log.ref_ptr.1) start (start + count) ≡ lent_part log start count
part log start count =
    let same : start + count - start ≡ count = omega arith in
    let there : start + log.ref_ptr.1 ≡ log.ref_ptr.1 + start = omega arith in
    rw (same, there) refl

-- past the log's end there is nothing
none : (r : LogReader) → false ≡ ltb r.at (length r.log.now) → Reads r (Ok None) r
unfolding entry_of
none r past = reads r (Ok None) (rw (← past) refl)

pub returns-in_default : goal.returns-in_default
returns-in_default c = none c.args.self.now c.in_default.ensures.lookup.0

pub returns-then-byte-lt128 : goal.returns-then-byte-lt128
returns-then-byte-lt128 c =
    let h = c.in-Some.ensures.lookup.3 in
    grant c.args.self.now _ h.0 (h.1 0) c.if-byte-lt128.true

pub returns-then-count-log : goal.returns-then-count-log
returns-then-count-log c =
    let h = c.in-Some.ensures.lookup.3 in
    broken c.args.self.now _ h.0 (h.1 0) c.if-byte-lt128.false (omega (arith, c.if-count-log.true, c.from-count.ensures))

pub returns : goal.returns
returns c =
    let h = c.in-Some.ensures.lookup.3 in
    tick c.args.self.now _ h.0 (h.1 0) c.if-byte-lt128.false (omega (arith, c.if-count-log.false, c.from-count.ensures))
    _ c.from-count.ensures _ (part c.args.self.now.log (c.args.self.now.at + 1) c.from-count.result)
