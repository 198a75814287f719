-- `digits::put_long` meets its contract: the digits of the hundreds are put, whichever way, and then the last two. Assumes nothing.
use native.Mathlib.Omega.{arith}
use Prim.Native.Nat.{◌/◌}
use Rattle.digits.specs.Spelling.{Spells}
use Rattle.digits.proofs.Spelling.{more_count, spells_length, spells_more}
use Rattle.digits.proofs.+put_long.Goals as goal
use Rattle.digits.proofs.+put_long.Goals.{then-hundreds-lt100, else-hundreds-lt100}

pub put_short-next-requires-clause-room : goal.put_short-next-requires-clause-room
put_short-next-requires-clause-room t c =
    omega (arith, more_count c.args.n c.requires.from_100)

pub put_long-next-requires : goal.put_long-next-requires
put_long-next-requires t c =
    (omega arith, (omega arith, omega (arith, more_count c.args.n c.requires.from_100)))

pub put_pair-requires-clause-room : goal.put_pair-requires-clause-room
put_pair-requires-clause-room t c =
    let joined : Spells (c.args.n / 100) c.args.at c.args.buffer.now c.if-hundreds-lt100.buffer c.if-hundreds-lt100.next =
    elim c.if-hundreds-lt100.branch [
      | then-hundreds-lt100 w ↦ rw (w.buffer-is, w.next-is) w.put_short-next.ensures
      | else-hundreds-lt100 w ↦ rw (w.buffer-is, w.next-is) w.put_long-next.ensures
    ] in
    omega (arith, joined.after, spells_length _ _ _ joined, more_count c.args.n c.requires.from_100)

pub overflow_add-result : goal.overflow_add-result
overflow_add-result t c =
    let joined : Spells (c.args.n / 100) c.args.at c.args.buffer.now c.if-hundreds-lt100.buffer c.if-hundreds-lt100.next =
    elim c.if-hundreds-lt100.branch [
      | then-hundreds-lt100 w ↦ rw (w.buffer-is, w.next-is) w.put_short-next.ensures
      | else-hundreds-lt100 w ↦ rw (w.buffer-is, w.next-is) w.put_long-next.ensures
    ] in
    omega (arith, joined.after, more_count c.args.n c.requires.from_100)

pub returns : goal.returns
returns t c =
    let joined : Spells (c.args.n / 100) c.args.at c.args.buffer.now c.if-hundreds-lt100.buffer c.if-hundreds-lt100.next =
    elim c.if-hundreds-lt100.branch [
      | then-hundreds-lt100 w ↦ rw (w.buffer-is, w.next-is) w.put_short-next.ensures
      | else-hundreds-lt100 w ↦ rw (w.buffer-is, w.next-is) w.put_long-next.ensures
    ] in
    rw c.put_pair.ensures (spells_more _ _ _ c.requires.from_100 joined)
