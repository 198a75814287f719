-- `counters::put_numbers` meets its contract: the ten fields, each put where the one before it ends, are the line. Assumes nothing.
use native.Mathlib.Omega.{arith}
use Rattle.counters.specs.Line.{numbers_of, after_status}
use Rattle.status.specs.Number.{status_number}
use Rattle.digits.proofs.Stores.{sets_start}
use Rattle.model.specs.Counters.{spaced}
use Rattle.counters.proofs.Spaced.{fields, fields_are_spaced, spaced_length}
use Rattle.counters.proofs.put_numbers.Goals as goal

pub returns-clause-bytes : goal.returns-clause-bytes
unfolding fields
returns-clause-bytes c =
    let first = status_number c.args.counters.status in
    let others = after_status c.args.counters in
    let start = c.args.buffer.now in
    let line = fields_are_spaced start 0 first others in
    let at_start = sets_start (spaced (numbers_of c.args.counters)) start (omega (arith, spaced_length first others)) in
    cc
