-- `job_examples::play`: an entry that is read is inside the log, so less of the log is left.
-- Assumes nothing.
use Rattle.std.proofs.Common.{arith}
use Rattle.log_reader.proofs.Entries.{call_inside}
use Rattle.job_examples.proofs.play.Goals as goal

pub loop-entry-smaller-in-Grant : goal.loop-entry-smaller-in-Grant
loop-entry-smaller-in-Grant c =
    let read = rw c.in-Ok-Some.field-0-is at c.in-Ok-Some.ensures in
    omega (arith, rw c.loop-entry.invariant.same_log at (call_inside read))

pub loop-entry-smaller : goal.loop-entry-smaller
loop-entry-smaller c =
    let read = rw c.in-Ok-Some.field-0-is at c.in-Ok-Some.ensures in
    omega (arith, rw c.loop-entry.invariant.same_log at (call_inside read))
