-- `job_examples::play`: every call keeps that the record is a job, and the reader its log. The measure is what is left of the log.
-- Assumes nothing.
use Rattle.std.proofs.Common.{◌≡◌, ◌-◌, length}
use Rattle.engine.specs.Reached.{IsJob}
use Rattle.job_examples.proofs.play.Given as goal

abbrev pub invariant-loop-entry : goal.invariant-loop-entry
invariant-loop-entry l = record { is_job : IsJob l.job; same_log : l.entries.log.now ≡ l.log }

abbrev pub decreases-loop-entry : goal.decreases-loop-entry
decreases-loop-entry l = length l.log - l.entries.at
