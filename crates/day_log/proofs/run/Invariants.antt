-- `day_log::run` meets its contract. The loop's invariant: the entries before the reader's place are run. The measure is what is left of
-- the log. Assumes nothing.
use Rattle.std.proofs.Common.{◌≡◌, ◌-◌, length}
use Rattle.memory.specs.Jobs.{lent}
use Rattle.day_log.proofs.Running.{SoFar}
use Rattle.day_log.proofs.run.Given as goal

abbrev pub invariant-loop-entry : goal.invariant-loop-entry
invariant-loop-entry l =
    record {
      same_log : l.entries.log.now ≡ l.log;
      so_far : SoFar l.log (lent l.fn.memory l.fn.words) (lent l.memory l.words) l.refusals l.entries.at;
    }

abbrev pub decreases-loop-entry : goal.decreases-loop-entry
decreases-loop-entry l = length l.log - l.entries.at
