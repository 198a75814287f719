-- `stored_set::run` meets its contract. The loop's invariant: the cases before the place are counted. The measure is what is left of the
-- set. Assumes nothing.
use Rattle.std.proofs.Common.{◌-◌, length}
use Rattle.stored_set.proofs.Counts.{CasesSoFar}
use Rattle.stored_set.proofs.run.Given as goal

abbrev pub invariant-loop-input : goal.invariant-loop-input
invariant-loop-input l = CasesSoFar l.set l.cases l.same l.at

abbrev pub decreases-loop-input : goal.decreases-loop-input
decreases-loop-input l = length l.set - l.at
