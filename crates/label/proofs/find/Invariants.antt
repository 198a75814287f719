-- `label::find` meets its contract. The loop's invariant is `Sought`, of the end of the open line: the line that is sought is line
-- `left` of those ahead. The measure is what is left of the sheet. Assumes nothing.
use mathlib.Core.Path.{◌≡◌}
use Prim.Native.Nat.{◌-◌, ◌<◌}
use lib.ListN.{length, get_or}
use Rattle.label.proofs.Search.{Sought}
use Rattle.label.proofs.find.Given as goal

abbrev pub invariant-loop-end : goal.invariant-loop-end
invariant-loop-end l = Sought l.sheet l.status l.left l.start l.end × (l.end < length l.sheet → get_or l.sheet l.end 0 ≡ 10)

abbrev pub decreases-loop-end : goal.decreases-loop-end
decreases-loop-end l = length l.sheet - l.end
