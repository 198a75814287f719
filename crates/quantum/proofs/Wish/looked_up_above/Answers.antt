-- `Wish::looked_up_above` meets its contract: the next entry of the row, where there is one that is at most 64.
use native.Mathlib.Numerals.{add-one}
use Rattle.quantum.proofs.Desires.{goes_up, row_end_stays, last_stays}
use Rattle.quantum.proofs.Wish.looked_up_above.Goals as goal

pub returns-then-self-eq-LAST_POWER : goal.returns-then-self-eq-LAST_POWER
returns-then-self-eq-LAST_POWER c =
    last_stays c.requires c.if-self-eq-LAST_POWER.true

pub returns-then-desire-gt-MOST_WORKERS : goal.returns-then-desire-gt-MOST_WORKERS
returns-then-desire-gt-MOST_WORKERS c =
    row_end_stays c.requires _ _ (add-one _) c.whole_part-desire.ensures c.if-desire-gt-MOST_WORKERS.true

pub returns : goal.returns
returns c =
    goes_up c.requires _ _ (add-one _) c.whole_part-desire.ensures c.if-desire-gt-MOST_WORKERS.false
