-- `Wish::lowered` meets its contract: of a ratio in tenths the whole part one power lower is looked up.
use Rattle.quantum.proofs.Desires.{goes_down}
use Rattle.quantum.proofs.Wish.lowered.Goals as goal

pub returns-in-ByTenths : goal.returns-in-ByTenths
returns-in-ByTenths c =
    let is = c.in-ByTenths.is in
    rw is (goes_down (rw is at c.requires) _ _ c.saturating_sub-power.ensures c.whole_part-desire.ensures)
