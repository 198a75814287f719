-- The part of the sheet that is handed back, where the search found the line at a stretch.
-- Assumes nothing.
use mathlib.Core.Path.{◌≡◌}
use mathlib.Core.List.{List}
use Prim.Native.Nat.{ℕ, ◌+◌, ◌≤◌}
use lib.ListN.{length}
use Rattle.model.specs.Label.{label}
use Rattle.label.proofs.Search.{label_within}

module _ (sheet : List ℕ) (status start size : ℕ) (found : record { start = start; size = size } ≡ label sheet status) where
  pub part_within : start + size ≤ length sheet
  part_within = rw (← found) at (label_within sheet status)
