-- `label::wording` meets its contract: what `find` answers is the model's stretch, which lies within the sheet.
-- Assumes nothing.
use native.Mathlib.Omega.{arith}
use Rattle.label.proofs.Part.{part_within}
use Rattle.label.proofs.wording.Goals as goal

pub overflow_add-result : goal.overflow_add-result
overflow_add-result c =
    omega (arith, part_within _ _ _ _ c.in-Ok.ensures.stretch)

pub slice_bounds-result-end : goal.slice_bounds-result-end
slice_bounds-result-end c =
    part_within _ _ _ _ c.in-Ok.ensures.stretch
