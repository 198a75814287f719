-- That 64 lines, and 64 orphans, are had at once: the checker computes it. (In proofs/, so that an edit of a definition is refused by it.)
-- Assumes nothing.
use Rattle.std.specs.Prelude.{◌≡◌, refl}
use mathlib.Core.List.{[], ◌∷◌, ◌++◌, map}
use Rattle.model.specs.Questions.{accepted}
use Rattle.model.specs.Plan.{plan_answer}
use Rattle.model.specs.Machine.{grants}
use Rattle.model.specs.History.{run}
use Rattle.model.specs.WholeTicks.{after_workers}
use Rattle.model.specs.Lines.{deques_in_use}
use Rattle.model.proofs.Examples
use Rattle.line_examples.specs.Wide.{wide, doubled, choices_of, lines_of, wide_plan}

pub plan_accepted : plan_answer wide ≡ accepted
unfolding Examples.table
plan_accepted = refl

-- 64 lines, where 64 are granted
pub met_by_lines : lines_of (run wide_plan (doubled 6)) ≡ 64 ∷ 0 ∷ 64 ∷ []
unfolding Examples.table
met_by_lines = refl

-- 64 orphans, where a grant of 0 withdraws all of them
pub met_by_orphans : lines_of (run wide_plan (doubled 6 ++ (grants 0 ∷ []))) ≡ 64 ∷ 64 ∷ 64 ∷ []
unfolding Examples.table
met_by_orphans = refl

-- inside the tick that ends with 64 lines: after 63 workers 63, and the last worker's theft makes one more
pub last_thief : map (λ w. deques_in_use (after_workers wide_plan (run wide_plan (doubled 5 ++ (grants 64 ∷ []))).state (choices_of 32) w))
    (63 ∷ 64 ∷ []) ≡ 63 ∷ 64 ∷ []
unfolding Examples.table
last_thief = refl
