-- A plan with which 64 lines, and 64 orphans, are had at once: a worker works the first of 191 tasks, and then each tick has twice as many
-- workers, of which each new one robs one of the others. So the limit of request U12 is met at 64. The checker computes it.
use Rattle.std.specs.Prelude.{cond, ℕ, ◌+◌, ◌*◌, ◌/◌, ◌^◌, eqb, ltb, length, replicate}
use mathlib.Core.List.{List, [], ◌∷◌, ◌++◌, map, flat_map}
use Rattle.model.specs.Tests.{below}
use Rattle.model.specs.Plan.{Plan, plan_of}
use Rattle.model.specs.Machine.{Call, grants, ticks}
use Rattle.model.specs.History.{History}
use Rattle.model.specs.Lines.{deques_in_use, largest_granted}
use Rattle.model.specs.Examples.{task, plan_bytes}

-- 0 is followed by 1, and each of 1 to 63 by two, so that 64 to 127 are ready once all these are worked; each of 64 to 189 is followed by
-- the one that joins it with its neighbour
abbrev pub wide_task : ℕ → List ℕ
wide_task t =
    cond (eqb t 0) (task 1 1 0) (cond (ltb t 64) (task 2 (2 * t) (2 * t + 1)) (cond (ltb t 190) (task 1 (96 + t / 2) 0) (task 0 0 0)))

abbrev pub wide : List ℕ
wide = plan_bytes 2 1 1 (map wide_task (below 191))

-- twice so many workers are granted, and each new one robs an old one of its own
abbrev pub choices_of : ℕ → List ℕ
choices_of half = replicate half 0 ++ below half

-- one worker, then two, four and so on: n times twice as many
abbrev pub doubled : ℕ → List Call
doubled n = grants 1 ∷ ticks (0 ∷ []) ∷ flat_map (λ k. grants (2 * 2 ^ k) ∷ ticks (choices_of (2 ^ k)) ∷ []) (below n)

-- the lines and orphans, the orphans among them, and the largest count granted so far
abbrev pub lines_of : History → List ℕ
lines_of h = deques_in_use h.state.execution ∷ length h.state.execution.muggable ∷ largest_granted h ∷ []

abbrev pub wide_plan : Plan
wide_plan = plan_of wide
