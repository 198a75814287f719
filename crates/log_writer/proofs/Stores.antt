-- Drawn choices stored one after the other. Assumes nothing.
use mathlib.Core.Path.{◌≡◌, refl, ap}
use mathlib.Core.List.{List, [], ◌∷◌, ◌++◌}
use Prim.Native.Nat.{ℕ, zero, suc, ◌%◌, ◌≤◌, ◌<◌}
use native.Mathlib.Nat.{mod-lt}
use native.Mathlib.Omega.{arith}
use mir.Syntax.{w8}
use mir.Val.{Fits}
use Rattle.model.specs.Seeds.{next_seed, drawn_choice, draws, seed_after}

-- a choice among at most 64 workers is a byte
pub choice_fits : (choice upper workers : ℕ) → choice ≡ upper % workers → 0 < workers → workers ≤ 64 → Fits w8 choice
choice_fits choice upper workers is some few = record { fits = omega (arith, mod-lt upper some) }

pub draws_snoc : (granted n seed : ℕ) → draws granted (suc n) seed ≡ draws granted n seed ++ (drawn_choice granted (seed_after n seed) ∷ [])
unfolding draws seed_after
draws_snoc granted zero seed = refl
draws_snoc granted (suc n) seed = ap (λ (xs : List ℕ). drawn_choice granted seed ∷ xs) (draws_snoc granted n (next_seed seed))
