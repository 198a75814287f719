-- One draw more.
-- Assumes nothing.
use mathlib.Core.Path.{◌≡◌}
use Prim.Native.Nat.{ℕ, ◌+◌}
use native.Mathlib.Numerals.{add-one}
use Rattle.model.specs.Seeds.{next_seed, seed_after}
use Rattle.laws.proofs.Seeds.{seed_snoc}

pub next_state : (w seed : ℕ) → seed_after (w + 1) seed ≡ next_seed (seed_after w seed)
next_state w seed = rw add-one (seed_snoc w seed)
