-- Bytes stored from a place on, one piece after the other.
-- Assumes nothing.
use mathlib.Core.Path.{◌≡◌, refl, sym, ap, ◌∙◌}
use mathlib.Core.List.{List, [], ◌∷◌, ◌++◌}
use Prim.Native.Nat.{ℕ, suc, ◌+◌, ◌≤◌}
use native.Mathlib.Nat.{zero-add, add-zero, add-suc, suc-add}
use lib.ListN.{length, drop, set}
use lib.Seq.{sets, sets-eq}
use Rattle.model.specs.Counters.{put_at_start}

-- one piece and then the next is both at once
pub sets_append : (b : List ℕ) (at : ℕ) (x y : List ℕ) → sets (sets b at x) (at + length x) y ≡ sets b at (x ++ y)
sets_append b at [] y = rw (add-zero at) refl
sets_append b at (v ∷ x) y = rw (add-suc at (length x), sym (suc-add at (length x))) (sets_append (set b at v) (suc at) x y)

-- at the start of a buffer
pub sets_start : (x b : List ℕ) → length x ≤ length b → sets b 0 x ≡ put_at_start x b
sets_start x b room = sets-eq x b 0 (rw (zero-add (length x)) room) ∙ ap (λ (n : ℕ). x ++ drop n b) (zero-add (length x))
