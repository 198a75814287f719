-- A work tick at a task that is not worked, in two cases: the task goes on, and no flag and no deque changes; or it was its last tick, and
-- it is completed, leaves its deque, and its successors that became ready come in its place.
-- Assumes nothing.
use mathlib.Core.Path.{◌≡◌, refl, sym, ◌∙◌}
use mathlib.Core.Bool.{Bool, true, false}
use mathlib.Core.List.{List, ◌++◌, tail}
use Prim.Native.Nat.{ℕ, ◌-◌, ◌≤◌, ◌<◌}
use native.Mathlib.Omega.{arith}
use lib.Dec.{eqb}
use lib.ListN.{length, get_or}
use lib.Seq.{get_or-set_same}
use borrow.Author.Tests.{eqb-true, eqb-false}
use Rattle.model.specs.Tests.{zeros}
use Rattle.model.specs.Plan.{Graph}
use Rattle.model.specs.Machine.{one_tick_less, worked_deque, released}
use Rattle.lists.proofs.Sums.{zeros_at, zeros_set, zeros_kept}
use Rattle.laws.specs.Awaited.{completed}

-- a task that is not worked has a tick left
pub some_left : (left : List ℕ) (t : ℕ) → t < length left → get_or (zeros left) t false ≡ false → 1 ≤ get_or left t 0
some_left left t l u = let some = eqb-false (get_or left t 0) 0 (sym (zeros_at left t l) ∙ u) in omega arith

module _ (graph : Graph) (left : List ℕ) (t : ℕ) (deque : List ℕ) where
  pub data WorkTick : Type 0 where
    goes_on : 2 ≤ get_or left t 0 → zeros (one_tick_less t left) ≡ zeros left → worked_deque graph (one_tick_less t left) t deque ≡ deque →
        WorkTick
    completes : get_or left t 0 ≡ 1 → zeros (one_tick_less t left) ≡ completed t (zeros left) →
        worked_deque graph (one_tick_less t left) t deque ≡ released graph (completed t (zeros left)) t ++ tail deque → WorkTick

  pub work_tick : t < length left → get_or (zeros left) t false ≡ false → WorkTick
  unfolding worked_deque
  work_tick l u = go (eqb (get_or left t 0 - 1) 0) refl
    where
      here : get_or (one_tick_less t left) t 0 ≡ get_or left t 0 - 1
      here = get_or-set_same left t (get_or left t 0 - 1) 0 l

      go : (b : Bool) → eqb (get_or left t 0 - 1) 0 ≡ b → WorkTick
      go true e =
          let none = eqb-true (get_or left t 0 - 1) 0 e in
          let some = some_left left t l u in
          let flags = zeros_set left t (get_or left t 0 - 1) e in
          completes (omega arith) flags (rw (here, e, flags) refl)
      go false e =
          let more = eqb-false (get_or left t 0 - 1) 0 e in
          goes_on (omega arith) (zeros_kept left t (get_or left t 0 - 1) (u ∙ sym e)) (rw (here, e) refl)

  -- the two cases by the ticks left
  module _ (l : t < length left) (u : get_or (zeros left) t false ≡ false) where
    pub with_more_left : 2 ≤ get_or left t 0 →
        (zeros (one_tick_less t left) ≡ zeros left) × (worked_deque graph (one_tick_less t left) t deque ≡ deque)
    with_more_left more = go (work_tick l u)
      where
        go : WorkTick → (zeros (one_tick_less t left) ≡ zeros left) × (worked_deque graph (one_tick_less t left) t deque ≡ deque)
        go (goes_on two flags stays) = (flags, stays)
        go (completes last flags leaves) = absurd (omega arith)

    pub with_one_left : get_or left t 0 ≡ 1 →
        (zeros (one_tick_less t left) ≡ completed t (zeros left))
        × (worked_deque graph (one_tick_less t left) t deque ≡ released graph (completed t (zeros left)) t ++ tail deque)
    with_one_left last = go (work_tick l u)
      where
        go : WorkTick →
            (zeros (one_tick_less t left) ≡ completed t (zeros left))
            × (worked_deque graph (one_tick_less t left) t deque ≡ released graph (completed t (zeros left)) t ++ tail deque)
        go (goes_on two flags stays) = absurd (omega arith)
        go (completes one flags leaves) = (flags, leaves)
