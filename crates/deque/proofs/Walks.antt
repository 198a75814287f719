-- A deque over the links: its parts, and the links that lead through it.
use mathlib.Core.Path.{◌≡◌, refl, ap}
use mathlib.Core.Bool.{true}
use mathlib.Core.List.{List, ◌∷◌}
use Prim.Native.Nat.{ℕ, zero, suc, ◌+◌, ◌≤◌, ◌<◌}
use native.Mathlib.Omega.{arith}
use native.Mathlib.Nat.{zero-add, suc-add}
use lib.Dec.{ltb}
use lib.ListN.{get_or, take, drop}
use borrow.Author.Tests.{ltb-true}
use Rattle.model.specs.Tests.{every}
use Rattle.lists.proofs.Tests.{and_left, and_right, both}
use Rattle.memory.specs.View.{walk}
use Rattle.deque.specs.Links.{link_after, Reachable}

-- the first tasks of a deque, and the others
pub take_walk : (next : List ℕ) (front a size : ℕ) → a ≤ size → take a (walk next front size) ≡ walk next front a
unfolding walk
take_walk next front zero size h = refl
take_walk next front (suc a) zero h = absurd (omega arith)
take_walk next front (suc a) (suc size) h = ap (λ (l : List ℕ). front ∷ l) (take_walk next (get_or next front 0) a size (omega arith))

pub drop_walk : (next : List ℕ) (front a b : ℕ) → drop a (walk next front (a + b)) ≡ walk next (link_after next front a) b
unfolding walk link_after
drop_walk next front zero b = rw zero-add
drop_walk next front (suc a) b = rw suc-add (drop_walk next (get_or next front 0) a b)

-- ---- following a link

-- what a link that is followed, one of `left`, leaves to follow
pub record Link (next : List ℕ) (front left less : ℕ) : Type 0 where
  pub here : front < 1024
  pub onward : Reachable next (get_or next front 0) less
  pub same : link_after next front left ≡ link_after next (get_or next front 0) less

pub follow : (next : List ℕ) (front left less : ℕ) → left ≡ suc less → Reachable next front left → Link next front left less
unfolding walk every link_after
follow next front left less e inside =
    let within : every (λ t. ltb t 1024) (walk next front (suc less)) ≡ true = rw e at inside in
    record {
      here = ltb-true front 1024 (and_left (ltb front 1024) (every (λ t. ltb t 1024) (walk next (get_or next front 0) less)) within);
      onward = and_right (ltb front 1024) (every (λ t. ltb t 1024) (walk next (get_or next front 0) less)) within;
      same = rw e;
    }

-- links that can be followed to the back can be followed part of the way
pub reachable_part : (next : List ℕ) (front a b : ℕ) → a ≤ b → Reachable next front b → Reachable next front a
unfolding walk every
reachable_part next front zero b h r = refl
reachable_part next front (suc a) zero h r = absurd (omega arith)
reachable_part next front (suc a) (suc b) h r =
    both (ltb front 1024) (every (λ t. ltb t 1024) (walk next (get_or next front 0) a))
    (and_left (ltb front 1024) (every (λ t. ltb t 1024) (walk next (get_or next front 0) b)) r)
    (reachable_part next (get_or next front 0) a b (omega arith)
    (and_right (ltb front 1024) (every (λ t. ltb t 1024) (walk next (get_or next front 0) b)) r))
