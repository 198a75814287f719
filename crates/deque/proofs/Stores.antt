-- What `release` and `release_successors` leave in a memory, store by store.
use mathlib.Core.Path.{◌≡◌}
use mathlib.Core.List.{List}
use Prim.Native.Nat.{ℕ, ◌+◌, ◌-◌, ◌≤◌, ◌<◌}
use native.Mathlib.Omega.{arith}
use lib.ListN.{get_or, set}
use Rattle.memory.specs.declared.Deque.{Deque}
use Rattle.memory.specs.Parts.{parts}
use Rattle.memory.proofs.Regions.{pending_at, store_pending, store_next}
use Rattle.deque.specs.Releasing.{AllReleasable, Releasable, Released, AllReleased}
use Rattle.deque.proofs.Releases.{released_none, released_later, released_now, first_releasable, all_released}

module _ (memory : List ℕ) {task : ℕ} {deque : Deque} (r : Releasable (parts memory) task deque) where
  pub awaits_some : (task ≡ 0 → ⊥) → 1 ≤ get_or memory (3072 + task) 0
  awaits_some nz = rw (pending_at memory task r.inside) (r.awaits nz)

  pub in_later : (task ≡ 0 → ⊥) → (get_or memory (3072 + task) 0 ≡ 1 → ⊥) →
      Released (parts memory) task deque (parts (set memory (3072 + task) (get_or memory (3072 + task) 0 - 1))) deque
  in_later nz more =
      let more' : 1 < get_or (parts memory).pending task 0 = omega (arith, pending_at memory task r.inside, awaits_some nz, more) in
      rw (pending_at memory task r.inside, store_pending memory task (get_or (parts memory).pending task 0 - 1) r.inside)
      (released_later _ _ _ nz more')

  pub in_now : (task ≡ 0 → ⊥) → get_or memory (3072 + task) 0 ≡ 1 →
      Released (parts memory) task deque
      (parts (set (set memory (3072 + task) (get_or memory (3072 + task) 0 - 1)) (2048 + task) deque.front))
      (record { front = task; size = deque.size + 1 })
  in_now nz last =
      let few : get_or (parts memory).pending task 0 ≤ 1 = omega (arith, pending_at memory task r.inside) in
      rw (
        pending_at memory task r.inside,
        store_next (set memory (3072 + task) (get_or (parts memory).pending task 0 - 1)) task deque.front r.inside,
        store_pending memory task (get_or (parts memory).pending task 0 - 1) r.inside,
      )
      (released_now _ _ _ r nz few)

-- a first successor alone
module _ (memory : List ℕ) {one two : ℕ} {deque : Deque} (r : AllReleasable (parts memory) one two deque) (alone : two ≡ 0)
    (nz : one ≡ 0 → ⊥) where
  second_none : Released (parts memory) two deque (parts memory) deque
  second_none = released_none _ _ _ alone

  first_can : Releasable (parts memory) one deque
  first_can = first_releasable _ _ _ _ r nz second_none

  pub one_inside : one < 1024
  one_inside = first_can.inside

  pub one_awaits : 1 ≤ get_or memory (3072 + one) 0
  one_awaits = awaits_some memory first_can nz

  pub one_later : (get_or memory (3072 + one) 0 ≡ 1 → ⊥) →
      AllReleased (parts memory) one two deque (parts (set memory (3072 + one) (get_or memory (3072 + one) 0 - 1))) deque
  one_later more = all_released _ _ _ _ r nz second_none (in_later memory first_can nz more)

  pub one_now : get_or memory (3072 + one) 0 ≡ 1 →
      AllReleased (parts memory) one two deque
      (parts (set (set memory (3072 + one) (get_or memory (3072 + one) 0 - 1)) (2048 + one) deque.front))
      (record { front = one; size = deque.size + 1 })
  one_now last = all_released _ _ _ _ r nz second_none (in_now memory first_can nz last)
