-- A robbery, step by step: the victim's deque is read, its back part found, and both deques put.
use mathlib.Core.Path.{◌≡◌}
use Prim.Native.Nat.{ℕ, ◌-◌, ◌≤◌}
use native.Mathlib.Omega.{arith}
use Rattle.model.specs.Machine.{stolen_count}
use Rattle.laws.proofs.Stealing.{some_left}
use Rattle.memory.specs.declared.Deque.{Deque}
use Rattle.memory.specs.Parts.{Parts}
use Rattle.memory.specs.View.{ends_at, put_part}
use Rattle.deque.specs.Links.{link_after, Reachable, Robbable, robbed}
use Rattle.deque.proofs.Walks.{reachable_part}

module _ {p : Parts} {thief victim : ℕ} (r : Robbable p thief victim) {d : Deque} (read : d ≡ ends_at p.ends victim) where
  -- a steal takes no more than there is
  pub part_taken : {taken : ℕ} → taken ≡ stolen_count d.size → taken ≤ d.size
  part_taken right = omega (arith, some_left d.size (rw read r.two_or_more))

  pub part_of_the_way : (left : ℕ) → left ≤ d.size → Reachable p.next d.front left
  part_of_the_way left few =
      rw read (reachable_part p.next (ends_at p.ends victim).front left (ends_at p.ends victim).size (rw read at few) r.links)

  pub both_put : {taken front : ℕ} {p' p'' : Parts} → taken ≡ stolen_count d.size →
      front ≡ link_after p.next d.front (d.size - taken) →
      p' ≡ put_part p victim (record { front = d.front; size = d.size - taken }) →
      p'' ≡ put_part p' thief (record { front = front; size = taken }) →
      p'' ≡ robbed p thief victim
  both_put right led left given = rw (given, left, led, right, read)
