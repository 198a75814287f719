-- Request U1 as a statement: what a steal tick moves. "A successful steal shall take the back half of the victim's line, rounded down, in
-- its order, and it still needs two pieces there." It speaks of every execution, so also of those between two workers' cycles of one tick.
-- It is proved in the crate `laws`.
use Rattle.std.specs.Prelude.{◌≡◌, [], ◌++◌, ℕ, ◌/◌, ◌≤◌, ◌<◌, length}
use Rattle.model.specs.Plan.{Graph}
use Rattle.model.specs.Machine.{Execution, deque_of, counted_steal, cycle}

-- a granted worker whose cycle is a steal tick: its deque is empty, and no muggable deque waits
pub record Thief (e : Execution) (w : ℕ) : Type 0 where
  pub granted : w < length e.deques
  pub empty : deque_of e w ≡ []
  pub none_waits : e.muggable ≡ []

-- a steal tick counts itself, with 1 success or 0, and no tick of a piece is done or lost, no orphan moves, no worker comes or goes
pub record StealTick (success : ℕ) (before after : Execution) : Type 0 where
  pub counted : after.counts ≡ counted_steal success before.counts
  pub same_left : after.left ≡ before.left
  pub same_muggable : after.muggable ≡ before.muggable
  pub same_workers : length after.deques ≡ length before.deques

-- a steal that succeeds
pub record Theft (before after : Execution) (thief victim : ℕ) : Type 0 where
  -- one success, however many tasks move
  pub one_success : StealTick 1 before after
  -- the front part stays with the victim, and the rest, in its order, is the thief's deque
  pub parted : deque_of after victim ++ deque_of after thief ≡ deque_of before victim
  -- it is half of the victim's deque, rounded down
  pub half : length (deque_of after thief) ≡ length (deque_of before victim) / 2
  -- no other worker's deque (line) moves
  pub others : (w : ℕ) → (w ≡ thief → ⊥) → (w ≡ victim → ⊥) → deque_of after w ≡ deque_of before w

-- a steal in vain: "If not, nothing moves."
pub record Vain (before after : Execution) : Type 0 where
  pub no_success : StealTick 0 before after
  pub same_deques : after.deques ≡ before.deques

-- what the chosen worker's deque has decides: two or more tasks, or fewer
pub record StealsHalf (graph : Graph) : Type 0 where
  pub takes_half : (e : Execution) (thief victim : ℕ) → Thief e thief → 2 ≤ length (deque_of e victim) →
      Theft e (cycle graph thief victim e) thief victim
  pub needs_two : (e : Execution) (thief victim : ℕ) → Thief e thief → length (deque_of e victim) < 2 →
      Vain e (cycle graph thief victim e)
