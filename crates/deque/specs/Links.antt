-- Following the links of a deque, and taking its back part.
use Rattle.std.specs.Prelude.{◌≡◌, true, List, ℕ, zero, suc, ◌-◌, ◌≤◌, ◌<◌, ltb, get_or}
use Rattle.model.specs.Tests.{every}
use Rattle.model.specs.Machine.{stolen_count}
use Rattle.memory.specs.declared.Deque.{Deque}
use Rattle.memory.specs.Parts.{Parts}
use Rattle.memory.specs.View.{walk, ends_at, put_part}

-- the task that so many links lead to
unfoldable pub link_after : List ℕ → ℕ → ℕ → ℕ
link_after next front zero = front
link_after next front (suc steps) = link_after next (get_or next front 0) steps

-- the links may be followed so far: each of the tasks on the way is one of the memory
abbrev pub Reachable : List ℕ → ℕ → ℕ → Type 0
Reachable next front steps = every (λ t. ltb t 1024) (walk next front steps) ≡ true

-- a deque of two or more tasks whose links can be followed, and the place of a thief
pub record Robbable (p : Parts) (thief victim : ℕ) : Type 0 where
  pub thief_place : thief < 128
  pub victim_place : victim < 128
  pub two_or_more : 2 ≤ (ends_at p.ends victim).size
  pub links : Reachable p.next (ends_at p.ends victim).front (ends_at p.ends victim).size

-- what a steal leaves of a deque, and what it takes
abbrev pub left_of : Deque → Deque
left_of d = record { front = d.front; size = d.size - stolen_count d.size }

abbrev pub taken_of : List ℕ → Deque → Deque
taken_of next d = record { front = link_after next d.front (d.size - stolen_count d.size); size = stolen_count d.size }

-- the back half of the victim's deque is the thief's
abbrev pub robbed : Parts → ℕ → ℕ → Parts
robbed p thief victim =
    put_part (put_part p victim (left_of (ends_at p.ends victim))) thief (taken_of p.next (ends_at p.ends victim))
