-- Tasks whose last predecessor was worked go to the front of a deque.
use Rattle.std.specs.Prelude.{◌≡◌, Bool, cond, not, ◌&&◌, ℕ, ◌+◌, ◌-◌, ◌≤◌, ◌<◌, eqb, leb, length, get_or, set}
use mathlib.Core.List.{List, [], ◌∷◌, ◌++◌, Memᴰ}
use Rattle.model.specs.Tests.{keep, occurrences}
use Rattle.memory.specs.declared.Deque.{Deque}
use Rattle.memory.specs.Parts.{Parts, SameButLinks}
use Rattle.memory.specs.Graphs.{shown}
use Rattle.memory.specs.View.{walk, tasks_of}

-- ---- one task

-- a task that is to be released is one of the memory, awaits something and stands nowhere in the deque, which has room for it
pub record Releasable (p : Parts) (task : ℕ) (deque : Deque) : Type 0 where
  pub links : length p.next ≡ 1024
  pub inside : task < 1024
  pub awaits : (task ≡ 0 → ⊥) → 1 ≤ get_or p.pending task 0
  pub elsewhere : (task ≡ 0 → ⊥) → occurrences task (tasks_of p.next deque) ≡ 0
  pub room : deque.size + 1 < 65536

-- `pending` after one predecessor of the task was worked
unfoldable pub one_less : List ℕ → ℕ → List ℕ
one_less pending task = cond (eqb task 0) pending (set pending task (get_or pending task 0 - 1))

-- the field is used, and this was the last predecessor that its task awaited
abbrev pub becomes_ready : List ℕ → ℕ → Bool
becomes_ready pending task = not (eqb task 0) && leb (get_or pending task 0) 1

pub record Released (p : Parts) (task : ℕ) (deque : Deque) (p' : Parts) (deque' : Deque) : Type 0 where
  pub counted : p'.pending ≡ one_less p.pending task
  pub pushed : tasks_of p'.next deque'
      ≡ cond (becomes_ready p.pending task) (task ∷ tasks_of p.next deque) (tasks_of p.next deque)
  -- every deque in which the task does not stand is as it was
  pub undisturbed : (front size : ℕ) → ((task ≡ 0 → ⊥) → occurrences task (walk p.next front size) ≡ 0) →
      walk p'.next front size ≡ walk p.next front size
  pub same_links : length p'.next ≡ length p.next
  pub grown : deque'.size ≤ deque.size + 1
  pub rest : SameButLinks p p'

-- ---- the successors of a worked task

pub record AllReleasable (p : Parts) (one two : ℕ) (deque : Deque) : Type 0 where
  pub numbers : length p.pending ≡ 1024
  pub links : length p.next ≡ 1024
  pub inside : (s : ℕ) → Memᴰ s (shown one two) → s < 1024
  pub apart : (one ≡ 0 → ⊥) → one ≡ two → ⊥
  pub awaits : (s : ℕ) → Memᴰ s (shown one two) → 1 ≤ get_or p.pending s 0
  pub elsewhere : (s : ℕ) → Memᴰ s (shown one two) → occurrences s (tasks_of p.next deque) ≡ 0
  pub room : deque.size + 2 < 65536

-- `pending` after one predecessor of each of these tasks was worked
unfoldable pub each_less : List ℕ → List ℕ → List ℕ
each_less pending [] = pending
each_less pending (s ∷ ss) = set (each_less pending ss) s (get_or (each_less pending ss) s 0 - 1)

-- this was the last predecessor that the task awaited
abbrev pub last_awaited : List ℕ → ℕ → Bool
last_awaited pending s = leb (get_or pending s 0) 1

pub record AllReleased (p : Parts) (one two : ℕ) (deque : Deque) (p' : Parts) (deque' : Deque) : Type 0 where
  pub counted : p'.pending ≡ each_less p.pending (shown one two)
  pub pushed : tasks_of p'.next deque' ≡ keep (last_awaited p.pending) (shown one two) ++ tasks_of p.next deque
  -- every deque in which none of them stands is as it was
  pub undisturbed : (front size : ℕ) → ((s : ℕ) → Memᴰ s (shown one two) → occurrences s (walk p.next front size) ≡ 0) →
      walk p'.next front size ≡ walk p.next front size
  pub same_links : length p'.next ≡ length p.next
  pub rest : SameButLinks p p'
