-- The parts of a job's memory: one list holds them all, each in a region of its own.
use Rattle.std.specs.Prelude.{◌≡◌, List, ℕ, ◌/◌, ◌%◌, get_or, take, drop}
use Rattle.std.specs.Borrow.{MutBor}
use denote.Triple.Both.{Both}

-- so many elements from an offset on
unfoldable pub region : ℕ → ℕ → List ℕ → List ℕ
region offset size memory = take size (drop offset memory)

pub record Parts : Type 0 where
  pub first : List ℕ  -- of each task its first successor, 0 for none
  pub second : List ℕ  -- .. and its second
  pub next : List ℕ  -- of each task in a deque the one behind it
  pub pending : List ℕ  -- of each task how many predecessors it still awaits
  pub ends : List ℕ  -- of each deque its front and its size
  pub spans : List ℕ  -- of each task its ticks, and the ticks that it has left

unfoldable pub parts : List ℕ → Parts
parts memory =
    record {
      first = region 0 1024 memory;
      second = region 1024 1024 memory;
      next = region 2048 1024 memory;
      pending = region 3072 1024 memory;
      ends = region 4096 256 memory;
      spans = region 4352 1024 memory;
    }

-- the parts of a memory that a reference holds when a function is called, and when it returns
abbrev pub parts_before : Both (MutBor (List ℕ)) (MutBor (List ℕ)) → Parts
parts_before memory = parts memory.entry.now

abbrev pub parts_after : Both (MutBor (List ℕ)) (MutBor (List ℕ)) → Parts
parts_after memory = parts memory.exit.now

-- so many elements have all parts
abbrev pub memory_size : ℕ
memory_size = 5376

-- these parts with another one in place of one of them
abbrev pub with_next : Parts → List ℕ → Parts
with_next p l = record { first = p.first; second = p.second; next = l; pending = p.pending; ends = p.ends; spans = p.spans }

abbrev pub with_pending : Parts → List ℕ → Parts
with_pending p l = record { first = p.first; second = p.second; next = p.next; pending = l; ends = p.ends; spans = p.spans }

abbrev pub with_ends : Parts → List ℕ → Parts
with_ends p l = record { first = p.first; second = p.second; next = p.next; pending = p.pending; ends = l; spans = p.spans }

abbrev pub with_spans : Parts → List ℕ → Parts
with_spans p l = record { first = p.first; second = p.second; next = p.next; pending = p.pending; ends = p.ends; spans = l }

-- a number of `spans`: so many times a task's ticks, and the ticks that it has left
abbrev pub span : ℕ
span = 256

abbrev pub ticks_at : List ℕ → ℕ → ℕ
ticks_at spans t = get_or spans t 0 / span

abbrev pub left_at : List ℕ → ℕ → ℕ
left_at spans t = get_or spans t 0 % span

-- the plan is the same: its graph, and each task's ticks
pub record SamePlan (p p' : Parts) : Type 0 where
  pub same_first : p'.first ≡ p.first
  pub same_second : p'.second ≡ p.second
  pub same_ticks : (t : ℕ) → ticks_at p'.spans t ≡ ticks_at p.spans t

-- only links and numbers of predecessors may differ
pub record SameButLinks (p p' : Parts) : Type 0 where
  pub same_first : p'.first ≡ p.first
  pub same_second : p'.second ≡ p.second
  pub same_ends : p'.ends ≡ p.ends
  pub same_spans : p'.spans ≡ p.spans

-- only the deques' ends may differ
pub record SameButEnds (p p' : Parts) : Type 0 where
  pub same_first : p'.first ≡ p.first
  pub same_second : p'.second ≡ p.second
  pub same_next : p'.next ≡ p.next
  pub same_pending : p'.pending ≡ p.pending
  pub same_spans : p'.spans ≡ p.spans
