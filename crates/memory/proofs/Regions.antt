-- A store in a region is a store in the region's list; one outside leaves it. So of each part of the memory.
use mathlib.Core.Path.{◌≡◌, ◌∙◌}
use mathlib.Core.List.{List}
use Prim.Native.Nat.{ℕ, ◌+◌, ◌-◌, ◌≤◌, ◌<◌}
use native.Mathlib.Omega.{arith}
use lib.ListN.{length, get_or, set, drop, length-drop}
use lib.Seq.{drop-set-add, take-set-lt, drop-set-lt, take-set-le, get_or-take, get_or-drop, length-take-le, get_or-set_other, set-get_or}
use Rattle.memory.specs.declared.Deque.{Deque}
use Rattle.memory.specs.View.{front_at, size_at, ends_at, put_part}
use Rattle.memory.specs.Parts.{region, parts, with_next, with_pending, with_ends, with_spans}

-- ---- a region, over any offset and size

module _ (offset size : ℕ) (memory : List ℕ) where
  pub region_at : (i d : ℕ) → i < size → get_or (region offset size memory) i d ≡ get_or memory (offset + i) d
  unfolding region
  region_at i d inside = get_or-take size (drop offset memory) i d inside ∙ get_or-drop offset memory i d

  pub region_length : offset + size ≤ length memory → length (region offset size memory) ≡ size
  unfolding region
  region_length fits = length-take-le size (drop offset memory) (rw length-drop (omega arith))

  pub store_inside : (i v : ℕ) → i < size → region offset size (set memory (offset + i) v) ≡ set (region offset size memory) i v
  unfolding region
  store_inside i v inside = rw (drop-set-add offset memory i v) (take-set-lt size (drop offset memory) i v inside)

  pub store_below : (j v : ℕ) → j < offset → region offset size (set memory j v) ≡ region offset size memory
  unfolding region
  store_below j v below = rw (drop-set-lt offset memory j v below)

  pub store_above : (j v : ℕ) → offset + size ≤ j → region offset size (set memory j v) ≡ region offset size memory
  unfolding region
  store_above j v above =
      let at : j ≡ offset + (j - offset) = omega arith in
      rw (at, drop-set-add offset memory (j - offset) v) (take-set-le size (drop offset memory) (j - offset) v (omega arith))

-- ---- the parts

module _ (memory : List ℕ) (i : ℕ) where
  pub first_at : i < 1024 → get_or memory i 0 ≡ get_or (parts memory).first i 0
  unfolding parts
  first_at inside =
      let at : 0 + i ≡ i = omega arith in
      rw (region_at 0 1024 memory i 0 inside, at)

  pub second_at : i < 1024 → get_or memory (1024 + i) 0 ≡ get_or (parts memory).second i 0
  unfolding parts
  second_at inside = rw (region_at 1024 1024 memory i 0 inside)

  pub next_at : i < 1024 → get_or memory (2048 + i) 0 ≡ get_or (parts memory).next i 0
  unfolding parts
  next_at inside = rw (region_at 2048 1024 memory i 0 inside)

  pub pending_at : i < 1024 → get_or memory (3072 + i) 0 ≡ get_or (parts memory).pending i 0
  unfolding parts
  pending_at inside = rw (region_at 3072 1024 memory i 0 inside)

  pub ends_part_at : i < 256 → get_or memory (4096 + i) 0 ≡ get_or (parts memory).ends i 0
  unfolding parts
  ends_part_at inside = rw (region_at 4096 256 memory i 0 inside)

  pub spans_at : i < 1024 → get_or memory (4352 + i) 0 ≡ get_or (parts memory).spans i 0
  unfolding parts
  spans_at inside = rw (region_at 4352 1024 memory i 0 inside)

  module _ (v : ℕ) where
    pub store_next : i < 1024 → parts (set memory (2048 + i) v) ≡ with_next (parts memory) (set (parts memory).next i v)
    unfolding parts
    store_next inside =
        rw (
          store_above 0 1024 memory (2048 + i) v (omega arith),
          store_above 1024 1024 memory (2048 + i) v (omega arith),
          store_inside 2048 1024 memory i v inside,
          store_below 3072 1024 memory (2048 + i) v (omega arith),
          store_below 4096 256 memory (2048 + i) v (omega arith),
          store_below 4352 1024 memory (2048 + i) v (omega arith),
        )

    pub store_pending : i < 1024 → parts (set memory (3072 + i) v) ≡ with_pending (parts memory) (set (parts memory).pending i v)
    unfolding parts
    store_pending inside =
        rw (
          store_above 0 1024 memory (3072 + i) v (omega arith),
          store_above 1024 1024 memory (3072 + i) v (omega arith),
          store_above 2048 1024 memory (3072 + i) v (omega arith),
          store_inside 3072 1024 memory i v inside,
          store_below 4096 256 memory (3072 + i) v (omega arith),
          store_below 4352 1024 memory (3072 + i) v (omega arith),
        )

    pub store_ends : i < 256 → parts (set memory (4096 + i) v) ≡ with_ends (parts memory) (set (parts memory).ends i v)
    unfolding parts
    store_ends inside =
        rw (
          store_above 0 1024 memory (4096 + i) v (omega arith),
          store_above 1024 1024 memory (4096 + i) v (omega arith),
          store_above 2048 1024 memory (4096 + i) v (omega arith),
          store_above 3072 1024 memory (4096 + i) v (omega arith),
          store_inside 4096 256 memory i v inside,
          store_below 4352 1024 memory (4096 + i) v (omega arith),
        )

    pub store_spans : i < 1024 → parts (set memory (4352 + i) v) ≡ with_spans (parts memory) (set (parts memory).spans i v)
    unfolding parts
    store_spans inside =
        rw (
          store_above 0 1024 memory (4352 + i) v (omega arith),
          store_above 1024 1024 memory (4352 + i) v (omega arith),
          store_above 2048 1024 memory (4352 + i) v (omega arith),
          store_above 3072 1024 memory (4352 + i) v (omega arith),
          store_above 4096 256 memory (4352 + i) v (omega arith),
          store_inside 4352 1024 memory i v inside,
        )

-- ---- deques

pub deque_read : (memory : List ℕ) (place : ℕ) → place < 128 →
    ◌≡◌ {A = Deque} (record { front = get_or memory (4096 + front_at place) 0; size = get_or memory (4096 + size_at place) 0 })
    (ends_at (parts memory).ends place)
deque_read memory place here =
    rw (ends_part_at memory (front_at place) (omega arith), ends_part_at memory (size_at place) (omega arith))

pub put_stored : (memory : List ℕ) (place : ℕ) (d : Deque) → place < 128 →
    parts (set (set memory (4096 + front_at place) d.front) (4096 + size_at place) d.size) ≡ put_part (parts memory) place d
put_stored memory place d here =
    rw (
      store_ends (set memory (4096 + front_at place) d.front) (size_at place) d.size (omega arith),
      store_ends memory (front_at place) d.front (omega arith),
    )

-- only the front moves
pub front_stored : (memory : List ℕ) (place x size : ℕ) → place < 128 → get_or (parts memory).ends (size_at place) 0 ≡ size →
    parts (set memory (4096 + front_at place) x) ≡ put_part (parts memory) place (record { front = x; size = size })
front_stored memory place x size here same =
    let kept : get_or (set (parts memory).ends (front_at place) x) (size_at place) 0 ≡ size =
    get_or-set_other (parts memory).ends (front_at place) (size_at place) x 0 (λ e. omega arith) ∙ same in
    store_ends memory (front_at place) x (omega arith)
    ∙ rw (← kept, set-get_or (set (parts memory).ends (front_at place) x) (size_at place) 0)
