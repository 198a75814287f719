-- What a store does to what the parts show: a deque put at a place, and a mug that moves the ring's head.
use mathlib.Core.Path.{◌≡◌, refl, sym, ap, ◌∙◌}
use mathlib.Core.Bool.{Bool, true, false}
use mathlib.Core.List.{List, [], ◌∷◌}
use Prim.Native.Nat.{ℕ, suc, ◌+◌, ◌%◌, ◌≤◌, ◌<◌}
use native.Mathlib.Omega.{arith}
use lib.Dec.{eqb, eqb-suc-suc}
use lib.ListN.{length, get_or, set, length-set}
use lib.Seq.{get_or-set_same, get_or-set_other}
use borrow.Author.Tests.{ne_eqb}
use Rattle.model.specs.Tests.{count_set, all_set, zeros}
use Rattle.model.specs.Machine.{finished}
use Rattle.lists.proofs.Lists.{count_set_at_most}
use Rattle.lists.proofs.Sums.{zeros_length}
use Rattle.memory.specs.declared.Deque.{Deque}
use Rattle.memory.specs.Parts.{Parts, left_at, ticks_at}
use Rattle.memory.specs.Words.{Numbers}
use Rattle.memory.specs.Graphs.{successors_at, successors_view, durations_view}
use Rattle.memory.specs.View.{tasks_of, front_at, size_at, ends_at, put_deque, deque_at, deques_view, ring_place}
use Rattle.memory.specs.View.{muggable_view, left_view, view}
use Rattle.memory.specs.Sound.{worked_in}
use Rattle.memory.proofs.Walks.{length_walk}
use Rattle.lists.proofs.Tables.{table_length, table_at, table_set, table_same, table_tail}

-- ---- the views at a number

pub deque_at_is : (next ends : List ℕ) (p : ℕ) → deque_at next ends p ≡ tasks_of next (ends_at ends p)
unfolding deque_at
deque_at_is next ends p = refl

pub deque_length : (next ends : List ℕ) (p : ℕ) → length (deque_at next ends p) ≡ get_or ends (size_at p) 0
unfolding deque_at
deque_length next ends p = length_walk next (get_or ends (front_at p) 0) (get_or ends (size_at p) 0)

pub worker_at : (next ends : List ℕ) (k w : ℕ) → w < k → get_or (deques_view next ends k) w [] ≡ deque_at next ends w
unfolding deques_view
worker_at next ends k w h = table_at (deque_at next ends) k w [] h

pub workers_shown : (next ends : List ℕ) (k : ℕ) → length (deques_view next ends k) ≡ k
unfolding deques_view
workers_shown next ends k = table_length (deque_at next ends) k

pub muggable_at : (next ends : List ℕ) (head waiting i : ℕ) → i < waiting →
    get_or (muggable_view next ends head waiting) i [] ≡ deque_at next ends (ring_place head i)
unfolding muggable_view
muggable_at next ends head waiting i h = table_at (λ j. deque_at next ends (ring_place head j)) waiting i [] h

pub muggable_shown : (next ends : List ℕ) (head waiting : ℕ) → length (muggable_view next ends head waiting) ≡ waiting
unfolding muggable_view
muggable_shown next ends head waiting = table_length (λ j. deque_at next ends (ring_place head j)) waiting

pub left_shown : (spans : List ℕ) (n : ℕ) → length (left_view spans n) ≡ n
unfolding left_view
left_shown spans n = table_length (left_at spans) n

pub left_here : (spans : List ℕ) (n t : ℕ) → t < n → get_or (left_view spans n) t 0 ≡ left_at spans t
unfolding left_view
left_here spans n t h = table_at (left_at spans) n t 0 h

pub flags_shown : (spans : List ℕ) (n : ℕ) → length (zeros (left_view spans n)) ≡ n
flags_shown spans n = zeros_length (left_view spans n) ∙ left_shown spans n

-- tasks with the same ticks show the same durations
pub durations_same : (spans spans' : List ℕ) (n : ℕ) → ((t : ℕ) → ticks_at spans' t ≡ ticks_at spans t) →
    durations_view spans' n ≡ durations_view spans n
unfolding durations_view
durations_same spans spans' n same = table_same (ticks_at spans) (ticks_at spans') n (λ t l. same t)

pub tasks_shown : (first second : List ℕ) (n : ℕ) → length (successors_view first second n) ≡ n
unfolding successors_view
tasks_shown first second n = table_length (successors_at first second) n

pub successors_shown : (first second : List ℕ) (n t : ℕ) → t < n → get_or (successors_view first second n) t []
    ≡ successors_at first second t
unfolding successors_view
successors_shown first second n t h = table_at (successors_at first second) n t [] h

-- ---- a deque put at a place

module _ (next ends : List ℕ) (places : length ends ≡ 256) (p : ℕ) (here : p < 128) (d : Deque) where
  pub put_places : length (put_deque ends p d) ≡ 256
  put_places = simp length-set places

  pub put_here : deque_at next (put_deque ends p d) p ≡ tasks_of next d
  unfolding deque_at
  put_here =
      let front : get_or (put_deque ends p d) (front_at p) 0 ≡ d.front =
      get_or-set_other (set ends (front_at p) d.front) (size_at p) (front_at p) d.size 0 (λ e. omega arith)
      ∙ get_or-set_same ends (front_at p) d.front 0 (omega arith) in
      let size : get_or (put_deque ends p d) (size_at p) 0 ≡ d.size =
      get_or-set_same (set ends (front_at p) d.front) (size_at p) d.size 0 (rw length-set (omega arith)) in
      rw (front, size)

  pub put_elsewhere : (q : ℕ) → q < 128 → (q ≡ p → ⊥) → deque_at next (put_deque ends p d) q ≡ deque_at next ends q
  unfolding deque_at
  put_elsewhere q l ne =
      let front : get_or (put_deque ends p d) (front_at q) 0 ≡ get_or ends (front_at q) 0 =
      get_or-set_other (set ends (front_at p) d.front) (size_at p) (front_at q) d.size 0 (λ e. omega arith)
      ∙ get_or-set_other ends (front_at p) (front_at q) d.front 0 (λ e. ne (omega arith)) in
      let size : get_or (put_deque ends p d) (size_at q) 0 ≡ get_or ends (size_at q) 0 =
      get_or-set_other (set ends (front_at p) d.front) (size_at p) (size_at q) d.size 0 (λ e. ne (omega arith))
      ∙ get_or-set_other ends (front_at p) (size_at q) d.front 0 (λ e. omega arith) in
      rw (front, size)

  pub put_deques : (k : ℕ) → p < k → k ≤ 64 → deques_view next (put_deque ends p d) k ≡ set (deques_view next ends k) p (tasks_of next d)
  unfolding deques_view
  put_deques k l few =
      table_set (deque_at next ends) (deque_at next (put_deque ends p d)) k p (tasks_of next d) l put_here
      (λ i m ne. put_elsewhere i (omega arith) ne)

  pub put_muggable : p < 64 → (head waiting : ℕ) →
      muggable_view next (put_deque ends p d) head waiting ≡ muggable_view next ends head waiting
  unfolding muggable_view
  put_muggable worker head waiting =
      table_same (λ i. deque_at next ends (ring_place head i)) (λ i. deque_at next (put_deque ends p d) (ring_place head i)) waiting
      (λ i m. put_elsewhere (ring_place head i) (omega arith) (λ e. omega arith))

-- ---- other links

module _ (next next' ends : List ℕ) where
  pub links_deques : (k : ℕ) → ((i : ℕ) → i < k → deque_at next' ends i ≡ deque_at next ends i) →
      deques_view next' ends k ≡ deques_view next ends k
  unfolding deques_view
  links_deques k same = table_same (deque_at next ends) (deque_at next' ends) k same

  pub links_muggable : (head waiting : ℕ) →
      ((i : ℕ) → i < waiting → deque_at next' ends (ring_place head i) ≡ deque_at next ends (ring_place head i)) →
      muggable_view next' ends head waiting ≡ muggable_view next ends head waiting
  unfolding muggable_view
  links_muggable head waiting same =
      table_same (λ i. deque_at next ends (ring_place head i)) (λ i. deque_at next' ends (ring_place head i)) waiting same

-- ---- the ring

-- the oldest muggable deque, and the others from the next entry on
pub ring_tail : (next ends : List ℕ) (head head' waiting : ℕ) → head < 64 → head' ≡ (head + 1) % 64 →
    muggable_view next ends head (suc waiting) ≡ deque_at next ends (64 + head) ∷ muggable_view next ends head' waiting
unfolding muggable_view
ring_tail next ends head head' waiting inside e =
    let oldest : ring_place head 0 ≡ 64 + head = omega arith in
    table_tail (λ i. deque_at next ends (ring_place head i)) waiting
    ∙ rw (
      oldest,
      table_same (λ i. deque_at next ends (ring_place head' i)) (λ i. deque_at next ends (ring_place head (suc i))) waiting
          (λ i l. ap (deque_at next ends) (omega arith)),
    )

-- ---- the finish

-- all tasks are worked exactly when as many are worked as there are
all_counted : (flags : List Bool) → all_set flags ≡ eqb (count_set flags) (length flags)
unfolding all_set count_set
all_counted [] = refl
all_counted (true ∷ flags) = all_counted flags ∙ sym (eqb-suc-suc (count_set flags) (length flags))
all_counted (false ∷ flags) = sym (ne_eqb (count_set flags) (suc (length flags)) (λ e. omega (arith, count_set_at_most flags)))

-- no more tasks are worked than there are
pub done_at_most : (p : Parts) (m : Numbers) → m.done ≡ count_set (worked_in p m) → m.done ≤ m.tasks
done_at_most p m done_right = omega (arith, done_right, count_set_at_most (worked_in p m), flags_shown p.spans m.tasks)

-- "finished": the number of worked tasks is that of all tasks
pub finished_shown : (p : Parts) (m : Numbers) → m.done ≡ count_set (worked_in p m) → finished (view p m) ≡ eqb m.done m.tasks
unfolding finished
finished_shown p m done_right = all_counted (worked_in p m) ∙ rw (← done_right, flags_shown) refl
