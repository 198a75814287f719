-- A worker's deque joins the ring's end: the two ways out of `join`.
use mathlib.Core.Path.{◌≡◌, refl, sym, ap, ◌∙◌}
use mathlib.Core.Bool.{not}
use mathlib.Core.List.{List, [], ◌∷◌, ◌++◌, append-nil}
use Prim.Native.Nat.{ℕ, suc, ◌+◌, ◌≤◌, ◌<◌}
use native.Mathlib.Omega.{arith}
use native.Mathlib.Numerals.{add-one}
use lib.ListN.{length}
use Rattle.model.specs.Tests.{keep, is_empty}
use Rattle.memory.specs.declared.Deque.{Deque}
use Rattle.memory.specs.Parts.{Parts, with_ends, SameButEnds}
use Rattle.memory.specs.View.{ends_at, put_deque, tasks_of, deque_at, deques_view, ring_place, muggable_view}
use Rattle.lists.proofs.Tables.{table_more, table_same}
use Rattle.memory.proofs.Views.{deque_at_is, deque_length, put_places, put_here, put_elsewhere}
use Rattle.allot.specs.Grants.{Joined, joining_deque, Joinable}

-- ---- only the deques' ends move

pub no_move : {p : Parts} → SameButEnds p p
no_move = record { same_first = refl; same_second = refl; same_next = refl; same_pending = refl; same_spans = refl }

pub ends_moved : {p : Parts} {ends : List ℕ} → SameButEnds p (with_ends p ends)
ends_moved = record { same_first = refl; same_second = refl; same_next = refl; same_pending = refl; same_spans = refl }

pub moved_then : {p q r : Parts} → SameButEnds p q → SameButEnds q r → SameButEnds p r
moved_then a b =
    record {
      same_first = b.same_first ∙ a.same_first;
      same_second = b.same_second ∙ a.same_second;
      same_next = b.same_next ∙ a.same_next;
      same_pending = b.same_pending ∙ a.same_pending;
      same_spans = b.same_spans ∙ a.same_spans;
    }

-- ---- empty deques, and others

pub none_kept : (d : List ℕ) → length d ≡ 0 → keep (λ e. not (is_empty e)) (d ∷ []) ≡ []
unfolding keep
none_kept [] h = refl
none_kept (x ∷ d) h = absurd (omega arith)

pub one_kept : (d : List ℕ) → (length d ≡ 0 → ⊥) → keep (λ e. not (is_empty e)) (d ∷ []) ≡ d ∷ []
unfolding keep
one_kept [] h = absurd (h refl)
one_kept (x ∷ d) h = refl

-- ---- the ring's end

-- a store past the entries in use leaves them as they were
module _ (next ends : List ℕ) (places : length ends ≡ 256) (head waiting : ℕ) (room : waiting < 64) (d : Deque) where
  abbrev after : List ℕ
  after = put_deque ends (ring_place head waiting) d

  put_past : muggable_view next after head waiting ≡ muggable_view next ends head waiting
  unfolding muggable_view
  put_past =
      table_same (λ i. deque_at next ends (ring_place head i)) (λ i. deque_at next after (ring_place head i)) waiting
      (λ i l. put_elsewhere next ends places (ring_place head waiting) (omega arith) d (ring_place head i) (omega arith) (λ e. omega arith))

  -- and so the deque that it puts there is one more muggable deque, at the end
  pub put_at_end : muggable_view next after head (suc waiting) ≡ muggable_view next ends head waiting ++ (tasks_of next d ∷ [])
  unfolding muggable_view
  put_at_end =
      table_more (λ i. deque_at next after (ring_place head i)) waiting
      ∙ rw (put_here next ends places (ring_place head waiting) (omega arith) d)
      (ap (λ (l : List (List ℕ)). l ++ (tasks_of next d ∷ [])) put_past)

-- a store in the ring leaves the workers' deques as they were
pub put_in_ring : (next ends : List ℕ) → length ends ≡ 256 → (place : ℕ) → 64 ≤ place → place < 128 → (d : Deque) → (k : ℕ) → k ≤ 64 →
    deques_view next (put_deque ends place d) k ≡ deques_view next ends k
unfolding deques_view
put_in_ring next ends places place low high d k few =
    table_same (deque_at next ends) (deque_at next (put_deque ends place d)) k
    (λ i l. put_elsewhere next ends places place high d i (omega arith) (λ e. omega arith))

-- ---- the ways out of `join`

module _ {ends : List ℕ} {head waiting worker : ℕ} (j : Joinable ends head waiting worker) where
  -- "empty ones vanish"
  pub join_empty : (ends_at ends worker).size ≡ 0 → Joined head ends waiting ends waiting (joining_deque ends worker)
  join_empty empty =
      record {
        places = j.places;
        at_end = λ next. simp (none_kept (deque_at next ends worker) (deque_length next ends worker ∙ empty), append-nil);
        workers_stay = λ next k few. refl;
      }

  -- "their non-empty lines join the end of the orphans"
  pub join_filled : ((ends_at ends worker).size ≡ 0 → ⊥) →
      Joined head ends waiting (put_deque ends (ring_place head waiting) (ends_at ends worker)) (waiting + 1) (joining_deque ends worker)
  join_filled filled =
      let d = ends_at ends worker in
      record {
        places = put_places [] ends j.places (ring_place head waiting) (omega arith) d;
        at_end = λ next.
            let one = one_kept (deque_at next ends worker) (λ e. filled (sym (deque_length next ends worker) ∙ e)) in
            rw (one, add-one waiting, deque_at_is next ends worker) (put_at_end next ends j.places head waiting (j.room filled) d);
        workers_stay = λ next k few. put_in_ring next ends j.places (ring_place head waiting) (omega arith) (omega arith) d k few;
      }
