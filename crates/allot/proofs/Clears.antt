-- New workers' deques are emptied one after the other.
use mathlib.Core.Path.{◌≡◌, refl, sym, ap, ◌∙◌}
use mathlib.Core.Bool.{Bool, true, false}
use mathlib.Core.List.{List, [], ◌++◌, map, append-nil, append_assoc}
use Prim.Native.Nat.{ℕ, suc, ◌+◌, ◌-◌, ◌≤◌, ◌<◌}
use native.Mathlib.Omega.{arith}
use native.Mathlib.Numerals.{add-one}
use lib.Dec.{leb}
use lib.ListN.{length, take, replicate, replicate-append-replicate}
use lib.Seq.{take_all, length-take-le, get_or-take, ext_get_or}
use borrow.Author.Tests.{leb-true, leb-false}
use Rattle.model.specs.Tests.{below}
use Rattle.model.specs.Machine.{kept_deques}
use Rattle.memory.specs.declared.Deque.{Deque}
use Rattle.memory.specs.View.{walk, put_deque, deque_at, deques_view, muggable_view}
use Rattle.lists.proofs.Tables.{table_more, table_length, table_at, table_same}
use Rattle.memory.proofs.Views.{workers_shown, put_places, put_here, put_elsewhere, put_muggable}
use Rattle.allot.specs.Grants.{Cleared}

-- no task
abbrev pub no_deque : Deque
no_deque = record { front = 0; size = 0 }

-- the deques from `workers` up to `worker` are empty
pub record Clearing (ends₀ : List ℕ) (workers g : ℕ) (ends : List ℕ) (worker : ℕ) : Type 0 where
  pub places : length ends ≡ 256
  pub only_new : g ≤ workers → worker ≤ workers
  pub emptied : (next : List ℕ) → deques_view next ends worker ≡ deques_view next ends₀ workers ++ replicate (worker - workers) []
  pub ring_stays : (next : List ℕ) (head waiting : ℕ) → muggable_view next ends head waiting ≡ muggable_view next ends₀ head waiting

-- the first deques of a view
take_view : (next ends : List ℕ) (k n : ℕ) → k ≤ n → take k (deques_view next ends n) ≡ deques_view next ends k
unfolding deques_view
take_view next ends k n h =
    let f = deque_at next ends in
    let few : k ≤ length (map f (below n)) = rw (table_length f n) h in
    let size : length (take k (map f (below n))) ≡ k = length-take-le k (map f (below n)) few in
    ext_get_or [] (take k (map f (below n))) (map f (below k)) (size ∙ sym (table_length f k))
    (λ i l.
    let below_k : i < k = rw size at l in
    get_or-take k (map f (below n)) i [] below_k ∙ table_at f n i [] (omega arith) ∙ sym (table_at f k i [] below_k))

module _ {ends₀ : List ℕ} {workers g : ℕ} {ends : List ℕ} {worker : ℕ} (at : Clearing ends₀ workers g ends worker)
    (from : workers ≤ worker) where
  pub clearing_more : g ≤ 64 → worker < g → Clearing ends₀ workers g (put_deque ends worker no_deque) (worker + 1)
  unfolding deques_view walk
  clearing_more few inside =
      record {
        places = put_places [] ends at.places worker (omega arith) no_deque;
        only_new = λ h. omega (arith, at.only_new h);
        emptied = λ next.
            let past : map (deque_at next (put_deque ends worker no_deque)) (below worker) ≡ deques_view next ends worker =
            table_same (deque_at next ends) (deque_at next (put_deque ends worker no_deque)) worker
            (λ i l. put_elsewhere next ends at.places worker (omega arith) no_deque i (omega arith) (λ e. omega arith)) in
            let more : suc worker - workers ≡ (worker - workers) + 1 = omega arith in
            rw (add-one worker)
            (table_more (deque_at next (put_deque ends worker no_deque)) worker
            ∙ rw (put_here next ends at.places worker (omega arith) no_deque, past, at.emptied next, append_assoc, more)
            (ap (λ (l : List (List ℕ)). deques_view next ends₀ workers ++ l) (replicate-append-replicate (worker - workers) 1 [])));
        ring_stays = λ next head waiting.
            put_muggable next ends at.places worker (omega arith) no_deque (omega arith) head waiting ∙ at.ring_stays next head waiting;
      }

  pub clearing_done : (workers ≤ g → worker ≤ g) → g ≤ worker → Cleared ends₀ workers g ends
  unfolding kept_deques
  clearing_done up_to past =
      record {
        places = at.places;
        kept = λ next. go next (leb workers g) refl;
        ring_stays = at.ring_stays;
      }
    where
      go : (next : List ℕ) (b : Bool) → leb workers g ≡ b → deques_view next ends g ≡ kept_deques g (deques_view next ends₀ workers)
      go next true e =
          let more = leb-true workers g e in
          let up = up_to more in
          let here : worker ≡ g = omega arith in
          let shown = workers_shown next ends₀ workers in
          rw (take_all g (deques_view next ends₀ workers) (rw shown more), shown) (rw here at (at.emptied next))
      go next false e =
          let less = leb-false workers g e in
          let only = at.only_new (omega arith) in
          let here : worker ≡ workers = omega arith in
          let none : workers - workers ≡ 0 = omega arith in
          let none_new : g - workers ≡ 0 = omega arith in
          let same : deques_view next ends workers ≡ deques_view next ends₀ workers ++ replicate (workers - workers) [] =
          rw here at (at.emptied next) in
          let same' : deques_view next ends workers ≡ deques_view next ends₀ workers = rw (none, append-nil) at same in
          rw (workers_shown next ends₀ workers, none_new, append-nil)
          (sym (take_view next ends g workers (omega arith)) ∙ ap (take g) same')
