-- The withdrawn workers' deques join one after the other: what has joined and what has yet to join is together what is to join.
use mathlib.Core.Path.{◌≡◌, refl, sym, ap, ◌∙◌}
use mathlib.Core.List.{List, [], ◌∷◌, ◌++◌, append-nil, append_assoc}
use Prim.Native.Nat.{ℕ, ◌+◌, ◌-◌, ◌≤◌, ◌<◌}
use native.Mathlib.Omega.{arith}
use lib.ListN.{length, get_or, length-append}
use Rattle.model.specs.Machine.{withdrawn_deques}
use Rattle.memory.specs.View.{deque_at, deques_view, muggable_view}
use Rattle.lists.proofs.Tables.{table_more}
use Rattle.laws.proofs.Withdrawals.{last_withdrawn, none_withdrawn, some_withdrawn}
use Rattle.memory.proofs.Views.{deque_length, worker_at, workers_shown, muggable_shown}
use Rattle.allot.specs.Grants.{Joined, joining_deque, Joinable, joining_withdrawn, Withdrawable}

-- of the first `left` workers none has joined yet, of the others all have
pub record Withdrawing (ends₀ : List ℕ) (head waiting₀ g workers : ℕ) (ends : List ℕ) (waiting left : ℕ) : Type 0 where
  pub places : length ends ≡ 256
  pub few : left ≤ 64
  pub all : (next : List ℕ) →
      muggable_view next ends head waiting ++ joining_withdrawn ends₀ g left next
      ≡ muggable_view next ends₀ head waiting₀ ++ joining_withdrawn ends₀ g workers next
  pub workers_stay : (next : List ℕ) (k : ℕ) → k ≤ 64 → deques_view next ends k ≡ deques_view next ends₀ k

pub withdrawing_none : {ends : List ℕ} {head waiting g workers : ℕ} → Withdrawable ends head waiting g workers →
    Withdrawing ends head waiting g workers ends waiting workers
withdrawing_none w = record { places = w.places; few = w.some_workers; all = λ next. refl; workers_stay = λ next k few. refl }

module _ {ends₀ : List ℕ} {head waiting₀ g workers : ℕ} (w : Withdrawable ends₀ head waiting₀ g workers)
    {ends : List ℕ} {waiting left : ℕ} (at : Withdrawing ends₀ head waiting₀ g workers ends waiting left) where
  -- so many wait, and so many have yet to join
  total : waiting + length (joining_withdrawn ends₀ g left w.links) ≤ 64
  total =
      let next = w.links in
      let same = ap length (at.all next) in
      let joined = length-append (muggable_view next ends head waiting) (joining_withdrawn ends₀ g left next) in
      let to_join = length-append (muggable_view next ends₀ head waiting₀) (joining_withdrawn ends₀ g workers next) in
      omega (arith, w.room, muggable_shown next ends head waiting, muggable_shown next ends₀ head waiting₀)

  -- so there is room for each that has yet to join
  pub withdrawing_room : {worker : ℕ} → g ≤ worker → worker < left → Joinable ends head waiting worker
  withdrawing_room {worker} up under =
      let next = w.links in
      let stays = at.workers_stay next left at.few in
      let here = ap length (ap (λ (ds : List (List ℕ)). get_or ds worker []) (sym stays) ∙ worker_at next ends left worker under) in
      record {
        places = at.places;
        head_in_ring = w.head_in_ring;
        a_worker = omega (arith, at.few);
        few = omega (arith, total);
        room = λ filled.
            let size = here ∙ deque_length next ends worker in
            let some = some_withdrawn g (deques_view next ends₀ left) worker up (omega (arith, filled)) in
            omega (arith, total);
      }

  module _ (inside : g < left) where
    -- the worker whose deque joins next
    abbrev last : ℕ
    last = left - 1

    one_less : (next : List ℕ) → deques_view next ends left ≡ deques_view next ends last ++ (deque_at next ends last ∷ [])
    unfolding deques_view
    one_less next = ap (deques_view next ends) (omega arith) ∙ table_more (deque_at next ends) last

    -- what it adds
    first : (next : List ℕ) →
        joining_withdrawn ends₀ g left next ≡ joining_deque ends last next ++ joining_withdrawn ends₀ g last next
    first next =
        ap (withdrawn_deques g) (sym (at.workers_stay next left at.few) ∙ one_less next)
        ∙ last_withdrawn g (deques_view next ends last) (deque_at next ends last) (omega (arith, workers_shown next ends last))
        ∙ ap (λ (ds : List (List ℕ)). joining_deque ends last next ++ withdrawn_deques g ds)
        (at.workers_stay next last (omega (arith, at.few)))

    pub withdrawing_more : {ends' : List ℕ} {waiting' : ℕ} → Joined head ends waiting ends' waiting' (joining_deque ends last) →
        Withdrawing ends₀ head waiting₀ g workers ends' waiting' last
    withdrawing_more j =
        record {
          places = j.places;
          few = omega (arith, at.few);
          all = λ next. rw (j.at_end next, append_assoc) (rw (sym (first next)) (at.all next));
          workers_stay = λ next k few. j.workers_stay next k few ∙ at.workers_stay next k few;
        }

  pub withdrawing_done : left ≤ g → Joined head ends₀ waiting₀ ends waiting (joining_withdrawn ends₀ g workers)
  withdrawing_done past =
      record {
        places = at.places;
        at_end = λ next.
            let none = none_withdrawn g (deques_view next ends₀ left) (rw (workers_shown next ends₀ left) past) in
            sym (append-nil (muggable_view next ends head waiting)) ∙ (rw none at (at.all next));
        workers_stay = at.workers_stay;
      }
