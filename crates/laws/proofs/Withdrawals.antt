-- What a grant of g withdraws: of one worker more, its deque is the first (`last_withdrawn`), and of g workers or fewer none is
-- (`none_withdrawn`). So it is the deques of the workers from g on with tasks left, the highest worker's first (`highest_first`).
-- Assumes nothing.
use mathlib.Core.Path.{◌≡◌, refl, sym, ap, ◌∙◌}
use mathlib.Core.Bool.{Bool, true, false}
use mathlib.Core.Logic.{⊎_elim}
use mathlib.Core.List.{List, [], ◌∷◌, ◌++◌, map, reverse, reverse-append}
use mathlib.Core.List.Memᴰ
use mathlib.Core.List.{Memᴰ}
use Prim.Native.Nat.{ℕ, zero, suc, ◌≤◌, ◌<◌}
use native.Mathlib.Nat.{eq-or-lt_of_le, le_of_suc-le-suc, not-suc-le-zero}
use native.Mathlib.Omega.{arith}
use lib.Dec.{leb}
use lib.ListN.{length, get_or, take, drop, drop_of_length-le, length-map}
use lib.Seq.{drop-append-le, take-suc, take-length, length-take-le}
use borrow.Author.Tests.{leb-true, leb-false}
use Rattle.model.specs.Tests.{keep}
use Rattle.model.specs.Machine.{withdrawn_deques}
use Rattle.model.specs.Muggings.{HighestFirst}
use Rattle.lists.proofs.Lists.{keep_append, at_place, place_of}
use Rattle.laws.proofs.Deques.{non_empty, filled_within}

one_reversed : (d : List ℕ) → reverse (keep non_empty (d ∷ [])) ≡ keep non_empty (d ∷ [])
unfolding keep
one_reversed [] = refl
one_reversed (x ∷ d) = refl

pub last_withdrawn : (g : ℕ) (ds : List (List ℕ)) (d : List ℕ) → g ≤ length ds →
    withdrawn_deques g (ds ++ (d ∷ [])) ≡ keep non_empty (d ∷ []) ++ withdrawn_deques g ds
unfolding withdrawn_deques
last_withdrawn g ds d inside =
    ap (λ (l : List (List ℕ)). reverse (keep non_empty l)) (drop-append-le g ds (d ∷ []) inside)
    ∙ ap (λ (l : List (List ℕ)). reverse l) (keep_append non_empty (drop g ds) (d ∷ []))
    ∙ reverse-append (keep non_empty (drop g ds)) (keep non_empty (d ∷ []))
    ∙ ap (λ (l : List (List ℕ)). l ++ reverse (keep non_empty (drop g ds))) (one_reversed d)

pub none_withdrawn : (g : ℕ) (ds : List (List ℕ)) → length ds ≤ g → withdrawn_deques g ds ≡ []
unfolding withdrawn_deques keep
none_withdrawn g ds past = ap (λ (l : List (List ℕ)). reverse (keep non_empty l)) (drop_of_length-le ds past)

-- ---- the highest worker's first

module _ (g : ℕ) (ds : List (List ℕ)) where
  -- the same of the first n workers
  record Leaving (n : ℕ) : Type 0 where
    workers : List ℕ
    theirs : withdrawn_deques g (take n ds) ≡ map (λ w. get_or ds w []) workers
    falling : (i j : ℕ) → i < j → j < length workers → get_or workers j 0 < get_or workers i 0
    first : (w : ℕ) → Memᴰ w workers → w < n
    only : (w : ℕ) → Memᴰ w workers → (g ≤ w) × (1 ≤ length (get_or ds w []))
    all : (w : ℕ) → w < n → g ≤ w → 1 ≤ length (get_or ds w []) → Memᴰ w workers

  leaving_none : Leaving 0
  leaving_none =
      record {
        workers = [];
        theirs = none_withdrawn g [] (omega arith);
        falling = λ i j less within. absurd (not-suc-le-zero within);
        first = λ w m. absurd (Memᴰ.not-nil m);
        only = λ w m. absurd (Memᴰ.not-nil m);
        all = λ w within. absurd (not-suc-le-zero within);
      }

  module _ (n : ℕ) (within : n < length ds) (before : Leaving n) where
    one_more : take (suc n) ds ≡ take n ds ++ (get_or ds n [] ∷ [])
    one_more = take-suc ds n [] within

    n_taken : length (take n ds) ≡ n
    n_taken = length-take-le n ds (omega arith)

    -- the next worker is not withdrawn, or its deque is empty
    not_leaving : (g ≤ n → 1 ≤ length (get_or ds n []) → ⊥) → withdrawn_deques g (take (suc n) ds) ≡ withdrawn_deques g (take n ds) →
        Leaving (suc n)
    not_leaving stays same =
        record {
          workers = before.workers;
          theirs = same ∙ before.theirs;
          falling = before.falling;
          first = λ w m. omega (arith, before.first w m);
          only = before.only;
          all = λ w under up filled.
              ⊎_elim (λ e. absurd (stays (rw e at up) (rw e at filled))) (λ less. before.all w less up filled)
              (eq-or-lt_of_le (le_of_suc-le-suc under));
        }

    -- it is withdrawn, with a task in its deque
    leaving : g ≤ n → (t : ℕ) (rest : List ℕ) → get_or ds n [] ≡ t ∷ rest → Leaving (suc n)
    unfolding keep
    leaving up t rest own =
        record {
          workers = n ∷ before.workers;
          theirs =
              ap (withdrawn_deques g) one_more
              ∙ last_withdrawn g (take n ds) (get_or ds n []) (omega (arith, n_taken))
              ∙ rw own (ap (λ (l : List (List ℕ)). (t ∷ rest) ∷ l) before.theirs);
          falling = falls;
          first = λ w m. ⊎_elim (λ e. omega arith) (λ m. omega (arith, before.first w m)) (Memᴰ.cases_cons m);
          only = λ w m. ⊎_elim (λ e. rw e (up, rw own (omega arith))) (before.only w) (Memᴰ.cases_cons m);
          all = λ w under up filled.
              ⊎_elim (λ e. Memᴰ.head e) (λ less. Memᴰ.tail (before.all w less up filled))
              (eq-or-lt_of_le (le_of_suc-le-suc under));
        }
      where
        falls : (i j : ℕ) → i < j → j < suc (length before.workers) → get_or (n ∷ before.workers) j 0 < get_or (n ∷ before.workers) i 0
        falls i zero less inside = absurd (not-suc-le-zero less)
        falls zero (suc j) less inside =
            before.first (get_or before.workers j 0) (at_place before.workers j (le_of_suc-le-suc inside))
        falls (suc i) (suc j) less inside = before.falling i j (le_of_suc-le-suc less) (le_of_suc-le-suc inside)

    next_leaving : (b : Bool) → leb g n ≡ b → (d : List ℕ) → get_or ds n [] ≡ d → Leaving (suc n)
    unfolding keep
    next_leaving false below d own =
        let under = leb-false g n below in
        not_leaving (λ up filled. omega arith)
        (none_withdrawn g (take (suc n) ds) (omega (arith, length-take-le (suc n) ds within))
        ∙ sym (none_withdrawn g (take n ds) (omega (arith, n_taken))))
    next_leaving true up [] own =
        not_leaving (λ up filled. not-suc-le-zero (rw own at filled))
        (ap (withdrawn_deques g) one_more
        ∙ last_withdrawn g (take n ds) (get_or ds n []) (omega (arith, n_taken, leb-true g n up))
        ∙ rw own refl)
    next_leaving true up (t ∷ rest) own = leaving (leb-true g n up) t rest own

  first_leaving : (n : ℕ) → n ≤ length ds → Leaving n
  first_leaving zero within = leaving_none
  first_leaving (suc n) within = next_leaving n within (first_leaving n (omega arith)) (leb g n) refl (get_or ds n []) refl

  pub highest_first : HighestFirst g ds (withdrawn_deques g ds)
  highest_first =
      let all_of_them = first_leaving (length ds) (omega arith) in
      record {
        workers = all_of_them.workers;
        theirs = ap (withdrawn_deques g) (sym (take-length ds)) ∙ all_of_them.theirs;
        falling = all_of_them.falling;
        only = all_of_them.only;
        all = λ w up filled. all_of_them.all w (filled_within ds w filled) up filled;
      }

  -- so where a worker from g on has a task, something is withdrawn
  pub some_withdrawn : (w : ℕ) → g ≤ w → 1 ≤ length (get_or ds w []) → 1 ≤ length (withdrawn_deques g ds)
  some_withdrawn w up filled =
      let h = highest_first in
      let place = place_of w h.workers (h.all w up filled) in
      omega (arith, place.1, ap length h.theirs, length-map h.workers (λ v. get_or ds v []))
