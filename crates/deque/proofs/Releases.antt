-- What `release` and `release_successors` promise on each way out.
use mathlib.Core.Path.{◌≡◌, refl, sym, ◌∙◌}
use mathlib.Core.Bool.{Bool, true, false, cond, not, ◌&&◌}
use mathlib.Core.List.{List, [], ◌∷◌, ◌++◌, Memᴰ}
use Prim.Native.Nat.{ℕ, ◌+◌, ◌-◌, ◌≤◌, ◌<◌}
use native.Mathlib.Omega.{arith}
use lib.Dec.{eqb, leb}
use lib.ListN.{length, get_or, set, length-set}
use lib.Seq.{get_or-set_same, get_or-set_other}
use borrow.Author.Tests.{eqb-true, eqb-false, eq-eqb, ne_eqb, lt-leb, le-leb}
use Rattle.model.specs.Tests.{keep, occurrences}
use Rattle.memory.specs.declared.Deque.{Deque}
use Rattle.memory.specs.Parts.{Parts, with_next, with_pending, SameButLinks}
use Rattle.memory.specs.Graphs.{shown}
use Rattle.memory.specs.View.{tasks_of}
use Rattle.memory.proofs.Walks.{walk_push, walk_set}
use Rattle.deque.specs.Releasing.{becomes_ready, Releasable, Released, one_less, AllReleasable, AllReleased, each_less, last_awaited}

pub same_rest : (p : Parts) → SameButLinks p p
same_rest p = record { same_first = refl; same_second = refl; same_ends = refl; same_spans = refl }

same_rest_after : {p q r : Parts} → SameButLinks p q → SameButLinks q r → SameButLinks p r
same_rest_after a b =
    record {
      same_first = b.same_first ∙ a.same_first;
      same_second = b.same_second ∙ a.same_second;
      same_ends = b.same_ends ∙ a.same_ends;
      same_spans = b.same_spans ∙ a.same_spans;
    }

module _ (p : Parts) (task : ℕ) (deque : Deque) where
  -- an unused field
  pub released_none : task ≡ 0 → Released p task deque p deque
  unfolding one_less
  released_none z =
      let off : eqb task 0 ≡ true = eq-eqb task 0 z in
      record { counted = rw off; pushed = rw off; undisturbed = λ f s h. refl; same_links = refl; grown = omega arith; rest = same_rest p }

  -- the task still awaits another one
  pub released_later : (task ≡ 0 → ⊥) → 1 < get_or p.pending task 0 →
      Released p task deque (with_pending p (set p.pending task (get_or p.pending task 0 - 1))) deque
  unfolding one_less
  released_later nz more =
      let on : eqb task 0 ≡ false = ne_eqb task 0 nz in
      let later : leb (get_or p.pending task 0) 1 ≡ false = lt-leb (get_or p.pending task 0) 1 more in
      record {
        counted = rw on;
        pushed = rw (on, later);
        undisturbed = λ f s h. refl;
        same_links = refl;
        grown = omega arith;
        rest = record { same_first = refl; same_second = refl; same_ends = refl; same_spans = refl };
      }

  -- it awaits none any more, and is pushed
  pub released_now : Releasable p task deque → (task ≡ 0 → ⊥) → get_or p.pending task 0 ≤ 1 →
      Released p task deque
      (with_next (with_pending p (set p.pending task (get_or p.pending task 0 - 1))) (set p.next task deque.front))
      (record { front = task; size = deque.size + 1 })
  unfolding one_less
  released_now r nz few =
      let on : eqb task 0 ≡ false = ne_eqb task 0 nz in
      let now : leb (get_or p.pending task 0) 1 ≡ true = le-leb (get_or p.pending task 0) 1 few in
      record {
        counted = rw on;
        pushed = rw (on, now) (walk_push p.next task deque.front deque.size (rw r.links r.inside) (r.elsewhere nz));
        undisturbed = λ f s h. walk_set p.next task deque.front f s (h nz);
        same_links = simp length-set;
        grown = omega arith;
        rest = record { same_first = refl; same_second = refl; same_ends = refl; same_spans = refl };
      }

-- ---- both successors

shown_none : (one two : ℕ) → one ≡ 0 → shown one two ≡ []
unfolding shown
shown_none one two z = rw (eq-eqb one 0 z)

shown_one : (one two : ℕ) → (one ≡ 0 → ⊥) → two ≡ 0 → shown one two ≡ one ∷ []
unfolding shown
shown_one one two nz z = rw (ne_eqb one 0 nz, eq-eqb two 0 z)

shown_both : (one two : ℕ) → (one ≡ 0 → ⊥) → (two ≡ 0 → ⊥) → shown one two ≡ one ∷ two ∷ []
unfolding shown
shown_both one two nz nz' = rw (ne_eqb one 0 nz, ne_eqb two 0 nz')

-- used fields are among the successors
first_shown : (one two : ℕ) → (one ≡ 0 → ⊥) → Memᴰ one (shown one two)
first_shown one two nz = go (eqb two 0) refl
  where
    go : (b : Bool) → eqb two 0 ≡ b → Memᴰ one (shown one two)
    go true e = rw (shown_one one two nz (eqb-true two 0 e)) (Memᴰ.head refl)
    go false e = rw (shown_both one two nz (eqb-false two 0 e)) (Memᴰ.head refl)

second_shown : (one two : ℕ) → (one ≡ 0 → ⊥) → (two ≡ 0 → ⊥) → Memᴰ two (shown one two)
second_shown one two nz nz' = rw (shown_both one two nz nz') (Memᴰ.tail (Memᴰ.head refl))

-- the second successor before the rest, and the first before that
placed_before : (a b : Bool) (one two : ℕ) (ts : List ℕ) →
    cond a (one ∷ cond b (two ∷ ts) ts) (cond b (two ∷ ts) ts) ≡ cond a (one ∷ cond b (two ∷ []) []) (cond b (two ∷ []) []) ++ ts
placed_before true true one two ts = refl
placed_before true false one two ts = refl
placed_before false true one two ts = refl
placed_before false false one two ts = refl

module _ (p : Parts) (one two : ℕ) (deque : Deque) where
  pub all_none : one ≡ 0 → AllReleased p one two deque p deque
  unfolding each_less keep
  all_none z =
      let none = shown_none one two z in
      record { counted = rw none; pushed = rw none; undisturbed = λ f s h. refl; same_links = refl; rest = same_rest p }

  module _ (r : AllReleasable p one two deque) (nz : one ≡ 0 → ⊥) where
    pub second_releasable : Releasable p two deque
    second_releasable =
        record {
          links = r.links;
          inside = go (eqb two 0) refl;
          awaits = λ nz'. r.awaits two (second_shown one two nz nz');
          elsewhere = λ nz'. r.elsewhere two (second_shown one two nz nz');
          room = omega (arith, r.room);
        }
      where
        go : (b : Bool) → eqb two 0 ≡ b → two < 1024
        go true e = omega (arith, eqb-true two 0 e)
        go false e = r.inside two (second_shown one two nz (eqb-false two 0 e))

    -- what the second one's release leaves of the first one's number
    still_awaits : get_or (one_less p.pending two) one 0 ≡ get_or p.pending one 0
    unfolding one_less
    still_awaits = go (eqb two 0)
      where
        go : (b : Bool) → get_or (cond b p.pending (set p.pending two (get_or p.pending two 0 - 1))) one 0 ≡ get_or p.pending one 0
        go true = refl
        go false = get_or-set_other p.pending two one (get_or p.pending two 0 - 1) 0 (r.apart nz)

    module _ {p' : Parts} {deque' : Deque} (second : Released p two deque p' deque') where
      still_elsewhere : occurrences one (tasks_of p'.next deque') ≡ 0
      unfolding occurrences
      still_elsewhere = rw second.pushed (go (becomes_ready p.pending two))
        where
          out : occurrences one (tasks_of p.next deque) ≡ 0
          out = r.elsewhere one (first_shown one two nz)

          go : (b : Bool) → occurrences one (cond b (two ∷ tasks_of p.next deque) (tasks_of p.next deque)) ≡ 0
          go true = rw (ne_eqb one two (r.apart nz), out)
          go false = out

      pub first_releasable : Releasable p' one deque'
      first_releasable =
          record {
            links = second.same_links ∙ r.links;
            inside = r.inside one (first_shown one two nz);
            awaits = λ _. rw (second.counted, still_awaits) (r.awaits one (first_shown one two nz));
            elsewhere = λ _. still_elsewhere;
            room = omega (arith, r.room, second.grown);
          }

      module _ {p'' : Parts} {deque'' : Deque} (first : Released p' one deque' p'' deque'') where
        first_ready : becomes_ready p'.pending one ≡ last_awaited p.pending one
        first_ready = rw (ne_eqb one 0 nz, second.counted, still_awaits)

        all_counted : p''.pending ≡ each_less p.pending (shown one two)
        unfolding one_less each_less
        all_counted = first.counted ∙ rw (ne_eqb one 0 nz, second.counted) (go (eqb two 0) refl)
          where
            go : (b : Bool) → eqb two 0 ≡ b →
                set (one_less p.pending two) one (get_or (one_less p.pending two) one 0 - 1) ≡ each_less p.pending (shown one two)
            go true e = rw (shown_one one two nz (eqb-true two 0 e), e)
            go false e = rw (shown_both one two nz (eqb-false two 0 e), e)

        all_pushed : tasks_of p''.next deque'' ≡ keep (last_awaited p.pending) (shown one two) ++ tasks_of p.next deque
        unfolding keep
        all_pushed = first.pushed ∙ rw (first_ready, second.pushed) (go (eqb two 0) refl)
          where
            go : (b : Bool) → eqb two 0 ≡ b →
                cond (last_awaited p.pending one)
                (one ∷ cond (not (eqb two 0) && last_awaited p.pending two) (two ∷ tasks_of p.next deque) (tasks_of p.next deque))
                (cond (not (eqb two 0) && last_awaited p.pending two) (two ∷ tasks_of p.next deque) (tasks_of p.next deque))
                ≡ keep (last_awaited p.pending) (shown one two) ++ tasks_of p.next deque
            go true e =
                rw (shown_one one two nz (eqb-true two 0 e), e)
                (placed_before (last_awaited p.pending one) false one two (tasks_of p.next deque))
            go false e =
                rw (shown_both one two nz (eqb-false two 0 e), e)
                (placed_before (last_awaited p.pending one) (last_awaited p.pending two) one two (tasks_of p.next deque))

        pub all_released : AllReleased p one two deque p'' deque''
        all_released =
            record {
              counted = all_counted;
              pushed = all_pushed;
              undisturbed = λ f s h.
                  let before = second.undisturbed f s (λ nz'. h two (second_shown one two nz nz')) in
                  first.undisturbed f s (λ _. rw before (h one (first_shown one two nz))) ∙ before;
              same_links = first.same_links ∙ second.same_links;
              rest = same_rest_after second.rest first.rest;
            }

-- ---- numbers counted down

pub less_length : (pending ss : List ℕ) → length (each_less pending ss) ≡ length pending
unfolding each_less
less_length pending [] = refl
less_length pending (s ∷ ss) = length-set (each_less pending ss) s (get_or (each_less pending ss) s 0 - 1) ∙ less_length pending ss

pub less_at : (pending ss : List ℕ) → ((s : ℕ) → Memᴰ s ss → s < length pending) → (x : ℕ) →
    get_or (each_less pending ss) x 0 ≡ get_or pending x 0 - occurrences x ss
unfolding each_less occurrences
less_at pending [] inside x = omega arith
less_at pending (s ∷ ss) inside x = go (less_at pending ss (λ r m. inside r (Memᴰ.tail m)) x) (eqb x s) refl
  where
    go : get_or (each_less pending ss) x 0 ≡ get_or pending x 0 - occurrences x ss → (b : Bool) → eqb x s ≡ b →
        get_or (set (each_less pending ss) s (get_or (each_less pending ss) s 0 - 1)) x 0
        ≡ get_or pending x 0 - (cond b 1 0 + occurrences x ss)
    go onward true e =
        let same = eqb-true x s e in
        rw (sym same)
        (get_or-set_same (each_less pending ss) x (get_or (each_less pending ss) x 0 - 1) 0
        (rw (less_length pending ss, same) (inside s (Memᴰ.head refl)))
        ∙ omega arith)
    go onward false e =
        get_or-set_other (each_less pending ss) s x (get_or (each_less pending ss) s 0 - 1) 0 (eqb-false x s e) ∙ omega arith
