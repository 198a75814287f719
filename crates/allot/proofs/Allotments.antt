-- A grant: what it asks of its steps, and what the memory and the words show after it.
use mathlib.Core.Path.{◌≡◌, refl, sym, ap, ◌∙◌}
use mathlib.Core.Bool.{false, not}
use mathlib.Core.List.{List, [], ◌∷◌, ◌++◌}
use Prim.Native.Nat.{ℕ, zero, suc, ◌<◌}
use native.Mathlib.Omega.{arith}
use native.Mathlib.Nat.{sub-zero}
use lib.ListN.{length, set}
use borrow.Author.Tests.{eq-eqb, ne_eqb}
use Rattle.model.specs.Tests.{below}
use Rattle.model.specs.Machine.{grant, kept_deques, place_first_task, first_task_placed}
use Rattle.laws.proofs.Grants.{kept_and_withdrawn_busy}
use Rattle.memory.specs.declared.Deque.{Deque}
use Rattle.memory.specs.Parts.{Parts, parts, SameButEnds}
use Rattle.memory.specs.Words.{word, word_count, Numbers, numbers_in, started_in, SameTail}
use Rattle.memory.specs.View.{walk, put_part, deques_view, muggable_view, view}
use Rattle.memory.proofs.Views.{muggable_shown, put_places, put_deques, put_muggable}
use Rattle.memory.proofs.Words.{by_words, tail_then, tail_store}
use Rattle.allot.specs.Grants.{Joined, joining_withdrawn, Withdrawable, Cleared, numbers_after, Grantable, Granted}
use Rattle.allot.proofs.Ring.{ends_moved, moved_then}

-- ---- the words

-- the words after a grant of g that leaves so many muggable deques
abbrev pub words_after : List ℕ → ℕ → ℕ → List ℕ
words_after words g waiting = set (set (set words 9 waiting) 1 g) 7 0

module _ (words : List ℕ) (g waiting : ℕ) where
  numbers_stored : length words ≡ word_count → numbers_in (words_after words g waiting) ≡ numbers_after (numbers_in words) g waiting
  numbers_stored size =
      by_words (λ (l : List ℕ). numbers_in (words_after l g waiting) ≡ numbers_after (numbers_in l) g waiting)
      (λ w. refl) words size

  tail_stored : SameTail words (words_after words g waiting)
  tail_stored =
      tail_then (tail_store words 9 waiting (omega arith))
      (tail_then (tail_store (set words 9 waiting) 1 g (omega arith)) (tail_store (set (set words 9 waiting) 1 g) 7 0 (omega arith)))

-- ---- the deques

-- task 0 alone
abbrev pub first_task : Deque
first_task = record { front = 0; size = 1 }

no_workers : (next ends : List ℕ) (k : ℕ) → k ≡ 0 → deques_view next ends k ≡ []
unfolding deques_view below
no_workers next ends k e = rw e refl

-- among new empty deques
first_placed : (g : ℕ) (ds : List (List ℕ)) → 0 < g → ds ≡ [] → set (kept_deques g ds) 0 (0 ∷ []) ≡ place_first_task (kept_deques g ds)
unfolding kept_deques
first_placed zero ds h e = absurd (omega arith)
first_placed (suc n) ds h e = rw (e, sub-zero) refl

-- ---- the grant

module _ {memory words : List ℕ} {g : ℕ} (w : Grantable memory words g) where
  abbrev p : Parts
  p = parts memory

  abbrev m : Numbers
  m = numbers_in words

  pub withdrawable : Withdrawable p.ends m.head m.waiting g m.workers
  withdrawable =
      let next = p.next in
      let shown = muggable_shown next p.ends m.head m.waiting in
      record {
        places = w.places;
        head_in_ring = w.head_in_ring;
        some_workers = w.few_workers;
        links = next;
        room = omega (arith, w.room, kept_and_withdrawn_busy g (deques_view next p.ends m.workers));
      }

  -- what the grant leaves of the deques, and adds to the muggable ones
  abbrev kept : List ℕ → List (List ℕ)
  kept next = kept_deques g (deques_view next p.ends m.workers)

  abbrev with_withdrawn : List ℕ → List (List ℕ)
  with_withdrawn next = muggable_view next p.ends m.head m.waiting ++ joining_withdrawn p.ends g m.workers next

  -- a grant, by what it shows of the two
  granted : {memory' : List ℕ} (waiting : ℕ) (p' : Parts) → parts memory' ≡ p' → SameButEnds p p' → length p'.ends ≡ 256 →
      ((next : List ℕ) → deques_view next p'.ends g ≡ first_task_placed (started_in words) (kept next)) →
      ((next : List ℕ) → muggable_view next p'.ends m.head waiting ≡ with_withdrawn next) →
      Granted memory words g memory' (words_after words g waiting)
  unfolding grant
  granted waiting p' is same places deques ring =
      let stored = numbers_stored words g waiting w.size in
      record {
        shown = λ s e st.
            rw is
            (ap (view p') stored
            ∙ rw (same.same_next, same.same_spans, e, st, deques p.next, ring p.next) refl);
        same_parts = rw is same;
        places = rw is places;
        numbers = stored ∙ ap (λ (n : Numbers). numbers_after m g n.waiting) (sym stored);
        tail = tail_stored words g waiting;
      }

  -- after the withdrawal and the clearing
  module _ {q r : Parts} {waiting : ℕ}
      (j : Joined m.head p.ends m.waiting q.ends waiting (joining_withdrawn p.ends g m.workers)) (moved : SameButEnds p q)
      (c : Cleared q.ends m.workers g r.ends) (moved' : SameButEnds q r) where
    kept_shown : (next : List ℕ) → deques_view next r.ends g ≡ kept next
    kept_shown next = c.kept next ∙ ap (kept_deques g) (j.workers_stay next m.workers w.few_workers)

    ring_shown : (next : List ℕ) → muggable_view next r.ends m.head waiting ≡ with_withdrawn next
    ring_shown next = c.ring_stays next m.head waiting ∙ j.at_end next

    -- a count above 0 was granted before
    pub granted_later : (word words 14 ≡ 0 → ⊥) → {memory' : List ℕ} → parts memory' ≡ r →
        Granted memory words g memory' (words_after words g waiting)
    unfolding first_task_placed
    granted_later started is =
        granted waiting r is (moved_then moved moved') c.places
        (λ next. rw (ne_eqb (word words 14) 0 started) (kept_shown next)) ring_shown

    unset : word words 14 ≡ 0 → started_in words ≡ false
    unset none = ap not (eq-eqb (word words 14) 0 none)

    -- there is no worker 0 yet
    pub granted_nothing : word words 14 ≡ 0 → g ≡ 0 → {memory' : List ℕ} → parts memory' ≡ r →
        Granted memory words g memory' (words_after words g waiting)
    unfolding first_task_placed
    granted_nothing e none is =
        granted waiting r is (moved_then moved moved') c.places
        (λ next. rw (unset e, sym (kept_shown next), no_workers next r.ends g none) refl) ring_shown

    -- "The first grant above 0 puts piece 0 in worker 0's line."
    pub granted_first : word words 14 ≡ 0 → (g ≡ 0 → ⊥) → {memory' : List ℕ} → parts memory' ≡ put_part r 0 first_task →
        Granted memory words g memory' (words_after words g waiting)
    unfolding first_task_placed walk
    granted_first e some is =
        granted waiting (put_part r 0 first_task) is (moved_then moved (moved_then moved' ends_moved))
        (put_places [] r.ends c.places 0 (omega arith) first_task)
        (λ next.
        let none = no_workers next p.ends m.workers (w.unstarted (unset e)) in
        rw (unset e)
        (put_deques next r.ends c.places 0 (omega arith) first_task g (omega arith) w.at_most
        ∙ rw (kept_shown next) (first_placed g (deques_view next p.ends m.workers) (omega arith) none)))
        (λ next. put_muggable next r.ends c.places 0 (omega arith) first_task (omega arith) m.head waiting ∙ ring_shown next)
