-- The cycle of a worker whose deque is empty, counted in words and tally.
use mathlib.Core.Path.{◌≡◌, refl}
use mathlib.Core.List.{List}
use Prim.Native.Nat.{ℕ, ◌+◌, ◌≤◌, ◌<◌}
use native.Mathlib.Omega.{arith}
use lib.ListN.{set, length-set}
use lib.Seq.{get_or-set_other}
use Rattle.memory.specs.declared.Deque.{Deque}
use Rattle.memory.specs.Parts.{parts}
use Rattle.memory.specs.Words.{word, numbers_in}
use Rattle.memory.specs.View.{ends_at, put_part, ring_place}
use Rattle.deque.specs.Links.{Robbable, robbed}
use Rattle.tally.specs.declared.Tally.{Tally}
use Rattle.tally.specs.Tallies.{add_mug}
use Rattle.turn.specs.Turns.{SameButSuccesses, IdleTurn, Idled}
use Rattle.tally.proofs.Tallying.{mug_added, steal_added, success_added}
use Rattle.turn.proofs.Mugging.{cycled_mug}
use Rattle.turn.proofs.Stealing.{robbable, cycled_nothing, cycled_theft}

pub same_words : (words : List ℕ) → SameButSuccesses words words
same_words words = record { same_length = refl; same_others = λ place ne. refl }

module _ {memory words : List ℕ} {w choice : ℕ} {t : Tally} (turn : IdleTurn memory words w choice t) where
  pub idled_mug : {n : ℕ} {memory' : List ℕ} {t' : Tally} → n ≡ t.mugs.0 → n < word words 9 →
      parts memory' ≡ put_part (parts memory) w (ends_at (parts memory).ends (ring_place (word words 8) n)) → t' ≡ add_mug t →
      Idled memory words w choice t memory' words t'
  idled_mug number some put added =
      rw added
      (record {
        cycled = rw (put, number, mug_added (numbers_in words) w t) (cycled_mug turn.turn (omega arith) turn.empty);
        same_works = refl;
        counted = omega (arith, turn.addable.counted);
        same_words = same_words words;
      })

  module _ {n : ℕ} {chosen : Deque} (number : n ≡ t.mugs.0) (none : word words 9 ≤ n)
      (reads : chosen ≡ ends_at (parts memory).ends choice) where
    pub may_rob : 1 < chosen.size → Robbable (parts memory) w choice
    may_rob many = robbable turn.turn (rw reads at many)

    pub idled_nothing : chosen.size ≤ 1 → Idled memory words w choice t memory words t
    idled_nothing few =
        record {
          cycled =
              rw (steal_added (numbers_in words) w t turn.addable.counted)
              (cycled_nothing turn.turn turn.empty (omega arith) (omega (arith, rw reads at few)));
          same_works = refl;
          counted = omega (arith, turn.addable.counted);
          same_words = same_words words;
        }

    pub idled_theft : {memory' words' : List ℕ} → 1 < chosen.size →
        parts memory' ≡ robbed (parts memory) w choice → words' ≡ set words 6 (word words 6 + 1) →
        Idled memory words w choice t memory' words' t
    idled_theft many theft stored =
        rw stored
        (record {
          cycled =
              rw (success_added words w t turn.addable.counted turn.addable.size, theft)
              (cycled_theft turn.turn (rw reads at many) turn.empty (omega arith));
          same_works = refl;
          counted = omega (arith, turn.addable.counted);
          same_words =
              record {
                same_length = length-set words 6 (word words 6 + 1);
                same_others = λ place ne. get_or-set_other words 6 place (word words 6 + 1) 0 ne;
              };
        })
