-- The end of a tick: with the tick counted, and the quantum closed where it ends, the words show the model's state.
-- One law for each way out.
-- Assumes nothing.
use mathlib.Core.Path.{◌≡◌, refl, sym, ◌∙◌}
use mathlib.Core.Bool.{true, false, not, and-false}
use mathlib.Core.List.{List}
use Prim.Native.Nat.{ℕ, suc, ◌+◌}
use native.Mathlib.Numerals.{add-one}
use native.Mathlib.Omega.{arith}
use lib.ListN.{length, set}
use lib.Seq.{get_or-set_same, get_or-set_other}
use borrow.Author.Tests.{eq-eqb, ne_eqb}
use Rattle.model.specs.Tests.{count_set}
use Rattle.model.specs.Machine.{Wish, finished, closes, closed}
use Rattle.quantum.specs.Closing.{Closed}
use Rattle.memory.specs.Parts.{parts}
use Rattle.memory.specs.Words.{word, word_count, numbers_in, terms_in, wish_in, open_in}
use Rattle.memory.specs.View.{view}
use Rattle.memory.specs.Sound.{worked_in}
use Rattle.memory.specs.Jobs.{lent, job_plan, job_state}
use Rattle.memory.proofs.Views.{workers_shown, finished_shown}
use Rattle.memory.proofs.Words.{row_of, by_words}
use Rattle.clock.specs.Clock.{tick_counted, quantum_ended, TickEnded}

-- the tick counted, and the quantum closed besides, with the next wish
abbrev pub counted_words : List ℕ → List ℕ
counted_words words = set words 16 (word words 16 + 1)

abbrev pub closed_words : List ℕ → Wish → List ℕ
closed_words words wish = set (set (set (counted_words words) 19 wish.power) 13 wish.desire) 15 0

counted_other : (words : List ℕ) (place : ℕ) → (place ≡ 16 → ⊥) → word (counted_words words) place ≡ word words place
counted_other words place ne = get_or-set_other words 16 place (word words 16 + 1) 0 ne

-- where the quantum does not end, the tick is counted and nothing else is written
stays_open : (words : List ℕ) → length words ≡ word_count → open_in words ≡ true → ((memory : List ℕ) →
    (numbers_in words).done ≡ count_set (worked_in (parts memory) (numbers_in words)) →
    closes (job_plan (lent memory words)) (tick_counted (lent memory words)) ≡ false) → TickEnded words (counted_words words)
unfolding job_state quantum_ended job_plan
stays_open =
    by_words
    (λ (l : List ℕ). open_in l ≡ true → ((memory : List ℕ) →
    (numbers_in l).done ≡ count_set (worked_in (parts memory) (numbers_in l)) →
    closes (job_plan (lent memory l)) (tick_counted (lent memory l)) ≡ false) → TickEnded l (counted_words l))
    (λ w is_open unclosed.
    record {
      shows = λ memory right. rw (unclosed memory right, is_open, add-one) refl;
      rest = record { same_size = refl; same_numbers = refl; same_plan = λ memory. refl };
    })

module _ (words : List ℕ) (sized : length words ≡ word_count) (is_open : open_in words ≡ true) where
  -- all tasks are worked: the quantum never closes
  pub finished_ended : word (counted_words words) 2 ≡ word (counted_words words) 0 → TickEnded words (counted_words words)
  unfolding closes job_plan
  finished_ended all_done =
      let same : word words 2 ≡ word words 0 =
      sym (counted_other words 2 (λ e. omega arith)) ∙ all_done ∙ counted_other words 0 (λ e. omega arith) in
      stays_open words sized is_open
      (λ memory right. rw (finished_shown (parts memory) (numbers_in words) right, eq-eqb (word words 2) (word words 0) same) refl)

  -- more ticks are due
  pub unclosed_ended : (word (counted_words words) 16 ≡ word (counted_words words) 12 → ⊥) → TickEnded words (counted_words words)
  unfolding closes job_plan
  unclosed_ended more =
      let ticks : word (counted_words words) 16 ≡ suc (word words 16) =
      get_or-set_same words 16 (word words 16 + 1) 0 (omega arith) ∙ add-one (word words 16) in
      let its_length : word (counted_words words) 12 ≡ word words 12 = counted_other words 12 (λ e. omega arith) in
      stays_open words sized is_open
      (λ memory right.
      rw (ne_eqb (suc (word words 16)) (word words 12) (λ same. more (ticks ∙ same ∙ sym its_length)))
      (and-false (not (finished (view (parts memory) (numbers_in words))))))

-- the quantum closes
pub closed_ended : (words : List ℕ) → length words ≡ word_count → (word (counted_words words) 2 ≡ word (counted_words words) 0 → ⊥) →
    word (counted_words words) 16 ≡ word (counted_words words) 12 → (wish : Wish) →
    Closed (terms_in (counted_words words)) (wish_in (counted_words words)) (word (counted_words words) 1) (word (counted_words words) 7)
    wish → TickEnded words (closed_words words wish)
unfolding job_state quantum_ended closes closed job_plan
closed_ended words sized undone last wish after =
    by_words
    (λ (l : List ℕ). let counted = counted_words l in
    (word counted 2 ≡ word counted 0 → ⊥) → word counted 16 ≡ word counted 12 →
    Closed (terms_in counted) (wish_in counted) (word counted 1) (word counted 7) wish →
    TickEnded l (closed_words l wish))
    (λ w left end next.
    record {
      shows = λ memory right.
          rw (
            finished_shown (parts memory) (numbers_in (row_of w)) right,
            ne_eqb (w 2) (w 0) left,
            eq-eqb (suc (w 16)) (w 12) (sym (add-one (w 16)) ∙ end),
            workers_shown,
            next.next,
          )
          refl;
      rest = record { same_size = refl; same_numbers = refl; same_plan = λ memory. refl };
    })
    words sized undone last after
