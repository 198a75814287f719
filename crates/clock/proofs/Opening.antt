-- A quantum opens: the words with it show the model's state.
-- Assumes nothing.
use mathlib.Core.Path.{◌≡◌, refl}
use mathlib.Core.List.{List}
use Prim.Native.Nat.{ℕ, ◌+◌, ◌≤◌, ◌<◌}
use native.Mathlib.Numerals.{add-one}
use native.Mathlib.Omega.{arith}
use lib.ListN.{length, set}
use borrow.Author.Tests.{eq-eqb, ne_eqb}
use Rattle.memory.specs.Words.{word, word_count}
use Rattle.memory.specs.Jobs.{job_plan, job_state}
use Rattle.memory.proofs.Words.{by_words}
use Rattle.clock.specs.Clock.{Opened}

-- the words that the code leaves: the flag is set, the quantum has had no tick, and it is one more; a count above 0 starts the job
abbrev pub unticked_words : List ℕ → List ℕ
unticked_words words = set (set words 15 1) 16 0

abbrev pub begun_words : List ℕ → List ℕ
begun_words words = set (unticked_words words) 17 (word (unticked_words words) 17 + 1)

module _ (g : ℕ) where
  pub opened_by_none : (words : List ℕ) → length words ≡ word_count → g ≤ 0 → Opened words g (begun_words words)
  unfolding job_state job_plan
  opened_by_none words size none =
      by_words (λ (l : List ℕ). Opened l g (begun_words l))
      (λ w. record {
        shows = λ memory. rw (add-one, eq-eqb g 0 (omega arith)) refl;
        rest = record { same_size = refl; same_numbers = refl; same_plan = λ memory. refl };
      })
      words size

  pub opened_by_some : (words : List ℕ) → length words ≡ word_count → 0 < g → Opened words g (set (begun_words words) 14 1)
  unfolding job_state job_plan
  opened_by_some words size some =
      by_words (λ (l : List ℕ). Opened l g (set (begun_words l) 14 1))
      (λ w. record {
        shows = λ memory. rw (add-one, ne_eqb g 0 (λ e. omega arith)) refl;
        rest = record { same_size = refl; same_numbers = refl; same_plan = λ memory. refl };
      })
      words size
