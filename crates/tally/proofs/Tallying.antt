-- The numbers with a tally: a cycle more in the tally is a cycle more in the numbers, and words that take the tally have them.
use mathlib.Core.Path.{◌≡◌}
use mathlib.Core.List.{List}
use Prim.Native.Nat.{ℕ, ◌+◌, ◌≤◌, ◌<◌}
use native.Mathlib.Omega.{arith}
use borrow.Author.Rules.{rules}
use lib.ListN.{length, set}
use Rattle.memory.specs.Words.{word_count, word, Numbers, numbers_in}
use Rattle.memory.specs.Cycles.{after_work, after_mug, after_steal}
use Rattle.memory.proofs.Words.{by_words}
use Rattle.tally.specs.declared.Tally.{Tally}
use Rattle.tally.specs.Tallies.{no_tally, add_work, add_mug, numbers_at, Growing, Addable}

pub none_added : (m : Numbers) → m.head < 64 → m ≡ numbers_at m 0 no_tally
none_added m inside = grind arith

module _ (m : Numbers) (w : ℕ) (t : Tally) where
  pub work_added : (completed : ℕ) → numbers_at m (w + 1) (add_work t completed) ≡ after_work completed (numbers_at m w t)
  work_added completed = search rules

  pub mug_added : numbers_at m (w + 1) (add_mug t) ≡ after_mug (numbers_at m w t)
  mug_added = grind arith

  -- what is neither is a steal cycle
  pub steal_added : t.works.0 + t.mugs.0 ≤ w → numbers_at m (w + 1) t ≡ after_steal 0 (numbers_at m w t)
  steal_added counted = search rules

-- a success is a word one higher
pub success_added : (words : List ℕ) (w : ℕ) (t : Tally) → t.works.0 + t.mugs.0 ≤ w → length words ≡ word_count →
    numbers_at (numbers_in (set words 6 (word words 6 + 1))) (w + 1) t ≡ after_steal 1 (numbers_at (numbers_in words) w t)
success_added words w t counted =
    by_words
    (λ (l : List ℕ). numbers_at (numbers_in (set l 6 (word l 6 + 1))) (w + 1) t ≡ after_steal 1 (numbers_at (numbers_in l) w t))
    (λ v. search rules)
    words

-- a tally that can be added can take another cycle
pub growing : {words : List ℕ} {w : ℕ} {t : Tally} → Addable words w t → Growing t
growing a = search rules
