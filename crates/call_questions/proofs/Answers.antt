-- Question 17, choice by choice.
-- Assumes nothing.
use mathlib.Core.Path.{◌≡◌, refl}
use mathlib.Core.Bool.{Bool, true, false, ◌&&◌}
use mathlib.Core.List.{List}
use Prim.Native.Nat.{ℕ, ◌+◌, ◌<◌}
use native.Mathlib.Numerals.{add-one}
use lib.Dec.{ltb}
use lib.ListN.{length, get_or, drop}
use lib.Seq.{drop-cons, drop-length}
use Rattle.model.specs.Tests.{every}
use Rattle.call_questions.specs.Asked.{choices_below}

module _ (choices : List ℕ) (workers i : ℕ) where
  -- one more of the choices that are left is asked
  pub choice_asked : (below : Bool) → i < length choices →
      below && choices_below (drop i choices) workers
      ≡ (below && ltb (get_or choices i 0) workers) && choices_below (drop (i + 1) choices) workers
  unfolding every
  choice_asked below here = rw (add-one, drop-cons choices i 0 here) (in_turn below (ltb (get_or choices i 0) workers) _)
    where
      in_turn : (a b c : Bool) → a && (b && c) ≡ (a && b) && c
      in_turn true b c = refl
      in_turn false b c = refl

  pub choices_passed : (below : Bool) → i ≡ length choices → below && choices_below (drop i choices) workers ≡ below
  unfolding every
  choices_passed true end = rw (end, drop-length choices)
  choices_passed false end = refl
