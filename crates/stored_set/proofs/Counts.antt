-- What is counted after the cases so far: that one case more keeps it, and that it gives the tally at the end.
-- Assumes nothing.
use mathlib.Core.Path.{◌≡◌, refl, sym, ap, ◌∙◌}
use mathlib.Core.Bool.{Bool, true, false, cond, ◌&&◌}
use mathlib.Core.List.{List, [], ◌∷◌}
use Prim.Native.Nat.{ℕ, ◌+◌, ◌-◌, ◌≤◌}
use native.Mathlib.Omega.{arith}
use lib.Dec.{eqb}
use mir.Val.{bool_byte}
use lib.Pointwise.{pointwise}
use lib.ListN.{length, take, drop}
use Rattle.model.specs.Tests.{keep}
use Rattle.model.specs.Program.{program}
use Rattle.stored_set.specs.Stored.{Case, Stored, case_then, stored, same_bytes, as_said, tally_of}
use Rattle.stored_set.proofs.Cases.{CaseHere, stored_here}

-- ---- the comparison

pub compared : (x y : List ℕ) → pointwise eqb x y ≡ same_bytes x y
unfolding same_bytes
compared [] [] = refl
compared [] (b ∷ y) = refl
compared (a ∷ x) [] = refl
compared (a ∷ x) (b ∷ y) = ap (λ same. eqb a b && same) (compared x y)

-- ---- after the cases so far

-- how many are as said
abbrev said : List Case → ℕ
said cases = length (keep as_said cases)

said_cons : (case : Case) (cases : List Case) → said (case ∷ cases) ≡ cond (as_said case) 1 0 + said cases
unfolding keep
said_cons case cases = by (as_said case)
  where
    by : (b : Bool) → length (cond b (case ∷ keep as_said cases) (keep as_said cases)) ≡ cond b 1 0 + said cases
    by true = omega arith
    by false = omega arith

pub counted_byte : (b : Bool) → bool_byte b ≡ cond b 1 0
counted_byte true = refl
counted_byte false = refl

one_at_most : (b : Bool) → cond b 1 0 ≤ 1
one_at_most true = omega arith
one_at_most false = omega arith

module _ (set : List ℕ) where
  pub record CasesSoFar (cases same at : ℕ) : Type 0 where
    pub counted : cases + length (stored (drop at set)).cases ≡ length (stored set).cases
    pub said_so_far : same + said (stored (drop at set)).cases ≡ said (stored set).cases
    pub whole_left : (stored (drop at set)).whole ≡ (stored set).whole
    pub few : (same ≤ cases) × (cases ≤ at)
    pub inside : at ≤ length set

  module _ (cases same at : ℕ) (so_far : CasesSoFar cases same at) where
    -- one case more
    pub one_more : (input expected place next end : ℕ) (right : Bool) (more : ℕ) → CaseHere set at input expected →
        place ≡ at + 3 + input → next ≡ place + 1 → end ≡ next + expected →
        right ≡ same_bytes (program (take (place - (at + 3)) (drop (at + 3) set))) (take (end - next) (drop next set)) →
        more ≡ cond right 1 0 →
        CasesSoFar (cases + 1) (same + more) end
    one_more input expected place next end right more here place_is next_is end_is right_is more_is =
        let case : Case = record { input = take input (drop (at + 3) set); expected = take expected (drop (at + 4 + input) set) } in
        let after : at + (4 + input + expected) ≡ end = omega arith in
        let parts : stored (drop at set) ≡ case_then case (stored (drop end set)) =
        stored_here set at input expected here ∙ ap (λ (n : ℕ). case_then case (stored (drop n set))) after in
        let input_long : place - (at + 3) ≡ input = omega arith in
        let expected_long : end - next ≡ expected = omega arith in
        let expected_at : next ≡ at + 4 + input = omega arith in
        let rightly : right ≡ as_said case = rw (input_long, expected_long, expected_at) at right_is in
        let counts : more ≡ cond (as_said case) 1 0 = more_is ∙ ap (λ (b : Bool). cond b 1 0) rightly in
        let all : length (stored (drop at set)).cases ≡ 1 + length (stored (drop end set)).cases =
        ap (λ (s : Stored). length s.cases) parts ∙ omega arith in
        let those : said (stored (drop at set)).cases ≡ more + said (stored (drop end set)).cases =
        ap (λ (s : Stored). said s.cases) parts
        ∙ said_cons case (stored (drop end set)).cases
        ∙ ap (λ (n : ℕ). n + said (stored (drop end set)).cases) (sym counts) in
        let at_most : more ≤ 1 = omega (arith, more_is, one_at_most right) in
        record {
          counted = omega (arith, so_far.counted, all);
          said_so_far = omega (arith, so_far.said_so_far, those);
          whole_left = sym (ap (λ (s : Stored). s.whole) parts) ∙ so_far.whole_left;
          few = (omega (arith, so_far.few, at_most), omega (arith, so_far.few));
          inside = omega (arith, here.inside);
        }

    -- the set ends here, whole or cut
    pub ends_here : (whole : Bool) → stored (drop at set) ≡ record { cases = []; whole = whole } →
        record { cases = cases; same = same; whole = whole } ≡ tally_of (stored set)
    unfolding keep
    ends_here whole e =
        let all : cases ≡ length (stored set).cases =
        omega (arith, so_far.counted, ap (λ (s : Stored). length s.cases) e) in
        let those : same ≡ said (stored set).cases =
        omega (arith, so_far.said_so_far, ap (λ (s : Stored). said s.cases) e) in
        let wholly : whole ≡ (stored set).whole = sym (ap (λ (s : Stored). s.whole) e) ∙ so_far.whole_left in
        rw (all, those, wholly)
