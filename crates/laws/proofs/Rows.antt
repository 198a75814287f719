-- The nine rows of whole parts. Model's one test over all of their entries, `whole_parts_rule`, is made the rule of each row; and of a
-- desire that is the whole part of a power, at most 64, the rule says that the power is a place of the row, and that above the last there
-- is no room. Assumes nothing.
use mathlib.Core.Path.{◌≡◌, refl, sym, ◌∙◌}
use mathlib.Core.Bool.{true, ◌&&◌}
use mathlib.Core.Logic.{◌⊎◌, inl, inr}
use mathlib.Core.List.{List, [], ◌∷◌}
use Prim.Native.Nat.{ℕ, zero, suc, ◌+◌, ◌-◌, ◌^◌, ◌≤◌, ◌<◌}
use native.Mathlib.Omega.{arith}
use native.Mathlib.Nat.{add-zero, zero-add, add-suc, suc-add, le_of_suc-le-suc, not-suc-le-zero, eq-or-lt_of_le}
use native.Mathlib.Nat.{one-le-pow, pow-le-pow_left, mul-le-mul_right}
use lib.Ieee.Nearest.{div_mono}
use lib.Dec.{leb, eqb}
use lib.ListN.{length, get_or}
use borrow.Author.Tests.{ltb-true, leb-true, eqb-true, le-leb, lt-leb}
use Rattle.model.specs.Plan.{Growth, by_factor, by_tenths}
use Rattle.model.specs.Machine.{Wish, desire_at, most_workers, next_wish, whole_parts, row_of, last_power}
use Rattle.model.specs.Examples.{whole_part_right, row_right, rows_right}
use Rattle.model.proofs.Examples.{whole_parts_rule}
use Rattle.model.specs.Statements.{Responsive, WholeParts, StopsAtRowEnd}
use Rattle.lists.proofs.Tests.{and_left, and_right}
use Rattle.laws.proofs.Ladder.{Ladder, tenths_ladder, ladder_of}

-- ---- the rule of each row

module _ (t : ℕ) where
  -- an entry of a row that is right from the power k on
  entries_of : (k : ℕ) (row : List ℕ) → row_right t k row ≡ true → (i : ℕ) → i < length row →
      (get_or row i 0 ≡ desire_at (by_tenths t) (k + i)) × (get_or row i 0 ≤ most_workers)
  unfolding row_right whole_part_right
  entries_of k [] right i inside = absurd (not-suc-le-zero inside)
  entries_of k (entry ∷ row) right zero inside =
      let its = and_left (eqb entry (desire_at (by_tenths t) k) && leb entry most_workers) (row_right t (suc k) row) right in
      let whole = eqb-true entry _ (and_left (eqb entry (desire_at (by_tenths t) k)) (leb entry most_workers) its) in
      let few = leb-true entry _ (and_right (eqb entry (desire_at (by_tenths t) k)) (leb entry most_workers) its) in
      (rw add-zero whole, few)
  entries_of k (entry ∷ row) right (suc i) inside =
      let rest = and_right (eqb entry (desire_at (by_tenths t) k) && leb entry most_workers) (row_right t (suc k) row) right in
      let moved : suc k + i ≡ k + suc i = suc-add k i ∙ sym (add-suc k i) in
      rw moved at (entries_of (suc k) row rest i (le_of_suc-le-suc inside))

  -- past its last entry
  end_of : (k : ℕ) (row : List ℕ) → row_right t k row ≡ true → most_workers < desire_at (by_tenths t) (k + length row)
  unfolding row_right whole_part_right
  end_of k [] right = rw add-zero (ltb-true most_workers (desire_at (by_tenths t) k) right)
  end_of k (entry ∷ row) right =
      let rest = and_right (eqb entry (desire_at (by_tenths t) k) && leb entry most_workers) (row_right t (suc k) row) right in
      let moved : suc k + length row ≡ k + suc (length row) = suc-add k (length row) ∙ sym (add-suc k (length row)) in
      rw moved at (end_of (suc k) row rest)

  row_of_right : (row : List ℕ) → row_right t 0 row ≡ true → WholeParts t row
  row_of_right row right =
      record {
        is_whole_part = λ k inside. rw zero-add at (entries_of 0 row right k inside).0;
        at_most = λ k inside. (entries_of 0 row right k inside).1;
        up_to_64 = rw zero-add at (end_of 0 row right);
      }

rows_of : (t : ℕ) (rows : List (List ℕ)) → rows_right t rows ≡ true → (i : ℕ) → i < length rows → WholeParts (t + i) (get_or rows i [])
unfolding rows_right
rows_of t [] right i inside = absurd (not-suc-le-zero inside)
rows_of t (row ∷ rows) right zero inside =
    rw add-zero (row_of_right t row (and_left (row_right t 0 row) (rows_right (suc t) rows) right))
rows_of t (row ∷ rows) right (suc i) inside =
    let rest = and_right (row_right t 0 row) (rows_right (suc t) rows) right in
    let moved : suc t + i ≡ t + suc i = suc-add t i ∙ sym (add-suc t i) in
    rw moved at (rows_of (suc t) rows rest i (le_of_suc-le-suc inside))

-- "For each of the nine ratios a row of whole parts"
pub whole_parts_of : (t : ℕ) → 12 ≤ t → t ≤ 20 → WholeParts t (row_of t)
unfolding whole_parts
whole_parts_of t low high =
    let same : 12 + (t - 12) ≡ t = omega arith in
    rw same at (rows_of 12 whole_parts whole_parts_rule (t - 12) (omega arith))

-- ---- a power and its row

-- a higher power has no lower desire
pub climbs : {growth : Growth} → Ladder growth → (j k : ℕ) → j ≤ k → desire_at growth j ≤ desire_at growth k
climbs {growth} ladder j zero h = let same : j ≡ 0 = omega arith in rw same (omega arith)
climbs {growth} ladder j (suc k) h = go (eq-or-lt_of_le h) (λ under. climbs ladder j k under)
  where
    go : (j ≡ suc k) ⊎ (j < suc k) → (j ≤ k → desire_at growth j ≤ desire_at growth k) → desire_at growth j ≤ desire_at growth (suc k)
    go (inl same) before = rw same (omega arith)
    go (inr less) before = omega (arith, before (le_of_suc-le-suc less), ladder.rises k)

module _ {t : ℕ} (low : 12 ≤ t) {row : List ℕ} (right : WholeParts t row) where
  -- a power from the row's end on would be above 64
  pub past_the_end : (k : ℕ) → length row ≤ k → most_workers < desire_at (by_tenths t) k
  past_the_end k past =
      let more = climbs (tenths_ladder t low) (length row) k past in
      omega (arith, right.up_to_64)

  pub inside_row : (k : ℕ) → desire_at (by_tenths t) k ≤ most_workers → k < length row
  inside_row k few = let no : length row ≤ k → ⊥ = λ past. omega (arith, past_the_end k past) in omega arith

  pub room_inside : (k : ℕ) → k < length row → desire_at (by_tenths t) k ≤ most_workers
  room_inside k inside = omega (arith, right.is_whole_part k inside, right.at_most k inside)

-- ---- how high a power can be

-- the smallest factor and the smallest ratio are the slowest: the power 23 is above 64
too_high : (growth : Growth) → Responsive growth → most_workers < desire_at growth (suc last_power)
too_high (by_factor r) more = let least : 2 ^ 23 ≡ 8388608 = refl in omega (arith, pow-le-pow_left more 23)
too_high (by_tenths t) more =
    let least : desire_at (by_tenths 12) 23 ≡ 66 = refl in
    let scale : 0 < 10 ^ 23 = one-le-pow 23 10 (omega arith) in
    omega (arith, div_mono (12 ^ 23) (10 ^ 23) (t ^ 23) (10 ^ 23) scale scale (mul-le-mul_right (10 ^ 23) (pow-le-pow_left more.0 23)))

pub power_at_most : (growth : Growth) → Responsive growth → (k : ℕ) → desire_at growth k ≤ most_workers → k ≤ last_power
power_at_most growth responsive k few =
    let no : suc last_power ≤ k → ⊥ = λ above.
    omega (arith, too_high growth responsive, climbs (ladder_of growth responsive) (suc last_power) k above) in
    omega arith

-- ---- where the desire stops

pub stops_at_row_end : (t : ℕ) → 12 ≤ t → t ≤ 20 → (wish : Wish) → wish.desire ≡ desire_at (by_tenths t) wish.power →
    wish.desire ≤ most_workers → StopsAtRowEnd t wish
unfolding next_wish
stops_at_row_end t low high wish is_power few =
    let k = wish.power in
    let next : suc k ≡ k + 1 = omega arith in
    let right = whole_parts_of t low high in
    let inside = inside_row low right k (omega (arith, is_power)) in
    record {
      inside = inside;
      looked_up = is_power ∙ sym (right.is_whole_part k inside);
      rises =
          λ below.
          let room = room_inside low right (k + 1) below in
          rw (next, le-leb (desire_at (by_tenths t) (k + 1)) most_workers room, right.is_whole_part (k + 1) below) refl;
      stays =
          λ last.
          let none = past_the_end low right (k + 1) (omega arith) in
          rw (next, lt-leb (desire_at (by_tenths t) (k + 1)) most_workers none) refl;
    }
