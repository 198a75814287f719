-- The wish above and below a wish, by the table of top desires and the rows of whole parts (`laws`); and what follows for each way out of
-- the crate's functions. Assumes nothing.
use mathlib.Core.Path.{◌≡◌, refl, sym, ◌∙◌}
use mathlib.Core.Bool.{Bool, true, false}
use mathlib.Core.List.{List, [], ◌∷◌}
use mathlib.Core.Logic.{◌⊎◌, inl, inr}
use Prim.Native.Nat.{ℕ, zero, suc, ◌-◌, ◌*◌, ◌≤◌, ◌<◌}
use native.Mathlib.Nat.{le_of_suc-le-suc, not-suc-le-zero}
use native.Mathlib.Omega.{arith}
use lib.Dec.{ltb}
use lib.ListN.{length, get_or, get_or-eq_default}
use borrow.Author.Tests.{le-leb, lt-leb, ltb-true, ltb-false}
use Rattle.model.specs.Plan.{by_factor, by_tenths}
use Rattle.model.specs.Machine.{Wish, raised, lowered, desire_at, most_workers, top_desire, row_of}
use Rattle.model.specs.Machine.{last_power}
use Rattle.model.specs.Statements.{TopDesire, WholeParts}
use Rattle.laws.proofs.Tops.{top_of, at_most_top, room_below, no_room_at}
use Rattle.laws.proofs.Rows.{whole_parts_of, climbs, past_the_end, inside_row, power_at_most}
use Rattle.laws.proofs.Ladder.{ladder_of}
use Rattle.quantum.specs.Closing.{Desired}

-- ---- a factor: below the top desire there is room for R times the desire, at the top there is none

module _ {r : ℕ} {wish : Wish} {top : ℕ} (d : Desired (by_factor r) wish) (is_top : top ≡ top_desire r) where
  top_right : TopDesire r top
  top_right = rw is_top (top_of r d.responsive d.few_bits)

  pub room : (wish.desire ≡ top → ⊥) → wish.desire * r ≤ most_workers
  room other =
      let few = at_most_top d.responsive top_right wish.power d.is_power d.at_most in
      room_below d.responsive top_right wish.power d.is_power d.at_most (omega arith)

  pub top_stays : wish.desire ≡ top → wish ≡ raised (by_factor r) wish
  top_stays same =
      let none = no_room_at d.responsive top_right wish.power d.is_power d.at_most same in
      rw (lt-leb (wish.desire * r) most_workers none) refl

  pub multiplies : (k : ℕ) → k ≡ suc wish.power → (wish.desire ≡ top → ⊥) →
      record { power = k; desire = wish.desire * r } ≡ raised (by_factor r) wish
  multiplies k next other = rw (le-leb (wish.desire * r) most_workers (room other), next) refl

-- ---- tenths: an entry of the code's row, 65 past the end of model's

-- a place of a list has its entry, whatever stands for those past it
any_default : (xs : List ℕ) (k a b : ℕ) → k < length xs → get_or xs k a ≡ get_or xs k b
any_default [] k a b inside = absurd (not-suc-le-zero inside)
any_default (x ∷ xs) zero a b inside = refl
any_default (x ∷ xs) (suc k) a b inside = any_default xs k a b (le_of_suc-le-suc inside)

module _ {t : ℕ} (low : 12 ≤ t) (high : t ≤ 20) (k : ℕ) {entry : ℕ} (is_entry : entry ≡ get_or (row_of t) k 65) where
  right : WholeParts t (row_of t)
  right = whole_parts_of t low high

  -- inside the row it is the whole part, past it 65
  placed : (k < length (row_of t)) ⊎ (length (row_of t) ≤ k)
  placed = go (ltb k (length (row_of t))) refl
    where
      go : (b : Bool) → ltb k (length (row_of t)) ≡ b → (k < length (row_of t)) ⊎ (length (row_of t) ≤ k)
      go true e = inl (ltb-true _ _ e)
      go false e = inr (ltb-false _ _ e)

  pub whole_part_is : entry ≤ most_workers → entry ≡ desire_at (by_tenths t) k
  whole_part_is few = go placed
    where
      go : (k < length (row_of t)) ⊎ (length (row_of t) ≤ k) → entry ≡ desire_at (by_tenths t) k
      go (inl inside) = is_entry ∙ any_default (row_of t) k 65 0 inside ∙ right.is_whole_part k inside
      go (inr past) = absurd (omega (arith, is_entry, get_or-eq_default (row_of t) 65 past))

  pub whole_part_inside : desire_at (by_tenths t) k ≤ most_workers → entry ≡ desire_at (by_tenths t) k
  whole_part_inside few =
      let inside = inside_row low right k few in
      is_entry ∙ any_default (row_of t) k 65 0 inside ∙ right.is_whole_part k inside

  pub too_many : most_workers < entry → most_workers < desire_at (by_tenths t) k
  too_many above = go placed
    where
      go : (k < length (row_of t)) ⊎ (length (row_of t) ≤ k) → most_workers < desire_at (by_tenths t) k
      go (inl inside) = absurd (omega (arith, is_entry, any_default (row_of t) k 65 0 inside, right.at_most k inside))
      go (inr past) = past_the_end low right k past

module _ {t : ℕ} {wish : Wish} (d : Desired (by_tenths t) wish) where
  -- the next whole part, where it is at most 64
  pub goes_up : (k entry : ℕ) → k ≡ suc wish.power → entry ≡ get_or (row_of t) k 65 → entry ≤ most_workers →
      record { power = k; desire = entry } ≡ raised (by_tenths t) wish
  goes_up k entry next is_entry few =
      let whole = whole_part_is d.responsive.0 d.responsive.1 k is_entry few in
      rw (← next, le-leb (desire_at (by_tenths t) k) most_workers (rw (sym whole) few), whole) refl

  pub row_end_stays : (k entry : ℕ) → k ≡ suc wish.power → entry ≡ get_or (row_of t) k 65 → most_workers < entry →
      wish ≡ raised (by_tenths t) wish
  row_end_stays k entry next is_entry above =
      rw (← next, lt-leb (desire_at (by_tenths t) k) most_workers (too_many d.responsive.0 d.responsive.1 k is_entry above)) refl

  -- past the last power no row has an entry
  pub last_stays : wish.power ≡ last_power → wish ≡ raised (by_tenths t) wish
  last_stays last =
      let above : desire_at (by_tenths t) (suc wish.power) ≤ most_workers → ⊥ = λ few.
      omega (arith, power_at_most (by_tenths t) d.responsive (suc wish.power) few) in
      rw (lt-leb (desire_at (by_tenths t) (suc wish.power)) most_workers (omega arith)) refl

-- ---- lowering

-- the whole part one power lower is at most 64, too
pub goes_down : {t : ℕ} {wish : Wish} → Desired (by_tenths t) wish → (k entry : ℕ) → k ≡ wish.power - 1 → entry ≡ get_or (row_of t) k 65 →
    record { power = k; desire = entry } ≡ lowered (by_tenths t) wish
goes_down {t} {wish} d k entry less is_entry =
    let lower = climbs (ladder_of (by_tenths t) d.responsive) k wish.power (omega arith) in
    rw (← less, whole_part_inside d.responsive.0 d.responsive.1 k is_entry (omega (arith, d.is_power, d.at_most))) refl
