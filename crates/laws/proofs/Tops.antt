-- The table of the six top desires. Model's one test over its entries, `top_desires_rule`, is made the rule at each entry; and of a desire
-- that is a power of R, at most 64, the rule says that it is at most the top, and that below the top there is room for R times it.
-- Assumes nothing.
use mathlib.Core.Path.{◌≡◌, refl, sym, ap, ◌∙◌}
use mathlib.Core.Bool.{Bool, true, false, cond, ◌&&◌}
use mathlib.Core.List.{List, [], ◌∷◌, map}
use Prim.Native.Nat.{ℕ, zero, suc, ◌+◌, ◌-◌, ◌*◌, ◌≤◌, ◌<◌}
use native.Mathlib.Omega.{arith}
use native.Mathlib.Nat.{add-zero, add-suc, suc-add, le_of_suc-le-suc, not-suc-le-zero, pow-suc, pow-le-pow_right}
use lib.Dec.{leb, ltb, eqb}
use lib.ListN.{length, get_or}
use borrow.Author.Tests.{ltb-true, leb-true, eqb-true, le-leb, lt-leb}
use Rattle.model.specs.Tests.{below, member}
use Rattle.model.specs.Plan.{by_factor}
use Rattle.model.specs.Machine.{Wish, desire_at, most_workers, next_wish, top_desires, top_desire}
use Rattle.model.specs.Examples.{powers, top_desire_right, top_desires_right}
use Rattle.model.proofs.Examples.{top_desires_rule}
use Rattle.model.specs.Statements.{TopDesire, StopsAtTop}
use Rattle.lists.proofs.Tests.{true_is_not_false, and_left, and_right}

-- ---- the rule at each entry

-- a number among powers of R is one of them
some_power : (r top : ℕ) (ks : List ℕ) → member top (map (desire_at (by_factor r)) ks) ≡ true → (k : ℕ) × (top ≡ desire_at (by_factor r) k)
unfolding member
some_power r top [] h = absurd (true_is_not_false h refl)
some_power r top (k ∷ ks) h = go (eqb top (desire_at (by_factor r) k)) refl (some_power r top ks) h
  where
    go : (b : Bool) → eqb top (desire_at (by_factor r) k) ≡ b →
        (member top (map (desire_at (by_factor r)) ks) ≡ true → (j : ℕ) × (top ≡ desire_at (by_factor r) j)) →
        cond b true (member top (map (desire_at (by_factor r)) ks)) ≡ true → (j : ℕ) × (top ≡ desire_at (by_factor r) j)
    go true e rest h = (k, eqb-true top (desire_at (by_factor r) k) e)
    go false e rest h = rest h

entry_of : (r top : ℕ) → top_desire_right r top ≡ true → TopDesire r top
unfolding top_desire_right powers
entry_of r top right =
    let least = leb top most_workers in
    let above = ltb most_workers (top * r) in
    let found = some_power r top (below 7) (and_left (member top (powers r)) (least && above) right) in
    let rest = and_right (member top (powers r)) (least && above) right in
    record {
      power = found.0;
      is_power = found.1;
      at_most = leb-true top most_workers (and_left least above rest);
      largest = ltb-true most_workers (top * r) (and_right least above rest);
    }

entries_of : (r : ℕ) (tops : List ℕ) → top_desires_right r tops ≡ true → (i : ℕ) → i < length tops → TopDesire (r + i) (get_or tops i 0)
unfolding top_desires_right
entries_of r [] right i inside = absurd (not-suc-le-zero inside)
entries_of r (top ∷ tops) right zero inside =
    rw add-zero (entry_of r top (and_left (top_desire_right r top) (top_desires_right (suc r) tops) right))
entries_of r (top ∷ tops) right (suc i) inside =
    let rest = and_right (top_desire_right r top) (top_desires_right (suc r) tops) right in
    let moved : suc r + i ≡ r + suc i = suc-add r i ∙ sym (add-suc r i) in
    rw moved at (entries_of (suc r) tops rest i (le_of_suc-le-suc inside))

-- "the largest powers of R up to 64, for R = 2 to 7"
pub top_of : (responsiveness : ℕ) → 2 ≤ responsiveness → responsiveness ≤ 7 → TopDesire responsiveness (top_desire responsiveness)
unfolding top_desires
top_of r low high =
    let same : 2 + (r - 2) ≡ r = omega arith in
    rw same at (entries_of 2 top_desires top_desires_rule (r - 2) (omega arith))

-- ---- a desire and the top

module _ {r top desire : ℕ} (responsive : 2 ≤ r) (t : TopDesire r top)
    (k : ℕ) (is_power : desire ≡ desire_at (by_factor r) k) (few : desire ≤ most_workers) where
  some : 0 < r
  some = omega arith

  -- a higher power would be R times the top or more, and so exceed 64
  not_above : t.power < k → ⊥
  not_above above =
      let more : desire_at (by_factor r) (suc t.power) ≤ desire_at (by_factor r) k = pow-le-pow_right some above in
      let next = pow-suc r t.power in
      let same : top * r ≡ desire_at (by_factor r) t.power * r = ap (λ (x : ℕ). x * r) t.is_power in
      omega (arith, t.largest)

  pub at_most_top : desire ≤ top
  at_most_top =
      let up : k ≤ t.power = (let no = not_above in omega arith) in
      let less : desire_at (by_factor r) k ≤ desire_at (by_factor r) t.power = pow-le-pow_right some up in
      omega (arith, t.is_power)

  -- a desire below the top is a lower power
  not_below : desire < top → t.power ≤ k → ⊥
  not_below lower down =
      let less : desire_at (by_factor r) t.power ≤ desire_at (by_factor r) k = pow-le-pow_right some down in
      omega (arith, t.is_power)

  pub room_below : desire < top → desire * r ≤ most_workers
  room_below lower =
      let up : k < t.power = (let no = not_below lower in omega arith) in
      let more : desire_at (by_factor r) (suc k) ≤ desire_at (by_factor r) t.power = pow-le-pow_right some up in
      let next = pow-suc r k in
      let same : desire * r ≡ desire_at (by_factor r) k * r = ap (λ (x : ℕ). x * r) is_power in
      omega (arith, t.is_power, t.at_most)

  pub no_room_at : desire ≡ top → most_workers < desire * r
  no_room_at same = rw same t.largest

-- ---- where the desire stops

pub stops_at_top : (r : ℕ) → 2 ≤ r → r ≤ 7 → (wish : Wish) → wish.desire ≡ desire_at (by_factor r) wish.power →
    wish.desire ≤ most_workers → StopsAtTop r wish
unfolding next_wish
stops_at_top r responsive three_bits wish is_power few =
    let desire = wish.desire in
    let t = top_of r responsive three_bits in
    record {
      at_most = at_most_top responsive t wish.power is_power few;
      rises =
          λ lower.
          let room = room_below responsive t wish.power is_power few lower in
          rw (le-leb (desire * r) most_workers room) refl;
      stays =
          λ same.
          let none = no_room_at responsive t wish.power is_power few same in
          rw (lt-leb (desire * r) most_workers none) refl;
    }
