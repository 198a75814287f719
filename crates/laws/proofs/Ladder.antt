-- What the laws of demand 3 use of the desires: they are the counts of a ladder, from 1 upward, on which one step up costs at most
-- gain / parts, and the rules of a quantum's end lead from a power to its neighbour. Both growths are ladders: the powers of a
-- responsiveness of 2 or more, and the whole parts of the powers of a ratio in tenths.
-- Assumes nothing.
use mathlib.Core.Path.{◌≡◌, refl, ap}
use Prim.Native.Nat.{ℕ, suc, ◌-◌, ◌*◌, ◌^◌, ◌≤◌, ◌<◌}
use native.Mathlib.Omega.{arith}
use native.Mathlib.Nat.{pow-zero, pow-suc, mul-one, mul_assoc, mul_right_comm, mul-div_cancel, mul-le-mul_left, mul-le-mul_right}
use native.Mathlib.Nat.{le-mul_of_pos_right, le_of_mul-le-mul_right, one-le-pow, pow-le-pow_left, le-div_iff_mul-le, div-mul-le_self}
use native.Mathlib.Nat.{div-lt_iff_lt-mul, div-one}
use lib.Ieee.Nearest.{div_mono}
use Rattle.model.specs.Plan.{Growth, by_factor, by_tenths}
use Rattle.model.specs.Machine.{lowered, higher, desire_at, wish_at}
use Rattle.model.specs.Statements.{Responsive}

-- one step up costs at most gain / parts
abbrev pub parts : Growth → ℕ
parts (by_factor r) = 1
parts (by_tenths t) = 10

abbrev pub gain : Growth → ℕ
gain (by_factor r) = r
gain (by_tenths t) = 2 * t

pub record Ladder (growth : Growth) : Type 0 where
  pub starts : desire_at growth 0 ≡ 1
  pub rises : (k : ℕ) → desire_at growth k ≤ desire_at growth (suc k)
  pub costs : (k : ℕ) → desire_at growth (suc k) * parts growth ≤ desire_at growth k * gain growth
  -- an inefficient end leads down; an efficient and satisfied one leads up, where it may
  pub down : (k : ℕ) → lowered growth (wish_at growth (suc k)) ≡ wish_at growth k
  pub up : (k : ℕ) → higher growth (wish_at growth k) ≡ wish_at growth (suc k)

one_less : (k : ℕ) → suc k - 1 ≡ k
one_less k = omega arith

-- ---- "multiplied by R" and "divided by R": the ladder R^k, on which a step costs R

factor_ladder : (r : ℕ) → 2 ≤ r → Ladder (by_factor r)
factor_ladder r responsive =
    record {
      starts = pow-zero r;
      rises = λ k. rw pow-suc (le-mul_of_pos_right (r ^ k) some);
      costs = λ k. omega (arith, pow-suc r k, mul-one (r ^ suc k));
      down = λ k. rw (one_less k, pow-suc r k, mul-div_cancel (r ^ k) some) refl;
      up = λ k. rw (pow-suc r k) refl;
    }
  where
    some : 0 < r
    some = omega arith

-- ---- the whole parts of the powers of a ratio of 10 tenths or more, on which a step costs 2 × t / 10

module _ (t : ℕ) (more : 10 ≤ t) where
  scale : (k : ℕ) → 0 < 10 ^ k
  scale k = one-le-pow k 10 (omega arith)

  whole_rises : (k : ℕ) → desire_at (by_tenths t) k ≤ desire_at (by_tenths t) (suc k)
  whole_rises k =
      div_mono (t ^ k) (10 ^ k) (t ^ suc k) (10 ^ suc k) (scale k) (scale (suc k))
      (let grown : t ^ k * 10 ^ k * 10 ≤ t ^ k * 10 ^ k * t = mul-le-mul_left (t ^ k * 10 ^ k) more in
      rw (pow-suc t k, pow-suc 10 k)
      (omega (arith, mul_assoc (t ^ k) (10 ^ k) 10, mul_right_comm (t ^ k) (10 ^ k) t)))

  whole_some : (k : ℕ) → 1 ≤ desire_at (by_tenths t) k
  whole_some k = (le-div_iff_mul-le (scale k)).1 (omega (arith, pow-le-pow_left more k))

  -- a whole part q is at least 1, so what it leaves out is less than another q
  whole_costs : (k : ℕ) → desire_at (by_tenths t) (suc k) * 10 ≤ desire_at (by_tenths t) k * (2 * t)
  whole_costs k = costs_of (t ^ k) (10 ^ k) _ _ (scale k) (whole_some k) under over
    where
      under : t ^ k < suc (desire_at (by_tenths t) k) * 10 ^ k
      under = (div-lt_iff_lt-mul (scale k)).0 (omega arith)

      over : desire_at (by_tenths t) (suc k) * (10 ^ k * 10) ≤ t ^ k * t
      over = rw (← pow-suc 10 k, ← pow-suc t k) (div-mul-le_self (t ^ suc k) (10 ^ suc k))

      costs_of : (a b q q' : ℕ) → 0 < b → 1 ≤ q → a < suc q * b → q' * (b * 10) ≤ a * t → q' * 10 ≤ q * (2 * t)
      costs_of a b q q' some one below above =
          let doubled : suc q * b ≤ q * 2 * b = mul-le-mul_right b (omega arith) in
          let grown : a * t ≤ q * 2 * b * t = mul-le-mul_right t (omega arith) in
          le_of_mul-le-mul_right
          (omega (arith, mul_assoc q' b 10, mul_right_comm q' b 10, mul_right_comm (q * 2) b t, mul_assoc q 2 t))
          some

pub tenths_ladder : (t : ℕ) → 12 ≤ t → Ladder (by_tenths t)
tenths_ladder t more =
    record {
      starts = rw (pow-zero t) (div-one 1);
      rises = whole_rises t (omega arith);
      costs = whole_costs t (omega arith);
      down = λ k. ap (wish_at (by_tenths t)) (one_less k);
      up = λ k. refl;
    }

-- ---- of a sound plan

pub ladder_of : (growth : Growth) → Responsive growth → Ladder growth
ladder_of (by_factor r) responsive = factor_ladder r responsive
ladder_of (by_tenths t) responsive = tenths_ladder t responsive.0
