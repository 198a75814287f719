-- The mug limit, by a balance that every call keeps. Each mug cycle and each muggable deque comes from a worker that was withdrawn, so it
-- is covered by the allotments of the closed quanta. These, with a reserve for the inefficient quanta to come, are paid by the usage of the
-- closed quanta: an efficient quantum pays for itself, and one that raises the desire pays the reserve of the new power besides; the
-- reserve of a power pays for the inefficient quantum that goes down from it.
-- Assumes nothing but how a quantum may end (QuantumEnd of Powers).
use mathlib.Core.Path.{◌≡◌, ap}
use mathlib.Core.List.{List, [], ◌∷◌, ◌++◌}
use Prim.Native.Nat.{ℕ, zero, suc, ◌+◌, ◌-◌, ◌*◌, ◌≤◌, ◌<◌}
use native.Mathlib.Omega.{arith}
use native.Mathlib.Nat.{mul-zero, mul-add, mul-one, mul_comm, mul_assoc, mul-sub, mul_right_comm, mul-le-mul_left, mul-le-mul_right}
use lib.ListN.{length}
use Rattle.model.specs.Plan.{Growth, by_factor, by_tenths, Plan, Terms}
use Rattle.model.specs.Machine.{State, Quantum, idle, opened, allotment, fresh, grant, ticked, closed, desire_at}
use Rattle.model.specs.History.{ClosedQuantum, History}
use Rattle.model.specs.Statements.{Limit, MugLimit, Bound, MugBound, ending}
use Rattle.laws.proofs.Grants.{withdrawn_at_most}
use Rattle.laws.proofs.Counting.{spent, cycles_spend}
use Rattle.laws.proofs.Ladder.{Ladder, parts, gain}
use Rattle.laws.proofs.Powers.{QuantumEnd, lowers, raises, stays}

-- ---- the balance

-- the allotments of quanta, added up
unfoldable pub granted_sum : List ClosedQuantum → ℕ
granted_sum [] = 0
granted_sum (q ∷ quanta) = q.granted + granted_sum quanta

-- what is set aside at the power k of a ladder: the desires of the powers 1 to k
unfoldable pub reserve : Growth → ℕ → ℕ
reserve growth zero = 0
reserve growth (suc k) = reserve growth k + desire_at growth (suc k)

-- what a worker of a closed quantum costs, and what a work or mug cycle pays
abbrev pub cost : Terms → ℕ
cost terms = terms.utilization * terms.quantum_length * parts terms.growth

abbrev pub pay : Terms → ℕ
pay terms = 100 * (parts terms.growth + gain terms.growth)

-- how many workers a coming grant may withdraw
abbrev pub coming : Quantum → ℕ → ℕ
coming idle workers = workers
coming (opened t) workers = 0

-- the usage of an open quantum pays for nothing yet
abbrev pub unsettled : Quantum → ℕ → ℕ
unsettled idle usage = 0
unsettled (opened t) usage = usage

pub record Balance (terms : Terms) (s : State) (quanta : List ClosedQuantum) (k : ℕ) : Type 0 where
  pub covered : s.execution.counts.mugs.mug + length s.execution.muggable + coming s.quantum (allotment s) ≤ granted_sum quanta
  pub paid :
      cost terms * (granted_sum quanta + reserve terms.growth k) + pay terms * unsettled s.quantum s.execution.counts.usage
      ≤ pay terms * spent s.execution

pub granted_sum_snoc : (quanta : List ClosedQuantum) (q : ClosedQuantum) → granted_sum (quanta ++ q ∷ []) ≡ granted_sum quanta + q.granted
unfolding granted_sum
granted_sum_snoc [] q = omega arith
granted_sum_snoc (first ∷ quanta) q = omega (arith, granted_sum_snoc quanta q)

-- ---- what it says of numbers

-- usage that is spent stays paid
paid_onward : (price paid u u' n n' : ℕ) → u' + n ≡ u + n' → paid + price * u ≤ price * n → paid + price * u' ≤ price * n'
paid_onward price paid u u' n n' same before =
    omega (arith, mul-add price u' n, mul-add price u n', ap (λ x. price * x) same)

-- the three ends. p: D × L; d, r: parts and gain; sum, rest: the allotments and the reserve before; g: the allotment; u: the usage; n: all
-- usage so far
module _ (p d r sum rest g u n : ℕ) where
  paid_lower : (w : ℕ) → g ≤ w → p * d * (sum + (rest + w)) + 100 * (d + r) * u ≤ 100 * (d + r) * n →
      p * d * (sum + g + rest) ≤ 100 * (d + r) * n
  paid_lower w few before =
      let less : p * d * (sum + g + rest) ≤ p * d * (sum + (rest + w)) = mul-le-mul_left (p * d) (omega arith) in
      omega arith

  pays : p * g ≤ 100 * u → p * (g * (d + r)) ≤ 100 * (d + r) * u
  pays enough =
      let more : p * g * (d + r) ≤ 100 * u * (d + r) = mul-le-mul_right (d + r) enough in
      omega (arith, mul_assoc p g (d + r), mul_right_comm 100 u (d + r))

  -- the next desire w is at most r / d times g
  paid_raise : (w : ℕ) → w * d ≤ g * r → p * g ≤ 100 * u → p * d * (sum + rest) + 100 * (d + r) * u ≤ 100 * (d + r) * n →
      p * d * (sum + g + (rest + w)) ≤ 100 * (d + r) * n
  paid_raise w cheap enough before =
      let share : d * (g + w) ≤ g * (d + r) = omega (arith, mul-add d g w, mul-add g d r, mul_comm d g, mul_comm d w) in
      let more : p * (d * (g + w)) ≤ p * (g * (d + r)) = mul-le-mul_left p share in
      let split : sum + g + (rest + w) ≡ sum + rest + (g + w) = omega arith in
      rw split (omega (arith, mul-add (p * d) (sum + rest) (g + w), mul_assoc p d (g + w), pays enough))

  paid_stay : p * g ≤ 100 * u → p * d * (sum + rest) + 100 * (d + r) * u ≤ 100 * (d + r) * n → p * d * (sum + g + rest) ≤ 100 * (d + r) * n
  paid_stay enough before =
      let less : p * d * (sum + g + rest) ≤ p * d * (sum + g + (rest + 0)) = mul-le-mul_left (p * d) (omega arith) in
      omega (arith, paid_raise 0 (omega arith) enough before)

-- any end: the quantum q of the usage u joins the closed ones
paid_end : (terms : Terms) (ladder : Ladder terms.growth) (q : ClosedQuantum) (sum u n k after : ℕ) → q.granted ≤ q.wanted →
    q.wanted ≡ desire_at terms.growth k → QuantumEnd terms q u k after →
    cost terms * (sum + reserve terms.growth k) + pay terms * u ≤ pay terms * n →
    cost terms * (sum + q.granted + reserve terms.growth after) ≤ pay terms * n
unfolding reserve
paid_end terms ladder q sum u n k after few is_count (lowers {k = j} inefficient more_than_one) before =
    paid_lower _ (parts terms.growth) (gain terms.growth) sum (reserve terms.growth j) q.granted u n _ (omega arith) before
paid_end terms ladder q sum u n k after few is_count (raises {k = j} is_efficient is_satisfied all enough) before =
    let cheap : desire_at terms.growth (suc j) * parts terms.growth ≤ q.granted * gain terms.growth =
    rw (all, is_count) (ladder.costs j) in
    paid_raise _ (parts terms.growth) (gain terms.growth) sum (reserve terms.growth j) q.granted u n _ cheap enough before
paid_end terms ladder q sum u n k after few is_count (stays {k = j} is_efficient enough) before =
    paid_stay _ (parts terms.growth) (gain terms.growth) sum (reserve terms.growth j) q.granted u n enough before

-- ---- every move keeps it

pub balance_start : (plan : Plan) → Balance plan.terms (fresh plan) [] 0
unfolding fresh granted_sum reserve
balance_start plan =
    record { covered = omega arith; paid = omega (arith, mul-zero (cost plan.terms), mul-zero (pay plan.terms)) }

module _ (plan : Plan) (s : State) (quanta : List ClosedQuantum) (k : ℕ) (b : Balance plan.terms s quanta k)
  where
    -- a grant withdraws no more workers than there were
    pub balance_granted : (g : ℕ) → s.quantum ≡ idle → Balance plan.terms (grant g s) quanta k
    unfolding grant
    balance_granted g is_idle =
        let may_go = ap (λ q. coming q (allotment s)) is_idle in
        record {
          covered = omega (arith, b.covered, withdrawn_at_most g s, may_go);
          paid = omega (arith, b.paid, mul-zero (pay plan.terms));
        }

    -- while a quantum is open no worker may go, and its usage is not settled
    module _ (t : ℕ) (is_open : s.quantum ≡ opened t) where
      none_goes : coming s.quantum (allotment s) ≡ 0
      none_goes = ap (λ q. coming q (allotment s)) is_open

      open_paid :
          cost plan.terms * (granted_sum quanta + reserve plan.terms.growth k) + pay plan.terms * s.execution.counts.usage
          ≤ pay plan.terms * spent s.execution
      open_paid = rw (ap (λ q. unsettled q s.execution.counts.usage) is_open) at b.paid

      -- a tick's usage is both unsettled and spent, and a mug cycle takes one muggable deque away
      pub balance_ticked : (choices : List ℕ) → length choices ≡ allotment s → Balance plan.terms (ticked plan choices s) quanta k
      unfolding ticked
      balance_ticked choices one_each =
          let counted = cycles_spend plan.graph 0 choices s.execution (omega arith) in
          record {
            covered = omega (arith, b.covered, counted.mugs, none_goes);
            paid = paid_onward _ _ s.execution.counts.usage _ (spent s.execution) _ counted.usage open_paid;
          }

      -- the end settles the quantum's usage and adds its allotment
      pub balance_closed : Ladder plan.terms.growth → (after : ℕ) → allotment s ≤ s.wish.desire →
          s.wish.desire ≡ desire_at plan.terms.growth k →
          QuantumEnd plan.terms (ending plan s) s.execution.counts.usage k after →
          Balance plan.terms (closed plan s) (quanta ++ ending plan s ∷ []) after
      unfolding closed
      balance_closed ladder after few is_count end =
          let settled =
          paid_end plan.terms ladder (ending plan s) (granted_sum quanta) _ (spent s.execution) k after few is_count end
          open_paid in
          record {
            covered = omega (arith, b.covered, none_goes, granted_sum_snoc quanta (ending plan s));
            paid = rw granted_sum_snoc (omega (arith, settled, mul-zero (pay plan.terms)));
          }

-- ---- the limit

-- m mugs, covered by closed allotments that are paid
limit_of : (m l d c sum n price : ℕ) → m ≤ sum → d * l * c * sum ≤ price * n → m * l * d * c ≤ price * n
limit_of m l d c sum n price few enough =
    let less : d * l * c * m ≤ d * l * c * sum = mul-le-mul_left (d * l * c) few in
    let turned : m * l * d * c ≡ d * l * c * m = rw (mul_assoc m l d, mul_comm m (l * d), mul_comm l d, mul_right_comm (d * l) m c) in
    omega arith

-- what the balance says of the mugs, whatever the growth; and in each growth's words
limited : (growth : Growth) (m l d both : ℕ) → m * l * d * parts growth ≤ 100 * (parts growth + gain growth) * both →
    Limit growth m l d both
limited (by_factor r) m l d both limit = omega (arith, mul-one (m * l * d))
limited (by_tenths t) m l d both limit = limit

pub mug_limit_of : (plan : Plan) (h : History) (quanta : List ClosedQuantum) (k : ℕ) → Balance plan.terms h.state quanta k →
    MugLimit plan h
mug_limit_of plan h quanta k b =
    let terms = plan.terms in
    limited terms.growth _ terms.quantum_length terms.utilization _
    (limit_of _ terms.quantum_length terms.utilization (parts terms.growth) (granted_sum quanta + reserve terms.growth k) _ _
    (omega (arith, b.covered))
    (omega (arith, b.paid)))

-- where a mug costs more than it pays, the work alone bounds the mugs
bound_of : (m w e price : ℕ) → m * e ≤ price * (w + m) → price < e → m * (e - price) ≤ price * w
bound_of m w e price limit large = omega (arith, mul-sub m e price, mul-add price w m, mul_comm m price)

bounded : (growth : Growth) (m l d w : ℕ) → Limit growth m l d (w + m) → Bound growth m (l * d) w
bounded (by_factor r) m l d w limit = bound_of m w (l * d) (100 * (1 + r)) (omega (arith, mul_assoc m l d))
bounded (by_tenths t) m l d w limit =
    bound_of m w (l * d * 10) (100 * (10 + 2 * t)) (omega (arith, mul_assoc m l d, mul_assoc m (l * d) 10))

pub mug_bound_of : (plan : Plan) (h : History) → MugLimit plan h → MugBound plan h
mug_bound_of plan h limit = bounded plan.terms.growth _ _ _ _ limit
