-- A grant meets 13 only where every tick of every quantum that may begin is used up, without a worker or with a work or mug cycle in it.
-- The quanta that have begun are closed, but for the open one, and a closed quantum with a worker has a usage of L or more, a work or mug
-- cycle in each of its ticks.
-- Assumes nothing but progress, as the open quantum carries it (Closing of Powers).
use mathlib.Core.Path.{◌≡◌, refl, ap}
use mathlib.Core.Bool.{cond}
use mathlib.Core.List.{List, [], ◌∷◌, ◌++◌}
use Prim.Native.Nat.{ℕ, zero, suc, ◌+◌, ◌*◌, ◌≤◌}
use native.Mathlib.Omega.{arith}
use native.Mathlib.Nat.{mul-add, mul-one}
use lib.Dec.{eqb}
use lib.ListN.{length, length-append}
use borrow.Author.Tests.{ne_eqb}
use Rattle.model.specs.Plan.{Plan}
use Rattle.model.specs.Machine.{State, Quantum, idle, opened, allotment, fresh, grant, ticked, closed, quantum_limit}
use Rattle.model.specs.History.{ClosedQuantum, History}
use Rattle.model.specs.Statements.{ending}
use Rattle.laws.specs.Spent.{without_workers, Spent}
use Rattle.laws.proofs.Accepted.{GrantSpent}
use Rattle.laws.proofs.Counting.{spent, cycles_spend}
use Rattle.laws.proofs.MugLimitLaw.{unsettled}

-- a quantum that is open, or none
abbrev pub open_count : Quantum → ℕ
open_count idle = 0
open_count (opened t) = 1

pub record Paced (length_of_quantum : ℕ) (s : State) (quanta : List ClosedQuantum) : Type 0 where
  pub counted : s.begun ≡ length quanta + open_count s.quantum
  pub used : length_of_quantum * length quanta + unsettled s.quantum s.execution.counts.usage
      ≤ length_of_quantum * without_workers quanta + spent s.execution

without_workers_snoc : (quanta : List ClosedQuantum) (q : ClosedQuantum) →
    without_workers (quanta ++ q ∷ []) ≡ without_workers quanta + cond (eqb q.granted 0) 1 0
unfolding without_workers
without_workers_snoc [] q = omega arith
without_workers_snoc (first ∷ quanta) q = omega (arith, without_workers_snoc quanta q)

-- a quantum of g workers joins the n closed ones, of which w had none: without a worker it is one of these, and with one its usage u is at
-- least the length l
joins : (l n w u spent g : ℕ) → (1 ≤ g → l ≤ u) → l * n + u ≤ l * w + spent → l * (n + 1) + 0 ≤ l * (w + cond (eqb g 0) 1 0) + spent
joins l n w u spent zero used before = omega (arith, mul-add l n 1, mul-add l w 1, mul-one l)
joins l n w u spent (suc g) used before =
    rw (ne_eqb (suc g) 0 (omega arith)) (omega (arith, mul-add l n 1, mul-one l, used (omega arith)))

pub paced_start : (plan : Plan) → Paced plan.terms.quantum_length (fresh plan) []
unfolding fresh without_workers
paced_start plan = record { counted = refl; used = omega arith }

module _ (plan : Plan) (s : State) (quanta : List ClosedQuantum) (p : Paced plan.terms.quantum_length s quanta) where
  pub paced_granted : (g : ℕ) → s.quantum ≡ idle → Paced plan.terms.quantum_length (grant g s) quanta
  unfolding grant
  paced_granted g is_idle =
      let none_open = ap open_count is_idle in
      record { counted = omega (arith, p.counted); used = omega (arith, p.used) }

  module _ (t : ℕ) (is_open : s.quantum ≡ opened t) where
    one_open : open_count s.quantum ≡ 1
    one_open = ap open_count is_open

    its_usage : unsettled s.quantum s.execution.counts.usage ≡ s.execution.counts.usage
    its_usage = ap (λ q. unsettled q s.execution.counts.usage) is_open

    pub paced_ticked : (choices : List ℕ) → length choices ≡ allotment s →
        Paced plan.terms.quantum_length (ticked plan choices s) quanta
    unfolding ticked
    paced_ticked choices one_each =
        let counted = cycles_spend plan.graph 0 choices s.execution (omega arith) in
        record {
          counted = omega (arith, p.counted, one_open);
          used = omega (arith, p.used, its_usage, counted.usage);
        }

    pub paced_closed : (1 ≤ allotment s → plan.terms.quantum_length ≤ s.execution.counts.usage) →
        Paced plan.terms.quantum_length (closed plan s) (quanta ++ ending plan s ∷ [])
    unfolding closed
    paced_closed used =
        let one_more = length-append quanta (ending plan s ∷ []) in
        record {
          counted = omega (arith, p.counted, one_open);
          used =
              rw (one_more, without_workers_snoc quanta (ending plan s))
              (joins plan.terms.quantum_length (length quanta) (without_workers quanta) s.execution.counts.usage
              (spent s.execution) (allotment s) used (omega (arith, p.used, its_usage)));
        }

-- ---- what 13 tells

pub spent_of : (plan : Plan) (h : History) → h.state.begun ≤ quantum_limit →
    Paced plan.terms.quantum_length h.state h.closed_quanta → GrantSpent h.state → Spent plan h
spent_of plan h at_most p refusal =
    let none_open = ap open_count refusal.idle_quantum in
    let all : length h.closed_quanta ≡ quantum_limit = omega (arith, p.counted, refusal.no_more_quanta) in
    record {
      all_closed = all;
      ticks_used = rw (← all) (omega (arith, p.used));
    }
