-- What a job has used up when a call of it meets 13: every tick of every quantum that it may begin.
use Rattle.std.specs.Prelude.{◌≡◌, cond, List, [], ◌∷◌, ℕ, ◌+◌, ◌*◌, ◌≤◌, eqb, length}
use Rattle.model.specs.Questions.{refused}
use Rattle.model.specs.Plan.{Plan}
use Rattle.model.specs.Machine.{Call, call_answer, quantum_limit}
use Rattle.model.specs.History.{ClosedQuantum, History, work_count, mug_count}

-- how many quanta had no worker
unfoldable pub without_workers : List ClosedQuantum → ℕ
without_workers [] = 0
without_workers (q ∷ quanta) = cond (eqb q.granted 0) 1 0 + without_workers quanta

pub record Spent (plan : Plan) (h : History) : Type 0 where
  -- so many quanta have begun, and each of them has had its L ticks
  pub all_closed : length h.closed_quanta ≡ quantum_limit
  -- .. without a worker, or with a work or mug cycle in each
  pub ticks_used : plan.terms.quantum_length * quantum_limit
      ≤ plan.terms.quantum_length * without_workers h.closed_quanta + (work_count h + mug_count h)

-- a call, a grant or an offer, meets 13 only then. So it never does of a job with T ticks without a worker where
-- L × quantum_limit > T + W + M
abbrev pub SpentOnly : Plan → History → Type 0
SpentOnly plan h = (call : Call) → call_answer call h.state ≡ refused 13 → Spent plan h
