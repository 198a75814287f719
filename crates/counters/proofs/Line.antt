-- The counters line as a whole: it is as long as the ten counts plus 10, which is 127 bytes at most; and question 20 for both answers.
-- Assumes nothing.
use mathlib.Core.Path.{◌≡◌, refl}
use mathlib.Core.List.{List}
use Prim.Native.Nat.{ℕ, ◌^◌, ◌≤◌, ◌<◌}
use native.Mathlib.Omega.{arith}
use lib.Dec.{lit<}
use lib.ListN.{length}
use borrow.Author.Tests.{le-leb, lt-leb}
use Rattle.std.specs.Prelude.{Ok, Err}
use Rattle.model.specs.Questions.{first_no}
use Rattle.model.specs.Plan.{Plan}
use Rattle.model.specs.Machine.{State}
use Rattle.model.specs.Counters.{spaced, counters, counters_line, counters_answer, put_at_start}
use Rattle.model.specs.Digits.{line_size}
use Rattle.status.specs.declared.Status.{Status}
use Rattle.status.specs.declared.Status.TheVariants.{Fresh, Running, Held, Finished}
use Rattle.status.specs.Number.{status_number}
use Rattle.digits.proofs.Decimal.{count_within}
use Rattle.counters.specs.declared.Counters.{Counters}
use Rattle.counters.specs.declared.TooSmall.{TooSmall}
use Rattle.counters.specs.Line.{numbers_of, WritesLine}
use Rattle.counters.proofs.Spaced.{spaced_length}

-- "the line is as long as the ten counts plus 10"
pub counters_line_length : (plan : Plan) (s : State) (refusals : ℕ) →
    length (counters_line plan s refusals) ≡ line_size (counters plan s refusals)
unfolding counters counters_line
counters_line_length plan s refusals = spaced_length _ _

-- the same of ten numbers that are handed over
pub ten_length : (k : Counters) → length (spaced (numbers_of k)) ≡ line_size (numbers_of k)
ten_length k = spaced_length _ _

-- a status is one digit
status_small : (s : Status) → status_number s < 10
status_small Fresh = lit< tt
status_small Running = lit< tt
status_small Held = lit< tt
status_small Finished = lit< tt

-- numbers within the widths of their types
pub record Wide (k : Counters) : Type 0 where
  pub worked : k.worked < 2 ^ 16
  pub tasks : k.tasks < 2 ^ 16
  pub desire : k.desire < 2 ^ 8
  pub allotment : k.allotment < 2 ^ 8
  pub work : k.work < 2 ^ 64
  pub mug : k.mug < 2 ^ 64
  pub steal : k.steal < 2 ^ 64
  pub successes : k.successes < 2 ^ 64
  pub refusals : k.refusals < 2 ^ 64

-- "Has its buffer 128 bytes or more?" is always enough: the counts are 1, 5, 5, 3, 3 and five times 20 at most
pub line_within : (k : Counters) → Wide k → line_size (numbers_of k) ≤ 127
line_within k w =
    omega (
      arith,
      count_within 0 (status_number k.status) (status_small k.status),
      count_within 4 k.worked (omega (arith, w.worked)),
      count_within 4 k.tasks (omega (arith, w.tasks)),
      count_within 2 k.desire (omega (arith, w.desire)),
      count_within 2 k.allotment (omega (arith, w.allotment)),
      count_within 19 k.work (omega (arith, w.work)),
      count_within 19 k.mug (omega (arith, w.mug)),
      count_within 19 k.steal (omega (arith, w.steal)),
      count_within 19 k.successes (omega (arith, w.successes)),
      count_within 19 k.refusals (omega (arith, w.refusals)),
    )

-- a buffer of fewer than 128 bytes, and any other
pub too_small : (ten buffer : List ℕ) → length buffer < 128 → (why : TooSmall) → WritesLine ten buffer buffer (Err why)
unfolding counters_answer first_no
too_small ten buffer h why =
    let small = lt-leb 128 (length buffer) h in
    record { answered = rw small refl; sized = rw small refl; bytes = rw small refl }

pub big_enough : (ten buffer : List ℕ) → 128 ≤ length buffer →
    WritesLine ten buffer (put_at_start (spaced ten) buffer) (Ok (line_size ten))
unfolding counters_answer first_no
big_enough ten buffer h =
    let big = le-leb 128 (length buffer) h in
    record { answered = rw big refl; sized = rw big refl; bytes = rw big refl }
