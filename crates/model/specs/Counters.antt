-- Document 01, "Day log and label": the counters line (count line).
use Rattle.std.specs.Prelude.{cond, List, [], ◌∷◌, ◌++◌, ℕ, zero, suc, ◌+◌, ◌/◌, ◌%◌, leb, ltb, length, drop}
use Rattle.model.specs.Questions.{Answer, ask, first_no, by_answer}
use Rattle.model.specs.Plan.{Plan, tasks}
use Rattle.model.specs.Machine.{State, allotment, tasks_worked, status}

-- the decimal digits of n as bytes, the most significant first; a number has no more digits than itself, but for 0
unfoldable pub decimal_up_to : ℕ → ℕ → List ℕ
decimal_up_to zero n = (48 + n) ∷ []
decimal_up_to (suc most) n =
    let longer = decimal_up_to most (n / 10) ++ ((48 + n % 10) ∷ []) in
    cond (ltb n 10) ((48 + n) ∷ []) longer

unfoldable pub decimal : ℕ → List ℕ
decimal n = decimal_up_to n n

-- "ten decimal numbers with one space between and byte 10 after"
unfoldable pub spaced : List ℕ → List ℕ
spaced [] = 10 ∷ []
spaced (n ∷ []) = decimal n ++ (10 ∷ [])
spaced (n ∷ (m ∷ rest)) = decimal n ++ (32 ∷ spaced (m ∷ rest))

-- "status, pieces worked, N, wanted, granted, work, mug, steal, successful steals, refused calls"
unfoldable pub counters : Plan → State → ℕ → List ℕ
counters plan s refusals =
    status s
    ∷ tasks_worked s
    ∷ tasks plan.graph
    ∷ s.wish.desire
    ∷ allotment s
    ∷ s.execution.counts.works.work
    ∷ s.execution.counts.mugs.mug
    ∷ s.execution.counts.steals.steal
    ∷ s.execution.counts.successes
    ∷ refusals
    ∷ []

unfoldable pub counters_line : Plan → State → ℕ → List ℕ
counters_line plan s refusals = spaced (counters plan s refusals)

-- "The count line: Has its buffer 128 bytes or more? 20"
unfoldable pub counters_answer : List ℕ → Answer
counters_answer buffer = first_no (ask (leb 128 (length buffer)) 20 ∷ [])

-- a buffer with bytes put at its start: "Buffer bytes after it do not change."
abbrev pub put_at_start : List ℕ → List ℕ → List ℕ
put_at_start bytes buffer = bytes ++ drop (length bytes) buffer

-- the buffer after the call: "20 returns the number and leaves the buffer unchanged"
unfoldable pub buffer_after : Plan → State → ℕ → List ℕ → List ℕ
buffer_after plan s refusals buffer =
    by_answer (counters_answer buffer) (put_at_start (counters_line plan s refusals) buffer) buffer
