-- Document 01, "Day log and label": the program, from its input's bytes to its output's.
use Rattle.std.specs.Prelude.{◌&&◌, List, [], ◌∷◌, ◌++◌, ℕ, ◌+◌, leb, length, take, drop}
use Rattle.model.specs.Questions.{Question, Answer, accepted, refused, ask, first_no}
use Rattle.model.specs.Plan.{Plan, number, plan_of, plan_answer}
use Rattle.model.specs.Machine.{fresh}
use Rattle.model.specs.Log.{run_log, log_answer}
use Rattle.model.specs.Counters.{decimal, counters_line}

-- "plan length in 16 bits, plan, log to the end"
unfoldable pub plan_length : List ℕ → ℕ
plan_length input = number input 0 2

unfoldable pub plan_part : List ℕ → List ℕ
plan_part input = take (plan_length input) (drop 2 input)

unfoldable pub log_part : List ℕ → List ℕ
log_part input = drop (2 + plan_length input) input

-- 21, then 22: "Are the first two bytes, and all plan bytes they announce, there?"
unfoldable pub input_questions : List ℕ → List Question
input_questions input =
    ask (leb (length input) 65536) 21
    ∷ ask (leb 2 (length input) && leb (2 + plan_length input) (length input)) 22
    ∷ []

-- "`refused `, a number and byte 10"
unfoldable pub refused_line : ℕ → List ℕ
refused_line number = (114 ∷ 101 ∷ 102 ∷ 117 ∷ 115 ∷ 101 ∷ 100 ∷ 32 ∷ []) ++ decimal number ++ (10 ∷ [])

abbrev pub refused_lines : Answer → List ℕ
refused_lines accepted = []
refused_lines (refused n) = refused_line n

-- "It prints the count line ..; after 18 the count line first, then `refused 18`."
unfoldable pub log_output : Plan → List ℕ → List ℕ
log_output plan log =
    let ran = run_log plan log (fresh plan) in
    counters_line plan ran.state ran.refusals ++ refused_lines (log_answer log)

abbrev pub output_by : Answer → List ℕ → List ℕ
output_by accepted output = output
output_by (refused n) output = refused_line n

-- the input's questions, then the plan's, then the log
unfoldable pub program : List ℕ → List ℕ
program input =
    output_by (first_no (input_questions input))
    (output_by (plan_answer (plan_part input)) (log_output (plan_of (plan_part input)) (log_part input)))
