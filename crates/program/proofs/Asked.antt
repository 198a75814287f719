-- The questions of the input and of the plan, each as the code asks it.
-- Assumes nothing.
use mathlib.Core.Path.{◌≡◌, refl, sym, ap, ◌∙◌}
use mathlib.Core.List.{List}
use Prim.Native.Nat.{ℕ, ◌+◌, ◌*◌, ◌-◌, ◌≤◌, ◌<◌}
use native.Mathlib.Omega.{arith}
use lib.ListN.{length, take, drop, get_or, length-drop}
use lib.Seq.{take_all}
use borrow.Author.Tests.{le-leb, lt-leb}
use Rattle.model.specs.Questions.{Answer, accepted, refused, first_no}
use Rattle.model.specs.Plan.{number, plan_of, plan_answer}
use Rattle.model.specs.Program.{plan_length, plan_part, log_part, input_questions, refused_line, log_output, output_by, program}
use Rattle.program.specs.declared.printed.Output.{Output}
use Rattle.program.specs.Output.{Prints}

-- ---- the plan's answer

pub after_plan : (x : Answer) (output : List ℕ) (r : Output) → accepted ≡ x → Prints output r → Prints (output_by x output) r
after_plan x output r e p = rw (← e) p

pub refused_plan : (x : Answer) (n : ℕ) (output : List ℕ) (r : Output) → refused n ≡ x → Prints (refused_line n) r → Prints
    (output_by x output) r
refused_plan x n output r e p = rw (← e) p

-- ---- the input's questions

pub length_read : (input : List ℕ) → plan_length input ≡ get_or input 0 0 * 256 + get_or input 1 0
unfolding plan_length number
length_read input = omega arith

module _ (input : List ℕ) where
  pub too_long : 65536 < length input → first_no (input_questions input) ≡ refused 21
  unfolding input_questions first_no
  too_long h = rw (lt-leb (length input) 65536 h) refl

  module _ (fits : length input ≤ 65536) where
    pub no_length : length input < 2 → first_no (input_questions input) ≡ refused 22
    unfolding input_questions first_no
    no_length h = rw (le-leb (length input) 65536 fits, lt-leb 2 (length input) h) refl

    module _ (two : 2 ≤ length input) (size : ℕ) (reads : size ≡ get_or input 0 0 * 256 + get_or input 1 0) where
      same_length : plan_length input ≡ size
      same_length = length_read input ∙ sym reads

      pub cut_short : length input < 2 + size → first_no (input_questions input) ≡ refused 22
      unfolding input_questions first_no
      cut_short h =
          rw (le-leb (length input) 65536 fits, le-leb 2 (length input) two, same_length, lt-leb (2 + size) (length input) h) refl

      pub whole_input : 2 + size ≤ length input → (plan log : List ℕ) → plan ≡ take (2 + size - 2) (drop 2 input)
          → log ≡ take (length input - (2 + size)) (drop (2 + size) input)
          → (first_no (input_questions input) ≡ accepted) × (plan ≡ plan_part input) × (log ≡ log_part input)
      unfolding input_questions first_no plan_part log_part
      whole_input h plan log plan_is log_is =
          let count : 2 + size - 2 ≡ size = omega arith in
          let to_the_end : log ≡ drop (2 + size) input =
          log_is ∙ take_all (length input - (2 + size)) (drop (2 + size) input) (omega (arith, length-drop (2 + size) input)) in (
            rw (le-leb (length input) 65536 fits, le-leb 2 (length input) two, same_length, le-leb (2 + size) (length input) h) refl,
            rw same_length (plan_is ∙ ap (λ (n : ℕ). take n (drop 2 input)) count),
            rw same_length to_the_end,
          )

  module _ (r : Output) where
    prints : (x : Answer) → first_no (input_questions input) ≡ x
        → Prints (output_by x (output_by (plan_answer (plan_part input)) (log_output (plan_of (plan_part input)) (log_part input)))) r
        → Prints (program input) r
    unfolding program
    prints x e p = rw e p

    pub refused_input : (n : ℕ) → first_no (input_questions input) ≡ refused n → Prints (refused_line n) r → Prints (program input) r
    refused_input n e p = prints (refused n) e p

    pub input_run : (plan log : List ℕ) → (first_no (input_questions input) ≡ accepted) × (plan ≡ plan_part input) × (log ≡ log_part input)
        → Prints (output_by (plan_answer plan) (log_output (plan_of plan) log)) r → Prints (program input) r
    input_run plan log parts p = prints accepted parts.0 (rw (parts.1, parts.2) at p)
