-- What is shown of a job in lent memory, from what `job`, `report`, `label` and `counters` promise.
-- Assumes nothing.
use mathlib.Core.Path.{◌≡◌, ap, ◌∙◌}
use mathlib.Core.List.{List}
use Prim.Native.Nat.{ℕ}
use Rattle.std.specs.Prelude.{Result}
use Rattle.model.specs.Questions.{answer_number}
use Rattle.model.specs.Label.{Stretch, label, label_answer}
use Rattle.model.specs.Counters.{counters_line, buffer_after}
use Rattle.label.specs.declared.NoLine.{NoLine}
use Rattle.label.specs.declared.Stretch.{Stretch as Line}
use Rattle.label.specs.Found.{found_answer, found_stretch}
use Rattle.counters.specs.declared.Counters.{Counters}
use Rattle.counters.specs.declared.TooSmall.{TooSmall}
use Rattle.counters.specs.Line.{numbers_of, line_answer, line_length, WritesLine}
use Rattle.report.specs.Shown.{CountersOf}
use Rattle.exports.specs.Promises.{ShowsStatus, ShowsLine, ShowsWording}

-- what looking for the status's line found
pub wording_shown : (words sheet : List ℕ) (number : ℕ) (found : Result Line NoLine) → ShowsStatus words number →
    found_answer found ≡ label_answer sheet number → found_stretch found ≡ label sheet number →
    ShowsWording words sheet (found_stretch found).start (found_stretch found).size (answer_number (found_answer found))
wording_shown words sheet number found shown answered stretch =
    record {
      right = λ memory job.
          let same = shown.right memory job in (
            ap answer_number answered ∙ ap (λ (s : ℕ). answer_number (label_answer sheet s)) same,
            ap (λ (s : Stretch). s.start) stretch ∙ ap (λ (s : ℕ). (label sheet s).start) same,
            ap (λ (s : Stretch). s.size) stretch ∙ ap (λ (s : ℕ). (label sheet s).size) same,
          );
    }

-- what writing the line answered
pub line_shown : {words : List ℕ} {refusals : ℕ} {k : Counters} → CountersOf words refusals k → {buffer buffer' : List ℕ}
    {answer : Result ℕ TooSmall} → WritesLine (numbers_of k) buffer buffer' answer →
    ShowsLine words refusals buffer buffer' (line_length answer) (answer_number (line_answer answer))
unfolding counters_line buffer_after
line_shown shown written =
    record {
      answered = ap answer_number written.answered;
      right = λ memory job. let its_line = rw (shown.right memory job) at written in (its_line.sized, its_line.bytes);
    }
