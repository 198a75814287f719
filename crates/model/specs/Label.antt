-- Document 01, "Day log and label": which stretch of a label sheet (wording sheet) words a status.
use Rattle.std.specs.Prelude.{cond, List, [], ◌∷◌, ℕ, suc, ◌+◌, eqb, ltb, length, get_or, take, drop}
use Rattle.model.specs.Questions.{Answer, ask, first_no}

-- a stretch of a sheet: where it starts, and how many bytes it has
pub record Stretch : Type 0 where
  pub start : ℕ
  pub size : ℕ

-- the sheet's lines from a place on, of which so many bytes of the line that is open there were read;
-- "each ended by byte 10; a stretch without that end is no line"
unfoldable pub lines_from : ℕ → ℕ → List ℕ → List Stretch
lines_from start size [] = []
lines_from start size (byte ∷ bytes) =
    cond (eqb byte 10)
    (record { start = start; size = size } ∷ lines_from (start + size + 1) 0 bytes)
    (lines_from start (suc size) bytes)

unfoldable pub lines : List ℕ → List Stretch
lines sheet = lines_from 0 0 sheet

abbrev pub no_stretch : Stretch
no_stretch = record { start = 0; size = 0 }

-- "The wording sheet: Has it the line? 19"
unfoldable pub label_answer : List ℕ → ℕ → Answer
label_answer sheet status = first_no (ask (ltb status (length (lines sheet))) 19 ∷ [])

-- "one line a status, from status 0": the line without byte 10; where there is none, an empty part
unfoldable pub label : List ℕ → ℕ → Stretch
label sheet status = get_or (lines sheet) status no_stretch

-- the bytes of a stretch
abbrev pub bytes_of : List ℕ → Stretch → List ℕ
bytes_of sheet s = take s.size (drop s.start sheet)
