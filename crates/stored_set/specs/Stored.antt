-- The stored set of a second implementation: its cases one after the other, each an input's size in three bytes, the input, the size of
-- what was printed in one byte, and what was printed. And what running the set counts.
use Rattle.std.specs.Prelude.{Bool, true, false, cond, ◌&&◌, List, [], ◌∷◌, ℕ, zero, suc}
use Rattle.std.specs.Prelude.{Option, Some, None, Result, Ok, Err, ◌+◌, ◌-◌, eqb, leb, ltb, length, get_or, take, drop, codes}
use Rattle.model.specs.Tests.{keep}
use Rattle.model.specs.Plan.{number}
use Rattle.model.specs.Program.{program}
use Rattle.stored_set.specs.declared.Cut.{Cut}
use Rattle.stored_set.specs.declared.SetTally.{SetTally}
use Rattle.stored_set.specs.declared.Verdict.{Verdict}
use Rattle.stored_set.specs.declared.Verdict.TheVariants.{AllAsSaid, SomeOther, SetCut, NothingRan}

-- ---- the cases of a set

pub record Case : Type 0 where
  pub input : List ℕ
  pub expected : List ℕ

unfoldable pub input_size : List ℕ → ℕ
input_size bytes = number bytes 0 3

unfoldable pub expected_size : List ℕ → ℕ
expected_size bytes = get_or bytes (3 + input_size bytes) 0

abbrev pub case_size : List ℕ → ℕ
case_size bytes = 4 + input_size bytes + expected_size bytes

abbrev pub first_case : List ℕ → Case
first_case bytes =
    record {
      input = take (input_size bytes) (drop 3 bytes);
      expected = take (expected_size bytes) (drop (4 + input_size bytes) bytes);
    }

-- the whole cases, and whether nothing is left over
pub record Stored : Type 0 where
  pub cases : List Case
  pub whole : Bool

abbrev pub case_then : Case → Stored → Stored
case_then case rest = record { cases = case ∷ rest.cases; whole = rest.whole }

-- every case takes four bytes or more, so there are no more of them than bytes
unfoldable pub stored_up_to : ℕ → List ℕ → Stored
stored_up_to zero bytes = record { cases = []; whole = true }
stored_up_to (suc most) [] = record { cases = []; whole = true }
stored_up_to (suc most) (byte ∷ bytes) =
    let set = byte ∷ bytes in
    cond (leb (case_size set) (length set)) (case_then (first_case set) (stored_up_to most (drop (case_size set) set)))
    (record { cases = []; whole = false })

unfoldable pub stored : List ℕ → Stored
stored bytes = stored_up_to (length bytes) bytes

-- ---- what running them counts

unfoldable pub same_bytes : List ℕ → List ℕ → Bool
same_bytes [] [] = true
same_bytes [] (y ∷ ys) = false
same_bytes (x ∷ xs) [] = false
same_bytes (x ∷ xs) (y ∷ ys) = eqb x y && same_bytes xs ys

-- the program prints what the second implementation printed
abbrev pub as_said : Case → Bool
as_said case = same_bytes (program case.input) case.expected

abbrev pub tally_of : Stored → SetTally
tally_of set =
    record {
      cases = length set.cases;
      same = length (keep as_said set.cases);
      whole = set.whole;
    }

-- every case as said, and some case there is
abbrev pub verdict_of : SetTally → Verdict
verdict_of tally =
    cond tally.whole
    (cond (eqb tally.cases 0) NothingRan (cond (eqb tally.same tally.cases) AllAsSaid SomeOther))
    SetCut

-- what is printed behind the counts
abbrev pub verdict_text : Verdict → List ℕ
verdict_text AllAsSaid = []
verdict_text SomeOther = codes ": NOT ALL THE SAME"
verdict_text SetCut = codes ": THE SET IS CUT OFF"
verdict_text NothingRan = codes ": NOTHING RAN"

-- ---- the case at a place of a set

-- its two sizes, one that is cut off, or nothing more
abbrev pub Placed : Type 0
Placed = Result (Option (ℕ × ℕ)) Cut

unfoldable pub placed_of : List ℕ → ℕ → Placed
placed_of set at =
    let rest = drop at set in
    cond (ltb at (length set)) (cond (leb (case_size rest) (length set - at)) (Ok (Some (input_size rest, expected_size rest)))
    (Err (record {}))) (Ok None)
