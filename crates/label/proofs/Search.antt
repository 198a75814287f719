-- The search for a status's line, byte by byte: what holds of a place in the sheet on the way, and that each step keeps it.
-- Assumes nothing.
use mathlib.Core.Path.{◌≡◌, refl, sym, ap, ◌∙◌}
use mathlib.Core.Bool.{Bool, true, false, cond}
use mathlib.Core.List.{List, [], ◌∷◌}
use Prim.Native.Nat.{ℕ, zero, suc, ◌+◌, ◌-◌, ◌≤◌, ◌<◌}
use native.Mathlib.Numerals.{add-one}
use native.Mathlib.Omega.{arith}
use lib.Dec.{eqb, ltb, leb-suc-suc}
use lib.ListN.{length, get_or, drop, drop_of_length-le}
use lib.Seq.{drop-cons}
use borrow.Author.Tests.{eq-eqb, ne_eqb, lt-ltb, le-ltb}
use Rattle.model.specs.Questions.{accepted, refused, first_no}
use Rattle.label.specs.Ends.{Passed}
use Rattle.model.specs.Label.{Stretch, no_stretch, lines_from, lines, label, label_answer}

-- the lines from place i on, where the line that is open there starts at `start`
unfoldable pub ahead : List ℕ → ℕ → ℕ → List Stretch
ahead sheet start i = lines_from start (i - start) (drop i sheet)

-- on the way: what is sought in the whole sheet is line number `left` of those ahead
pub record Sought (sheet : List ℕ) (status left start i : ℕ) : Type 0 where
  pub within : i ≤ length sheet
  pub open_line : start ≤ i
  pub has_line : ltb status (length (lines sheet)) ≡ ltb left (length (ahead sheet start i))
  pub same_line : get_or (lines sheet) status no_stretch ≡ get_or (ahead sheet start i) left no_stretch

pub at_first : (sheet : List ℕ) (status : ℕ) → Sought sheet status status 0 0
unfolding ahead lines
at_first sheet status = record { within = omega arith; open_line = omega arith; has_line = refl; same_line = refl }

module _ (sheet : List ℕ) (start i : ℕ) (inside : i < length sheet) (begun : start ≤ i) where
  -- a byte other than 10 lengthens the open line
  longer : (get_or sheet i 0 ≡ 10 → ⊥) → ahead sheet start i ≡ ahead sheet start (i + 1)
  unfolding ahead lines_from
  longer other =
      let size : suc (i - start) ≡ i + 1 - start = omega arith in
      rw (drop-cons sheet i 0 inside, ne_eqb _ _ other, size, add-one)

  -- byte 10 ends it
  ended : get_or sheet i 0 ≡ 10 → ahead sheet start i ≡ record { start = start; size = i - start } ∷ ahead sheet (i + 1) (i + 1)
  unfolding ahead lines_from
  ended ten =
      let here : start + (i - start) + 1 ≡ i + 1 = omega arith in
      let none : (i + 1) - (i + 1) ≡ 0 = omega arith in
      rw (drop-cons sheet i 0 inside, eq-eqb _ _ ten, here, none, add-one)

-- where nothing is ahead
at_end : (sheet : List ℕ) (start i : ℕ) → length sheet ≤ i → ahead sheet start i ≡ []
unfolding ahead lines_from
at_end sheet start i past = rw (drop_of_length-le sheet past)

-- of a list with a first element: element 0 is that one, and a later one is the rest's, one place sooner
later_has : {A : Type 0} (x : A) (xs : List A) (n : ℕ) → 0 < n → ltb n (length (x ∷ xs)) ≡ ltb (n - 1) (length xs)
later_has x xs zero h = absurd (omega arith)
later_has x xs (suc n) h =
    let e : suc n - 1 ≡ n = omega arith in
    rw e (leb-suc-suc (suc n) (length xs))

later : {A : Type 0} (x : A) (xs : List A) (n : ℕ) (d : A) → 0 < n → get_or (x ∷ xs) n d ≡ get_or xs (n - 1) d
later x xs zero d h = absurd (omega arith)
later x xs (suc n) d h =
    let e : suc n - 1 ≡ n = omega arith in
    rw e

module _ {sheet : List ℕ} {status left start i : ℕ} (s : Sought sheet status left start i) where
  pub past_byte : i < length sheet → (get_or sheet i 0 ≡ 10 → ⊥) → Sought sheet status left start (i + 1)
  past_byte inside other =
      let e = longer sheet start i inside s.open_line other in
      record {
        within = omega arith;
        open_line = omega arith;
        has_line = rw (← e) s.has_line;
        same_line = rw (← e) s.same_line;
      }

  pub past_line : i < length sheet → get_or sheet i 0 ≡ 10 → (left ≡ 0 → ⊥) → Sought sheet status (left - 1) (i + 1) (i + 1)
  past_line inside ten more =
      let e = ended sheet start i inside s.open_line ten in
      let h : 0 < left = omega arith in
      record {
        within = omega arith;
        open_line = omega arith;
        has_line = s.has_line ∙ rw (e, later_has);
        same_line = s.same_line ∙ rw (e, later);
      }

  pub here_answer : i < length sheet → get_or sheet i 0 ≡ 10 → left ≡ 0 → accepted ≡ label_answer sheet status
  unfolding label_answer first_no
  here_answer inside ten last =
      let e = ended sheet start i inside s.open_line ten in
      let has : ltb status (length (lines sheet)) ≡ true =
      s.has_line ∙ lt-ltb left (length (ahead sheet start i)) (rw e (omega arith)) in
      ap (λ (b : Bool). cond b accepted (refused 19)) (sym has)

  pub here : i < length sheet → get_or sheet i 0 ≡ 10 → left ≡ 0 → record { start = start; size = i - start } ≡ label sheet status
  unfolding label
  here inside ten last =
      let e = ended sheet start i inside s.open_line ten in
      rw (s.same_line, e, last)

  pub missing_answer : length sheet ≤ i → refused 19 ≡ label_answer sheet status
  unfolding label_answer first_no
  missing_answer past =
      let has : ltb status (length (lines sheet)) ≡ false =
      s.has_line ∙ le-ltb left (length (ahead sheet start i)) (rw (at_end sheet start i past) (omega arith)) in
      ap (λ (b : Bool). cond b accepted (refused 19)) (sym has)

  pub missing : length sheet ≤ i → no_stretch ≡ label sheet status
  unfolding label
  missing past = rw (s.same_line, at_end sheet start i past)

-- a stretch without byte 10 lengthens the open line too
past_stretch : {sheet : List ℕ} {status left start : ℕ} (n i j : ℕ) → j ≡ i + n → Passed sheet i j → Sought sheet status left start i
    → Sought sheet status left start j
past_stretch zero i j e p s =
    let same : j ≡ i = omega arith in
    rw same s
past_stretch {sheet} (suc n) i j e p s =
    let inside : i < length sheet = omega (arith, p.within) in
    let rest : Passed sheet (i + 1) j =
    record { forward = omega arith; within = p.within; clear = λ k least most. p.clear k (omega arith) most } in
    past_stretch n (i + 1) j (omega arith) rest (past_byte s inside (p.clear i (omega arith) (omega arith)))

pub past_bytes : {sheet : List ℕ} {status left start i j : ℕ} → Sought sheet status left start i → Passed sheet i j
    → Sought sheet status left start j
past_bytes {i = i} {j = j} s p = past_stretch (j - i) i j (omega (arith, p.forward)) p s

-- where the line of a number ends; the empty part, where there is none, ends at 0
abbrev line_end : List Stretch → ℕ → ℕ
line_end lines n = (get_or lines n no_stretch).start + (get_or lines n no_stretch).size

-- no line of a list ends past a place
abbrev Within : List Stretch → ℕ → Type 0
Within lines last = (n : ℕ) → line_end lines n ≤ last

within_cons : (s : Stretch) (lines : List Stretch) (last : ℕ) → s.start + s.size ≤ last → Within lines last → Within (s ∷ lines) last
within_cons s lines last first rest zero = first
within_cons s lines last first rest (suc n) = rest n

within_cond : (b : Bool) (xs ys : List Stretch) (last : ℕ) → Within xs last → Within ys last → Within (cond b xs ys) last
within_cond true xs ys last hx hy = hx
within_cond false xs ys last hx hy = hy

within_from : (start size : ℕ) (bytes : List ℕ) → Within (lines_from start size bytes) (start + size + length bytes)
unfolding lines_from
within_from start size [] = λ n. omega arith
within_from start size (byte ∷ bytes) =
    let last = start + size + length (byte ∷ bytes) in
    let ended_there = lines_from (start + size + 1) 0 bytes in
    let goes_on = lines_from start (suc size) bytes in
    let after : Within ended_there last = λ n. omega (arith, within_from (start + size + 1) 0 bytes n) in
    let longer_line : Within goes_on last = λ n. omega (arith, within_from start (suc size) bytes n) in
    let here : Stretch = record { start = start; size = size } in
    within_cond (eqb byte 10) (here ∷ ended_there) goes_on last (within_cons here ended_there last (omega arith) after) longer_line

-- a status's line, and the empty part where there is none, lie within the sheet
pub label_within : (sheet : List ℕ) (status : ℕ) → (label sheet status).start + (label sheet status).size ≤ length sheet
unfolding label lines
label_within sheet status = omega (arith, within_from 0 0 sheet status)
