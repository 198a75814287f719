-- The case at a place of a set is the first of the stored cases from that place on.
-- Assumes nothing.
use mathlib.Core.Path.{◌≡◌, refl, sym, ap, ◌∙◌}
use mathlib.Core.Bool.{Bool, true, false, cond}
use mathlib.Core.List.{List, [], ◌∷◌}
use Prim.Native.Nat.{ℕ, zero, suc, ◌+◌, ◌*◌, ◌-◌, ◌≤◌, ◌<◌}
use native.Mathlib.Omega.{arith}
use lib.Dec.{ltb, leb}
use lib.ListN.{length, get_or, take, drop, length-drop, drop_of_length-le}
use lib.Seq.{drop-drop, get_or-drop}
use borrow.Author.Tests.{ltb-true, ltb-false, leb-true, lt-ltb, le-ltb, le-leb, lt-leb}
use Rattle.model.specs.Plan.{number}
use Rattle.std.specs.Prelude.{Some, None, Ok, Err}
use Rattle.stored_set.specs.Stored.{Stored, input_size, expected_size, case_size, first_case, case_then, stored_up_to, stored}
use Rattle.stored_set.specs.Stored.{Placed, placed_of}

-- ---- the bound on the number of cases does not matter

abbrev cut_off : Stored
cut_off = record { cases = []; whole = false }

-- any two bounds that the length does not exceed
same_stored : (most other : ℕ) (bytes : List ℕ) → length bytes ≤ most → length bytes ≤ other →
    stored_up_to most bytes ≡ stored_up_to other bytes
unfolding stored_up_to
same_stored zero zero bytes h k = refl
same_stored zero (suc other) [] h k = refl
same_stored zero (suc other) (byte ∷ bytes) h k = absurd (omega arith)
same_stored (suc most) zero [] h k = refl
same_stored (suc most) zero (byte ∷ bytes) h k = absurd (omega arith)
same_stored (suc most) (suc other) [] h k = refl
same_stored (suc most) (suc other) (byte ∷ bytes) h k =
    let set = byte ∷ bytes in
    ap (λ rest. cond (leb (case_size set) (length set)) (case_then (first_case set) rest) cut_off)
    (same_stored most other (drop (case_size set) set)
    (omega (arith, length-drop (case_size set) set)) (omega (arith, length-drop (case_size set) set)))

-- the cases of some bytes, without a bound
stored_cons : (byte : ℕ) (bytes : List ℕ) →
    let set = byte ∷ bytes in
    stored set ≡ cond (leb (case_size set) (length set)) (case_then (first_case set) (stored (drop (case_size set) set))) cut_off
unfolding stored stored_up_to
stored_cons byte bytes =
    let set = byte ∷ bytes in
    ap (λ rest. cond (leb (case_size set) (length set)) (case_then (first_case set) rest) cut_off)
    (same_stored (length bytes) (length (drop (case_size set) set)) (drop (case_size set) set)
    (omega (arith, length-drop (case_size set) set)) (omega arith))

pub stored_first : (set : List ℕ) → 0 < length set →
    stored set ≡ cond (leb (case_size set) (length set)) (case_then (first_case set) (stored (drop (case_size set) set))) cut_off
stored_first [] h = absurd (omega arith)
stored_first (byte ∷ bytes) h = stored_cons byte bytes

-- ---- the sizes, as the code reads them

module _ (set : List ℕ) (at : ℕ) where
  pub input_read : input_size (drop at set) ≡ get_or set at 0 * 65536 + get_or set (at + 1) 0 * 256 + get_or set (at + 2) 0
  unfolding input_size number
  input_read =
      let same : at + 0 ≡ at = omega arith in
      omega (arith, get_or-drop at set 0 0, ap (λ (i : ℕ). get_or set i 0) same, get_or-drop at set 1 0, get_or-drop at set 2 0)

  pub expected_read : (place : ℕ) → place ≡ at + 3 + input_size (drop at set) → expected_size (drop at set) ≡ get_or set place 0
  unfolding expected_size
  expected_read place e =
      let same : at + (3 + input_size (drop at set)) ≡ place = omega arith in
      get_or-drop at set (3 + input_size (drop at set)) 0 ∙ ap (λ (i : ℕ). get_or set i 0) same

-- ---- the answers of the code

module _ (set : List ℕ) (at : ℕ) where
  pub at_end : length set ≤ at → Ok None ≡ placed_of set at
  unfolding placed_of
  at_end h = rw (le-ltb at (length set) h)

  pub at_cut : at < length set → length set - at < case_size (drop at set) → Err (record {}) ≡ placed_of set at
  unfolding placed_of
  at_cut h k = rw (lt-ltb at (length set) h, lt-leb (case_size (drop at set)) (length set - at) k)

  pub at_whole : at < length set → case_size (drop at set) ≤ length set - at →
      (input expected : ℕ) → input ≡ input_size (drop at set) → expected ≡ expected_size (drop at set) →
      Ok (Some (input, expected)) ≡ placed_of set at
  unfolding placed_of
  at_whole h k input expected e f = rw (lt-ltb at (length set) h, le-leb (case_size (drop at set)) (length set - at) k, e, f)

-- ---- what the place of a case says

-- the case that stands at `at`, of these sizes, and the place after it
pub record CaseHere (set : List ℕ) (at input expected : ℕ) : Type 0 where
  pub input_is : input ≡ input_size (drop at set)
  pub expected_is : expected ≡ expected_size (drop at set)
  pub inside : at + (4 + input + expected) ≤ length set

abbrev pub Says : List ℕ → ℕ → Placed → Type 0
Says set at (Ok (Some (input, expected))) = CaseHere set at input expected
Says set at (Err cut) = stored (drop at set) ≡ cut_off
Says set at (Ok None) = stored (drop at set) ≡ record { cases = []; whole = true }

module _ (set : List ℕ) (at : ℕ) where
  abbrev rest : List ℕ
  rest = drop at set

  says_by : (fits : Bool) → at < length set → leb (case_size rest) (length set - at) ≡ fits →
      Says set at (cond fits (Ok (Some (input_size rest, expected_size rest))) (Err (record {})))
  says_by true h e =
      record { input_is = refl; expected_is = refl; inside = omega (arith, leb-true (case_size rest) (length set - at) e) }
  says_by false h e =
      stored_first rest (omega (arith, length-drop at set))
      ∙ ap (λ (fits : Bool). cond fits (case_then (first_case rest) (stored (drop (case_size rest) rest))) cut_off)
      (ap (leb (case_size rest)) (length-drop at set) ∙ e)

  says_there : (more : Bool) → ltb at (length set) ≡ more →
      Says set at
      (cond more (cond (leb (case_size rest) (length set - at)) (Ok (Some (input_size rest, expected_size rest))) (Err (record {})))
      (Ok None))
  unfolding stored stored_up_to
  says_there true e = says_by _ (ltb-true at (length set) e) refl
  says_there false e = rw (drop_of_length-le set (ltb-false at (length set) e))

  pub says : (placed : Placed) → placed ≡ placed_of set at → Says set at placed
  unfolding placed_of
  says placed e = rw e (says_there _ refl)

-- a place that is read as a whole case has one
pub whole_here : {set : List ℕ} {at input expected : ℕ} {placed : Placed} → placed ≡ Ok (Some (input, expected)) → placed ≡
    placed_of set at →
    CaseHere set at input expected
whole_here {set} {at} {input} {expected} is read = says set at (Ok (Some (input, expected))) (sym is ∙ read)

-- the cases from a case on, by where its parts stand
pub stored_here : (set : List ℕ) (at input expected : ℕ) → CaseHere set at input expected →
    stored (drop at set)
    ≡ case_then
    (record { input = take input (drop (at + 3) set); expected = take expected (drop (at + 4 + input) set) })
    (stored (drop (at + (4 + input + expected)) set))
stored_here set at input expected here =
    let rest = drop at set in
    let fits : leb (case_size rest) (length rest) ≡ true =
    le-leb (case_size rest) (length rest) (omega (arith, here.inside, here.input_is, here.expected_is, length-drop at set)) in
    let place : at + (4 + input) ≡ at + 4 + input = omega arith in
    let input_there = drop-drop 3 at set in
    let expected_there = drop-drop (4 + input) at set in
    let after = drop-drop (4 + input + expected) at set in
    stored_first rest (omega (arith, here.inside, length-drop at set))
    ∙ ap (λ (b : Bool). cond b (case_then (first_case rest) (stored (drop (case_size rest) rest))) cut_off) fits
    ∙ rw (← here.input_is, ← here.expected_is, input_there, expected_there, after, place)
