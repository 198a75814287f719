-- Stretches without byte 10, put together. Assumes nothing.
use mathlib.Core.Path.{◌≡◌, sym, ap, ◌∙◌}
use mathlib.Core.List.{List}
use Prim.Native.Nat.{ℕ, ◌+◌, ◌-◌, ◌≤◌, ◌<◌}
use native.Mathlib.Omega.{arith}
use lib.ListN.{length, get_or, take, drop, length-drop}
use lib.Seq.{get_or-drop, take_all}
use Rattle.std.specs.List.{AllWithin, HoldsAt}
use Rattle.label.specs.Ends.{Passed, LineEnd}

pub passed_byte : {sheet : List ℕ} {from to : ℕ} → Passed sheet from to → to < length sheet → (get_or sheet to 0 ≡ 10 → ⊥)
    → Passed sheet from (to + 1)
passed_byte {sheet} {from} {to} p inside other =
    record {
      forward = omega (arith, p.forward);
      within = omega arith;
      clear = λ k least most ten. grind (arith, p.clear k least, other);
    }

pub passed_block : {sheet : List ℕ} {from middle to : ℕ} → Passed sheet from middle → Passed sheet middle to → Passed sheet from to
passed_block {sheet} {from} {middle} {to} p q =
    record {
      forward = omega (arith, p.forward, q.forward);
      within = q.within;
      clear = λ k least most ten. grind (arith, p.clear k least, q.clear k);
    }

-- of what is left the first bytes are none of them byte 10
pub passed_front : {sheet : List ℕ} {from : ℕ} (more : ℕ) → from + more ≤ length sheet →
    AllWithin (λ x. x ≡ 10 → ⊥) (drop from sheet) 0 more → Passed sheet from (from + more)
passed_front {sheet} {from} more inside none =
    record {
      forward = omega arith;
      within = inside;
      clear = λ k least most ten.
          let there : from + (k - from) ≡ k = omega arith in
          none (k - from) 0 (omega arith) (omega arith)
          (get_or-drop from sheet (k - from) 0 ∙ ap (λ (i : ℕ). get_or sheet i 0) there ∙ ten);
    }

-- the first byte 10 of what is left, and none
module _ (sheet : List ℕ) (from : ℕ) (start : from ≤ length sheet) where
  abbrev rest : List ℕ
  rest = take (length sheet - from) (drop from sheet)

  rest_is : rest ≡ drop from sheet
  rest_is = take_all (length sheet - from) (drop from sheet) (omega (arith, length-drop from sheet))

  pub end_found : (more : ℕ) →
      (more < length rest) × HoldsAt (λ x. x ≡ 10) rest more × AllWithin (λ x. x ≡ 10 → ⊥) rest 0 more →
      LineEnd sheet from (from + more)
  end_found more found = ends (rw rest_is at found)
    where
      ends : (more < length (drop from sheet))
          × HoldsAt (λ x. x ≡ 10) (drop from sheet) more
          × AllWithin (λ x. x ≡ 10 → ⊥) (drop from sheet) 0 more →
          LineEnd sheet from (from + more)
      ends here =
          record {
            passed = passed_front more (omega (arith, here.0, length-drop from sheet)) here.2;
            ended = λ inside. sym (get_or-drop from sheet more 0) ∙ here.1 0;
          }

  pub none_found : AllWithin (λ x. x ≡ 10 → ⊥) rest 0 (length rest) → LineEnd sheet from (length sheet)
  none_found none =
      let all : from + length (drop from sheet) ≡ length sheet = omega (arith, length-drop from sheet) in
      let passed : Passed sheet from (from + length (drop from sheet)) =
      passed_front (length (drop from sheet)) (omega (arith, all)) (rw rest_is at none) in
      record { passed = rw all at passed; ended = λ inside. absurd (omega arith) }
