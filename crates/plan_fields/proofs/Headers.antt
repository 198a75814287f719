-- The fields of a header's five bytes, as the code takes them from the bytes that they cross.
-- Assumes nothing.
use mathlib.Core.Path.{◌≡◌, sym, ap, ◌∙◌}
use mathlib.Core.Bool.{Bool, true, false, cond}
use mathlib.Core.List.{List}
use Prim.Native.Nat.{ℕ, ◌+◌, ◌*◌, ◌/◌, ◌%◌, ◌<◌}
use native.Mathlib.Omega.{arith}
use lib.Dec.{eqb}
use lib.ListN.{get_or}
use Rattle.model.specs.Plan.{by_tenths, by_factor, form_1, form_3, forms, form_with, field, growth_field_of, utilization_field_of}
use Rattle.model.specs.Plan.{quantum_length_field_of, header, number}
use Rattle.growth.specs.declared.Growth.{Growth}
use Rattle.growth.specs.Meaning.{growth_of}
use Rattle.plan_fields.specs.Fields.{HeaderOf}
use Rattle.plan_fields.proofs.Forms.{gentle, plain}

abbrev pub five_bytes : ℕ → ℕ → ℕ → ℕ → ℕ → ℕ
five_bytes a b c d e = (((a * 256 + b) * 256 + c) * 256 + d) * 256 + e

pub header_bytes : (bytes : List ℕ) → header bytes ≡
    five_bytes (get_or bytes 0 0) (get_or bytes 1 0) (get_or bytes 2 0) (get_or bytes 3 0) (get_or bytes 4 0)
unfolding header number
header_bytes bytes = omega arith

module _ (a b c d e : ℕ) (a_fits : a < 256) (b_fits : b < 256) (c_fits : c < 256) (d_fits : d < 256) (e_fits : e < 256) where
  form_bits : a / 16 ≡ field 4 36 (five_bytes a b c d e)
  form_bits = omega arith

  tasks_bits : d % 4 * 256 + e + 1 ≡ field 10 0 (five_bytes a b c d e) + 1
  tasks_bits = omega arith

  -- R 3, D 7, L 16
  factor_bits : a / 2 % 8 ≡ growth_field_of form_1 (five_bytes a b c d e)
  factor_bits = omega arith

  plain_utilization_bits : a % 2 * 64 + b / 4 ≡ utilization_field_of form_1 (five_bytes a b c d e)
  plain_utilization_bits = omega arith

  plain_length_bits : b % 4 * 16384 + (c * 64 + d / 4) ≡ quantum_length_field_of form_1 (five_bytes a b c d e)
  plain_length_bits = omega arith

  -- R in tenths 5, D 7, L 14
  tenths_bits : a % 16 * 2 + b / 128 ≡ growth_field_of form_3 (five_bytes a b c d e)
  tenths_bits = omega arith

  gentle_utilization_bits : b % 128 ≡ utilization_field_of form_3 (five_bytes a b c d e)
  gentle_utilization_bits = omega arith

  gentle_length_bits : c * 64 + d / 4 ≡ quantum_length_field_of form_3 (five_bytes a b c d e)
  gentle_length_bits = omega arith

  -- what the code takes apart, by the form that the first four bits name
  module _ (r : Growth) (u q : ℕ) where
    taken : (is_gentle : Bool) → eqb (a / 16) 3 ≡ is_gentle →
        growth_of r ≡ cond is_gentle (by_tenths (a % 16 * 2 + b / 128)) (by_factor (a / 2 % 8)) →
        u ≡ cond is_gentle (b % 128) (a % 2 * 64 + b / 4) →
        q ≡ cond is_gentle (c * 64 + d / 4) (b % 4 * 16384 + (c * 64 + d / 4)) →
        HeaderOf (form_with (a / 16) forms) (five_bytes a b c d e)
        (record { form = a / 16; growth = r; utilization = u; quantum = q; tasks = d % 4 * 256 + e + 1 })
    taken true three its_r its_u its_q =
        gentle (a / 16) three
        (record {
          form_read = form_bits;
          growth_read = its_r ∙ ap by_tenths tenths_bits;
          utilization_read = its_u ∙ gentle_utilization_bits;
          quantum_read = its_q ∙ gentle_length_bits;
          tasks_read = tasks_bits;
        })
    taken false other its_r its_u its_q =
        plain (a / 16) other
        (record {
          form_read = form_bits;
          growth_read = its_r ∙ ap by_factor factor_bits;
          utilization_read = its_u ∙ plain_utilization_bits;
          quantum_read = its_q ∙ plain_length_bits;
          tasks_read = tasks_bits;
        })

    pub header_taken : (is_gentle : Bool) → is_gentle ≡ eqb (a / 16) 3 →
        growth_of r ≡ cond is_gentle (by_tenths (a % 16 * 2 + b / 128)) (by_factor (a / 2 % 8)) →
        u ≡ cond is_gentle (b % 128) (a % 2 * 64 + b / 4) →
        q ≡ cond is_gentle (c * 64 + d / 4) (b % 4 * 16384 + (c * 64 + d / 4)) →
        HeaderOf (form_with (field 4 36 (five_bytes a b c d e)) forms) (five_bytes a b c d e)
        (record { form = a / 16; growth = r; utilization = u; quantum = q; tasks = d % 4 * 256 + e + 1 })
    header_taken is_gentle three its_r its_u its_q = rw (← form_bits) (taken is_gentle (sym three) its_r its_u its_q)
