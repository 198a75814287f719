-- The header of each plan form, by the number in the header's form field.
-- Assumes nothing.
use mathlib.Core.Path.{◌≡◌, refl}
use mathlib.Core.Bool.{Bool, true, false, cond}
use Prim.Native.Nat.{ℕ}
use borrow.Author.Tests.{eqb-true}
use lib.Dec.{eqb}
use Rattle.model.specs.Plan.{Form as Row, form_1, form_2, form_3, no_form, forms, form_with}
use Rattle.plan_fields.specs.declared.Header.{Header}
use Rattle.plan_fields.specs.Fields.{HeaderOf}

module _ {bits : ℕ} {h : Header} where
  -- forms with the same widths of R and L, in whole numbers or in tenths both, have one header
  same_header : (form other : Row) → other.in_tenths ≡ form.in_tenths → other.growth_bits ≡ form.growth_bits →
      other.length_bits ≡ form.length_bits → HeaderOf form bits h → HeaderOf other bits h
  same_header form other tenths r l read =
      record {
        form_read = read.form_read;
        growth_read = rw (tenths, r, l) read.growth_read;
        utilization_read = rw l read.utilization_read;
        quantum_read = rw l read.quantum_read;
        tasks_read = read.tasks_read;
      }

  module _ (form : ℕ) where
    pub gentle : eqb form 3 ≡ true → HeaderOf form_3 bits h → HeaderOf (form_with form forms) bits h
    unfolding form_with forms
    gentle e read = rw (eqb-true form 3 e) read

    -- all others have that of form 1, also what is no form
    pub plain : eqb form 3 ≡ false → HeaderOf form_1 bits h → HeaderOf (form_with form forms) bits h
    unfolding form_with forms
    plain e read = rw e (by (eqb form 1) (eqb form 2))
      where
        by : (one two : Bool) → HeaderOf (cond one form_1 (cond two form_2 no_form)) bits h
        by true two = read
        by false true = same_header form_1 form_2 refl refl refl read
        by false false = same_header form_1 no_form refl refl refl read
