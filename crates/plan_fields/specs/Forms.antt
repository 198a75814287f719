-- The plan forms as rows of model's table.
use Rattle.std.specs.Prelude.{◌≡◌, true, false, ℕ, Result, MatchResult}
use Rattle.model.specs.Plan.{Form as Row, form_1, form_2, form_3, forms, is_form, form_with}
use Rattle.plan_fields.specs.declared.PlanRefusal.{PlanRefusal}
use Rattle.plan_fields.specs.declared.PlanRefusal.TheVariants.{UnknownForm}
use Rattle.plan_fields.specs.declared.Form.{Form}
use Rattle.plan_fields.specs.declared.Form.TheVariants.{One, Two, Three}

abbrev pub row_of : Form → Row
row_of One = form_1
row_of Two = form_2
row_of Three = form_3

-- the result is the form of this number, or the refusal where there is none
abbrev pub Names : ℕ → Result Form PlanRefusal → Type 0
Names number r =
    MatchResult r
    (λ form. (is_form number forms ≡ true) × (row_of form ≡ form_with number forms))
    (λ e. (e ≡ UnknownForm) × (is_form number forms ≡ false))
