-- `stored_set::run` meets its contract: what CasesSoFar says is kept by a whole case, and at the set's end it is what is promised. A whole
-- case is inside the set. Assumes nothing.
use Rattle.std.proofs.Common.{refl, sym, ap, ◌∙◌, true, false, arith}
use Rattle.std.specs.Prelude.{None, Ok, Err}
use Rattle.stored_set.proofs.Cases.{says, whole_here}
use Rattle.stored_set.proofs.Counts.{counted_byte, one_more, ends_here}
use Rattle.stored_set.proofs.run.Goals as goal

pub overflow_add-place : goal.overflow_add-place
overflow_add-place c = omega (arith, (whole_here (c.in-Ok-Some.is ∙ ap Ok c.in-Ok-Some.field-0-is) c.case_at.ensures).inside)

pub overflow_add-next : goal.overflow_add-next
overflow_add-next c = omega (arith, (whole_here (c.in-Ok-Some.is ∙ ap Ok c.in-Ok-Some.field-0-is) c.case_at.ensures).inside)

pub overflow_add-end : goal.overflow_add-end
overflow_add-end c = omega (arith, (whole_here (c.in-Ok-Some.is ∙ ap Ok c.in-Ok-Some.field-0-is) c.case_at.ensures).inside)

pub slice_bounds-as_said-end : goal.slice_bounds-as_said-end
slice_bounds-as_said-end c = omega (arith, (whole_here (c.in-Ok-Some.is ∙ ap Ok c.in-Ok-Some.field-0-is) c.case_at.ensures).inside)

pub slice_bounds-as_said-end-in-Ok-Some : goal.slice_bounds-as_said-end-in-Ok-Some
slice_bounds-as_said-end-in-Ok-Some c = omega (
  arith,
  (whole_here (c.in-Ok-Some.is ∙ ap Ok c.in-Ok-Some.field-0-is)
      c.case_at.ensures).inside,
)

pub loop-input-smaller : goal.loop-input-smaller
loop-input-smaller c = omega (arith, (whole_here (c.in-Ok-Some.is ∙ ap Ok c.in-Ok-Some.field-0-is) c.case_at.ensures).inside)

-- one case more
pub loop-input-preserved : goal.loop-input-preserved
loop-input-preserved c =
    one_more _ _ _ _ c.loop-input.invariant _ _ _ _ _ _ _ (whole_here (c.in-Ok-Some.is ∙ ap Ok c.in-Ok-Some.field-0-is)
    c.case_at.ensures) refl refl refl
    c.as_said.ensures (c.from-same.ensures ∙ counted_byte c.as_said.result)

-- the set's end
pub returns-in-Err : goal.returns-in-Err
returns-in-Err c =
    ends_here _ _ _ _ c.loop-input.invariant false (says _ _ (Err c.in-Err.field-0) (sym c.in-Err.is ∙ c.case_at.ensures))

pub returns-in-Ok-None : goal.returns-in-Ok-None
returns-in-Ok-None c =
    ends_here _ _ _ _ c.loop-input.invariant true
    (says _ _ (Ok None) (sym (c.in-Ok-None.is ∙ ap Ok c.in-Ok-None.field-0-is) ∙ c.case_at.ensures))
