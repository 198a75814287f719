-- `quantum::next_wish` meets its contract: efficient, and satisfied only by just as many workers as were wanted.
use mathlib.Core.Path.{sym, ◌∙◌}
use borrow.Author.Tests.{eq-eqb}
use Rattle.model.specs.Machine.{next_wish, satisfied}
use Rattle.quantum.proofs.next_wish.Goals as goal

pub returns : goal.returns
unfolding next_wish satisfied
returns c =
    record { next = rw (sym c.is_efficient.ensures ∙ c.if-not-is_efficient.false, eq-eqb _ _ c.if-granted-wish.false) c.raised.ensures }
