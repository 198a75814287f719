-- `exports::status_in` meets its contract: the number of the status that the words show.
-- Assumes nothing.
use mathlib.Core.Path.{◌∙◌}
use Rattle.exports.proofs.status_in.Goals as goal

pub returns : goal.returns
returns c =
    record { right = λ memory job. c.from.ensures ∙ c.status_of-shown.ensures.right memory job }
