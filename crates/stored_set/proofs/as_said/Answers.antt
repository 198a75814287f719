-- `stored_set::as_said` meets its contract: what is compared is what the program prints. Assumes nothing.
use Rattle.std.proofs.Common.{◌∙◌, ap}
use Rattle.stored_set.specs.Stored.{same_bytes}
use Rattle.stored_set.proofs.Counts.{compared}
use Rattle.stored_set.proofs.as_said.Goals as goal

pub returns : goal.returns
returns c =
    c.eq.ensures
    ∙ compared c.as_slice.result.now c.args.expected.now
    ∙ ap (λ printed. same_bytes printed c.args.expected.now) (c.as_slice.ensures ∙ c.run.ensures.written)
