-- `plan_fields::fields_answer` meets its contract: with no successors and unused fields of 0 there is nothing that 8 asks.
use Rattle.std.proofs.Common.{arith}
use Rattle.std.proofs.lemmas.Grind.{common_steps}
use Rattle.model.specs.Tests.{every}
use Rattle.model.specs.Questions.{first_no}
use Rattle.model.specs.Plan.{fields_ok, targets_ok, two_differ}
use Rattle.plan_fields.specs.Fields.{pair_questions}
use Rattle.plan_fields.proofs.fields_answer.Goals as goal

pub returns : goal.returns
unfolding pair_questions first_no fields_ok targets_ok two_differ every
returns c =
    grind (arith, common_steps)
