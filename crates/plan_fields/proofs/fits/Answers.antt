-- `plan_fields::fits` meets its contract: the questions, opened.
use Rattle.std.proofs.Common.{arith}
use Rattle.std.proofs.lemmas.Grind.{common_steps}
use Rattle.model.specs.Tests.{every}
use Rattle.model.specs.Questions.{first_no}
use Rattle.model.specs.Plan.{fields_ok, targets_ok, two_differ}
use Rattle.plan_fields.specs.Fields.{pair_questions}
use Rattle.plan_fields.proofs.fits.Goals as goal

pub returns : goal.returns
unfolding pair_questions first_no fields_ok targets_ok two_differ every
returns c =
    grind (arith, common_steps)
