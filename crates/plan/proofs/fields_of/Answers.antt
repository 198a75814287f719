-- `plan::fields_of` meets its contract: the laws of Forms, at the bytes that were read.
use Rattle.plan.proofs.Forms.{of_four, of_three}
use Rattle.plan.proofs.fields_of.Goals as goal

pub returns-then-this-eq-LASTING_TASK_BYTES : goal.returns-then-this-eq-LASTING_TASK_BYTES
returns-then-this-eq-LASTING_TASK_BYTES g c =
    of_four c.args.bytes.now c.args.t c.requires.known _ c.requires.its_width c.if-this-eq-LASTING_TASK_BYTES.true c.lasting_of.ensures

pub returns : goal.returns
returns g c =
    of_three c.args.bytes.now c.args.t c.requires.known _ c.requires.its_width c.if-this-eq-LASTING_TASK_BYTES.false c.task_of.ensures
