-- `program::run` meets its contract: the input's parts are run, or its refusal is printed. Assumes nothing.
use Rattle.program.proofs.Asked.{refused_input, input_run}
use Rattle.program.proofs.run.Goals as goal

pub returns-in-Ok : goal.returns-in-Ok
returns-in-Ok c = input_run _ _ _ _ c.in-Ok.ensures c.plan_output.ensures

pub returns-in-Err : goal.returns-in-Err
returns-in-Err c = refused_input _ _ _ c.in-Err.ensures c.refused.ensures
