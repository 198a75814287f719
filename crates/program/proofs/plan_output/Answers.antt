-- `program::plan_output` meets its contract: a refused plan's number, or what the log left of the fresh job. Assumes nothing.
use mathlib.Core.Path.{sym}
use Rattle.program.proofs.Asked.{refused_plan, after_plan}
use Rattle.program.proofs.Ran.{its_job, log_printed}
use Rattle.program.proofs.plan_output.Goals as goal

pub returns-in-Err : goal.returns-in-Err
returns-in-Err c = refused_plan _ _ _ _ c.in-Err.ensures.answered c.refused.ensures

pub run-ran-requires : goal.run-ran-requires
run-ran-requires c = its_job c.accept.ensures.accepts (sym c.in_default.ensures.answered)

pub returns : goal.returns
returns c =
    after_plan _ _ _ c.in_default.ensures.answered
    (log_printed c.accept.ensures.accepts (sym c.in_default.ensures.answered) c.run-ran.ensures.runs c.run-ran.ensures.answered
    c.ran.ensures)
