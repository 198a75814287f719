-- `plan::read_tasks` meets its contract: what the first refused task is told is the answer of all.
use Rattle.std.proofs.lemmas.Result.{err_from_is_err_and}
use Rattle.model.specs.Plan.{task_questions}
use Rattle.plan.proofs.Steps.{refused_there}
use Rattle.plan.proofs.read_tasks.Goals as goal

pub returns-in_err-read_task : goal.returns-in_err-read_task
returns-in_err-read_task g c =
    let told = err_from_is_err_and c.from_residual.result c.from_residual.ensures.1 in
    let inv = c.loop-t.invariant in
    rw (told.1, told.2)
    (record {
      answered =
          refused_there (task_questions c.args.bytes.now) _ c.loop-t.t c.args.n c.loop-t-test.true inv.held.accepted_so_far
          c.in_err-read_task.ensures.answered;
      held = tt;
    })
