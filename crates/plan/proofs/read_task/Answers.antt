-- `plan::read_task` meets its contract: the laws of Steps, at the fields that were read.
use native.Mathlib.Omega.{arith}
use Rattle.std.proofs.lemmas.Result.{err_from_is_err_and}
use Rattle.plan.proofs.Steps.{room, room_after, task_refused, read_passed, first_small, second_small}
use Rattle.plan.proofs.Stores.{fields_stored}
use Rattle.plan.proofs.read_task.Goals as goal

pub returns-in_err-task_answer : goal.returns-in_err-task_answer
returns-in_err-task_answer g c =
    let told = err_from_is_err_and c.from_residual.result c.from_residual.ensures.1 in
    rw (told.1, told.2)
    (record {
      answered = task_refused _ _ _ _ c.requires.due.number c.fields_of-f.ensures c.in_err-task_answer.ensures;
      held = tt;
    })

pub note-requires : goal.note-requires
note-requires g c =
    record {
      a_task = first_small _ _ _ _ c.requires.due.number c.fields_of-f.ensures c.in_ok-task_answer.ensures;
      room = room c.requires.due.held (omega arith) _ _ _ (fields_stored _ _ _ _ _ (omega arith)) _;
    }

pub note-requires-2 : goal.note-requires-2
note-requires-2 g c =
    record {
      a_task = second_small _ _ _ _ c.requires.due.number c.fields_of-f.ensures c.in_ok-task_answer.ensures;
      room = room_after c.requires.due.held (omega arith) _ _ _ (fields_stored _ _ _ _ _ (omega arith)) _ c.note.ensures _;
    }

pub returns : goal.returns
returns g c =
    read_passed _ _ _ _ c.requires.due.number c.fields_of-f.ensures c.in_ok-task_answer.ensures
    _ _ _ _ c.requires.inside c.requires.due.held (fields_stored _ _ _ _ _ (omega arith)) c.note.ensures c.note-2.ensures
