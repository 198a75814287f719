-- `log_writer::write_grant` meets its contract: on each way out the tests that were made tell the answer, and the entry is one store.
-- Assumes nothing.
use mathlib.Core.Path.{refl}
use mathlib.Core.List.{[], ◌∷◌}
use native.Mathlib.Omega.{arith}
use Rattle.model.specs.Log.{entry_bytes}
use Rattle.std.proofs.lemmas.Result.{err_from_is_err_and}
use Rattle.log_writer.proofs.Writing.{unsayable, sayable, no_room, room_there, written}
use Rattle.log_writer.proofs.write_grant.Goals as goal

pub returns-then-workers-gt127 : goal.returns-then-workers-gt127
returns-then-workers-gt127 c =
    unsayable c.args.workers 14 _ _ _ (omega arith)

pub returns-in_err-ask_room : goal.returns-in_err-ask_room
unfolding entry_bytes
returns-in_err-ask_room c =
    let told = err_from_is_err_and c.from_residual.result c.from_residual.ensures.1 in
    rw (told.1, told.2)
    (no_room _ _ _ _ (sayable c.args.workers 14 (omega (arith, c.if-workers-gt127.false))) c.in_err-ask_room.ensures)

pub bounds-log-at : goal.bounds-log-at
bounds-log-at c = omega (arith, room_there [] (c.args.workers ∷ []) _ _ c.in_ok-ask_room.ensures)

pub overflow_add-size : goal.overflow_add-size
overflow_add-size c = omega (arith, room_there [] (c.args.workers ∷ []) _ _ c.in_ok-ask_room.ensures)

pub returns : goal.returns
unfolding entry_bytes
returns c =
    written _ _ _ _ (sayable c.args.workers 14 (omega (arith, c.if-workers-gt127.false))) c.in_ok-ask_room.ensures refl refl
