-- `log_writer::write_tick` meets its contract: on each way out the tests that were made tell the answer, and the entry is its first byte
-- and the choices behind it.
-- Assumes nothing.
use Prim.Native.Nat.{◌+◌}
use mathlib.Core.Path.{refl}
use mathlib.Core.List.{[], ◌∷◌}
use native.Mathlib.Omega.{arith}
use lib.ListN.{length, length-set}
use Rattle.std.proofs.lemmas.Result.{err_from_is_err_and}
use Rattle.model.specs.Log.{entry_bytes}
use Rattle.log_writer.proofs.Writing.{unsayable, sayable, no_room, room_there, tick_written}
use Rattle.log_writer.proofs.write_tick.Goals as goal

pub returns-then-count-gt127 : goal.returns-then-count-gt127
returns-then-count-gt127 c =
    unsayable (length c.args.choices.now) 16 _ _ _ (omega arith)

pub returns-in_err-ask_room : goal.returns-in_err-ask_room
unfolding entry_bytes
returns-in_err-ask_room c =
    let told = err_from_is_err_and c.from_residual.result c.from_residual.ensures.1 in
    rw (told.1, told.2)
    (no_room _ ((128 + length c.args.choices.now) ∷ c.args.choices.now) _ _
    (sayable (length c.args.choices.now) 16 (omega arith)) c.in_err-ask_room.ensures)

pub overflow_add-start : goal.overflow_add-start
overflow_add-start c = omega (arith, room_there [] (0 ∷ c.args.choices.now) _ _ c.in_ok-ask_room.ensures)

pub overflow_add-end : goal.overflow_add-end
overflow_add-end c = omega (arith, room_there [] (0 ∷ c.args.choices.now) _ _ c.in_ok-ask_room.ensures)

pub bounds-log-at : goal.bounds-log-at
bounds-log-at c = omega (arith, room_there [] (0 ∷ c.args.choices.now) _ _ c.in_ok-ask_room.ensures)

pub slice_bounds-put_choices-end : goal.slice_bounds-put_choices-end
slice_bounds-put_choices-end c =
    let there = room_there [] (0 ∷ c.args.choices.now) _ _ c.in_ok-ask_room.ensures in rw length-set (omega (arith, there))

pub returns : goal.returns
unfolding entry_bytes
returns c =
    let choices = c.args.choices.now in
    tick_written _ _ choices _ _ (sayable (length choices) 16 (omega arith)) c.in_ok-ask_room.ensures
    c.put_choices.ensures (omega arith) refl
