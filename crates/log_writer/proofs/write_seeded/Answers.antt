-- `log_writer::write_seeded` meets its contract: a job's workers are at most 64, so 7 bits say how many choices are drawn; and the entry is
-- its first byte and the draws behind it.
-- Assumes nothing.
use Prim.Native.Nat.{ℕ, suc, ◌+◌, ◌≤◌}
use mathlib.Core.Path.{◌≡◌, refl, sym, ap, ◌∙◌}
use mathlib.Core.List.{[], ◌∷◌}
use native.Mathlib.Omega.{arith}
use lib.ListN.{length, get_or, length-set}
use Rattle.std.proofs.lemmas.Result.{err_from_is_err_and}
use Rattle.model.specs.Questions.{first_no}
use Rattle.model.specs.Log.{entry_bytes}
use Rattle.model.specs.Seeds.{draws}
use Rattle.laws.proofs.Seeds.{draws_length}
use Rattle.engine.specs.Reached.{InRange}
use Rattle.engine.proofs.Known.{in_range}
use Rattle.log_writer.proofs.Writing.{room_for, room_given, no_room, behind_long, tick_written}
use Rattle.log_writer.proofs.write_seeded.Goals as goal

pub returns-in_err-ask_room : goal.returns-in_err-ask_room
unfolding entry_bytes first_no
returns-in_err-ask_room c =
    let workers = get_or c.args.words.now 1 0 in
    let told = err_from_is_err_and c.from_residual.result c.from_residual.ensures.1 in
    rw (told.1, told.2)
    (no_room [] _ c.args.log.now c.args.size.now refl
    (c.in_err-ask_room.ensures ∙ ap (λ (n : ℕ). room_for c.args.log.now c.args.size.now (suc n)) (sym (draws_length workers workers _))))

pub overflow_add-start : goal.overflow_add-start
overflow_add-start c = omega (arith, room_given _ _ _ c.in_ok-ask_room.ensures)

pub overflow_add-end : goal.overflow_add-end
overflow_add-end c = omega (arith, room_given _ _ _ c.in_ok-ask_room.ensures)

pub overflow_cast-log : goal.overflow_cast-log
overflow_cast-log c = let range : InRange c.args.words.now = in_range c.requires.1 in omega (arith, range)

pub overflow_add-log : goal.overflow_add-log
overflow_add-log c = let range : InRange c.args.words.now = in_range c.requires.1 in omega (arith, range)

pub bounds-log-at : goal.bounds-log-at
bounds-log-at c = omega (arith, room_given _ _ _ c.in_ok-ask_room.ensures)

pub slice_bounds-draw-end : goal.slice_bounds-draw-end
slice_bounds-draw-end c = let there = room_given _ _ _ c.in_ok-ask_room.ensures in rw length-set (omega (arith, there))

pub draw-requires : goal.draw-requires
draw-requires c =
    let range : InRange c.args.words.now = in_range c.requires.1 in
    let workers = get_or c.args.words.now 1 0 in
    let room = room_given _ _ _ c.in_ok-ask_room.ensures in
    omega (arith, range, behind_long (128 + workers) workers c.args.log.now c.args.size.now room)

pub returns : goal.returns
unfolding entry_bytes first_no
returns c =
    let workers = get_or c.args.words.now 1 0 in
    let choices = draws workers workers c.args.seed in
    let long : length choices ≡ workers = draws_length workers workers c.args.seed in
    let room : c.args.size.now + suc workers ≤ length c.args.log.now = room_given _ _ _ c.in_ok-ask_room.ensures in
    let made : c.draw.new.choices ≡ choices =
    c.draw.ensures ∙ ap (λ (n : ℕ). draws n n c.args.seed) (behind_long (128 + workers) workers c.args.log.now c.args.size.now room) in
    rw long
    (tick_written [] (128 + workers) choices c.args.log.now c.args.size.now refl
    (c.in_ok-ask_room.ensures ∙ ap (λ (n : ℕ). room_for c.args.log.now c.args.size.now (suc n)) (sym long))
    made (omega (arith, long)) (omega (arith, long)))
