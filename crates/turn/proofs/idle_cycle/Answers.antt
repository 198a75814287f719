-- `turn::idle_cycle` meets its contract: each of its branches is one of the model's kinds of cycle.
use mathlib.Core.Path.{refl}
use native.Mathlib.Omega.{arith}
use Rattle.tally.proofs.Tallying.{growing}
use Rattle.turn.proofs.Cycling.{worker_place, choice_place}
use Rattle.turn.proofs.Idling.{may_rob, idled_mug, idled_nothing, idled_theft}
use Rattle.turn.proofs.idle_cycle.Goals as goal

pub overflow_add-oldest : goal.overflow_add-oldest
overflow_add-oldest c =
    omega (arith, c.requires.addable.head_in_ring, c.requires.addable.room.mugs_fit, c.number-mugged.ensures)

pub hand_over-requires : goal.hand_over-requires
hand_over-requires c =
    (omega arith, omega (arith, worker_place c.requires.turn))

pub with_mug-requires : goal.with_mug-requires
with_mug-requires c =
    growing c.requires.addable

pub returns-then-mugged-words : goal.returns-then-mugged-words
returns-then-mugged-words c =
    idled_mug c.requires c.number-mugged.ensures c.if-mugged-words.true c.hand_over.ensures c.with_mug.ensures

pub deque_at-size-requires : goal.deque_at-size-requires
deque_at-size-requires c =
    omega (arith, choice_place c.requires.turn)

pub rob-requires : goal.rob-requires
rob-requires c =
    may_rob c.requires c.number-mugged.ensures c.if-mugged-words.false c.deque_at-size.ensures c.if-size-gt1.true

pub overflow_add-words : goal.overflow_add-words
overflow_add-words c =
    omega (arith, c.requires.addable.room.successes_fit)

pub returns-then-size-gt1 : goal.returns-then-size-gt1
returns-then-size-gt1 c =
    idled_theft c.requires c.number-mugged.ensures c.if-mugged-words.false c.deque_at-size.ensures c.if-size-gt1.true c.rob.ensures refl

pub returns-else-size-gt1 : goal.returns-else-size-gt1
returns-else-size-gt1 c =
    idled_nothing c.requires c.number-mugged.ensures c.if-mugged-words.false c.deque_at-size.ensures c.if-size-gt1.false
