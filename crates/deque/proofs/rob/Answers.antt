-- `deque::rob` meets its contract: its steps are those of `Robbing`.
use native.Mathlib.Omega.{arith}
use Rattle.deque.proofs.Robbing.{part_taken, part_of_the_way, both_put}
use Rattle.deque.proofs.rob.Goals as goal

pub overflow_sub-left : goal.overflow_sub-left
overflow_sub-left c =
    part_taken c.requires c.deque_at-deque.ensures c.stolen_count-taken.ensures

pub ahead-front-requires : goal.ahead-front-requires
ahead-front-requires c =
    part_of_the_way c.requires c.deque_at-deque.ensures _ (omega arith)

pub returns : goal.returns
returns c =
    both_put c.requires c.deque_at-deque.ensures c.stolen_count-taken.ensures c.ahead-front.ensures
    c.put.ensures c.put-2.ensures
