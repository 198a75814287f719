-- `work::work_cycle` meets its contract.
use Rattle.work.proofs.Working.{more_ticks, last_ticked}
use Rattle.work.proofs.work_cycle.Goals as goal

pub returns-then-span-ne1 : goal.returns-then-span-ne1
returns-then-span-ne1 c =
    λ m turn. more_ticks _ turn c.deque_at-deque.ensures c.if-span-ne1.true

pub complete-requires : goal.complete-requires
complete-requires c =
    (_, (_, last_ticked _ c.requires.1 c.deque_at-deque.ensures c.if-span-ne1.false))

pub returns : goal.returns
returns c =
    λ m turn.
    c.complete.ensures _ m (last_ticked _ turn c.deque_at-deque.ensures c.if-span-ne1.false)
