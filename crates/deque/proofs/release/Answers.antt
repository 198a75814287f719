-- `deque::release` meets its contract.
use Rattle.deque.proofs.Stores.{awaits_some, in_later, in_now}
use Rattle.deque.proofs.Releases.{released_none}
use Rattle.deque.proofs.release.Goals as goal

pub returns-then-at-eq0 : goal.returns-then-at-eq0
returns-then-at-eq0 c =
    released_none _ _ _ c.if-at-eq0.true

pub overflow_sub-memory : goal.overflow_sub-memory
overflow_sub-memory c =
    awaits_some _ c.requires c.if-at-eq0.false

pub returns-then-awaited-eq1 : goal.returns-then-awaited-eq1
returns-then-awaited-eq1 c =
    in_now _ c.requires c.if-at-eq0.false c.if-awaited-eq1.true

pub returns : goal.returns
returns c =
    in_later _ c.requires c.if-at-eq0.false c.if-awaited-eq1.false
