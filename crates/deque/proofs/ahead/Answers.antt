-- `deque::ahead` meets its contract: each iteration follows one link.
use mathlib.Core.Path.{◌≡◌, sym, ◌∙◌}
use Prim.Native.Nat.{◌+◌, ◌-◌}
use native.Mathlib.Omega.{arith}
use Rattle.deque.specs.Links.{link_after}
use Rattle.memory.proofs.Regions.{next_at}
use Rattle.deque.proofs.Walks.{follow}
use Rattle.deque.proofs.ahead.Goals as goal

pub bounds-memory-task : goal.bounds-memory-task
bounds-memory-task c =
    let link = follow _ _ _ (c.args.steps - (c.loop.counter + 1)) (omega arith) c.loop.invariant.reachable in
    omega (arith, link.here)

pub loop-preserved : goal.loop-preserved
loop-preserved c =
    let link = follow _ _ _ (c.args.steps - (c.loop.counter + 1)) (omega arith) c.loop.invariant.reachable in
    rw (next_at c.args.memory.now c.loop.task link.here)
    record { reachable = link.onward; same = sym link.same ∙ c.loop.invariant.same }

pub returns : goal.returns
unfolding link_after
returns c =
    let none : c.args.steps - c.loop.counter ≡ 0 = omega arith in
    rw none at c.loop.invariant.same
