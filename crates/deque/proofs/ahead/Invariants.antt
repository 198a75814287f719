-- `deque::ahead` meets its contract. The loop's invariant: from the task at hand, as many links as are left lead to the task that the whole
-- walk leads to, and each may be followed.
use mathlib.Core.Path.{◌≡◌}
use Prim.Native.Nat.{◌-◌}
use Rattle.memory.specs.Parts.{parts}
use Rattle.deque.specs.Links.{link_after, Reachable}
use Rattle.deque.proofs.ahead.Given as goal

abbrev pub invariant-loop : goal.invariant-loop
invariant-loop l = record {
  reachable : Reachable (parts l.memory).next l.task (l.steps - l.counter);
  same : link_after (parts l.memory).next l.task (l.steps - l.counter) ≡ link_after (parts l.memory).next l.front l.steps;
}
