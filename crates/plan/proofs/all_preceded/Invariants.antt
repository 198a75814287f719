-- `plan::all_preceded` meets its contract. The loop's invariant: `all` is the test of every task from 1 that was passed.
use Rattle.std.proofs.Common.{◌≡◌, ◌+◌, drop}
use Rattle.model.specs.Tests.{below, every}
use Rattle.memory.specs.Parts.{parts}
use Rattle.plan.specs.Reads.{one_or_two}
use Rattle.plan.proofs.all_preceded.Given as goal

abbrev pub invariant-loop-count : goal.invariant-loop-count
invariant-loop-count l = l.all ≡ every (one_or_two (parts l.memory).pending) (drop 1 (below (1 + l.count-index)))
