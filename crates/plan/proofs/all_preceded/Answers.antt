-- `plan::all_preceded` meets its contract. The loop's invariant: `all` is the test of every task from 1 that was passed.
use mathlib.Core.Path.{◌≡◌, refl}
use Prim.Native.Nat.{◌+◌}
use native.Mathlib.Omega.{arith}
use borrow.Rule.Slice.PartMut.{mid_len}
use Rattle.model.specs.Tests.{below, every}
use Rattle.plan.proofs.Stores.{more_preceded}
use Rattle.plan.proofs.all_preceded.Goals as goal

pub loop-count-init : goal.loop-count-init
unfolding below every
loop-count-init c =
    refl

pub loop-count-preserved : goal.loop-count-preserved
loop-count-preserved c =
    more_preceded _ _ c.loop-count.count-index c.loop-count.all c.loop-count-test.true (omega arith) c.loop-count.invariant

pub returns : goal.returns
returns c =
    let size = mid_len 3073 (3072 + c.args.n) c.args.memory.now (omega arith) in
    let all-passed : 1 + c.loop-count.count-index ≡ c.args.n = omega arith in
    rw (← all-passed) c.loop-count.invariant
