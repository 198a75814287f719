-- `plan::one_exit` meets its contract. The loop's invariant: `all` is the test of every task that was passed.
use mathlib.Core.Path.{◌≡◌, refl}
use Prim.Native.Nat.{◌-◌}
use Rattle.std.proofs.lemmas.List.{length-take}
use native.Mathlib.Omega.{arith}
use Rattle.model.specs.Tests.{below, every}
use Rattle.plan.proofs.Stores.{more_followed}
use Rattle.plan.proofs.one_exit.Goals as goal

pub loop-first-init : goal.loop-first-init
unfolding below every
loop-first-init c =
    refl

pub loop-first-preserved : goal.loop-first-preserved
loop-first-preserved c =
    more_followed _ _ c.loop-first.first-index c.loop-first.all c.loop-first-test.true (omega arith) c.loop-first.invariant

pub returns : goal.returns
returns c =
    let size = length-take (c.args.n - 1) c.args.memory.now in
    let all-passed : c.loop-first.first-index ≡ c.args.n - 1 = omega arith in
    rw (← all-passed) c.loop-first.invariant
