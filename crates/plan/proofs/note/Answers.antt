-- `plan::note` meets its contract.
use native.Mathlib.Omega.{arith}
use Rattle.memory.proofs.Regions.{pending_at}
use Rattle.plan.proofs.Stores.{noted_stored}
use Rattle.plan.proofs.note.Goals as goal

pub overflow_add-memory : goal.overflow_add-memory
overflow_add-memory c =
    omega (arith, pending_at c.args.memory.now c.args.s c.requires.a_task)

pub returns : goal.returns
returns c =
    noted_stored _ _ c.requires.a_task
