-- `whole_input::read_full` meets its contract: each read puts its bytes behind those that were there. Assumes nothing.
use Rattle.std.proofs.Common.{arith}
use Rattle.whole_input.proofs.Filling.{one_read_more, no_read_more}
use Rattle.whole_input.proofs.read_full.Goals as goal
use Rattle.whole_input.proofs.read_full.Goals.{in-Ok, in-Err+else-ne}

pub loop-preserved : goal.loop-preserved
loop-preserved g c =
    elim c.match-read.branch [
      | in-Ok w ↦
          let few = w.in-Ok.ensures.bound.0 in
          rw w.filled-is (
            omega (arith, few, c.read.auto.buf),
            one_read_more _ _ _ c.loop.filled _ w.in-Ok.n c.loop.buffer c.read.new.buf c.loop.invariant.0 few c.loop.invariant.1
                w.in-Ok.ensures.bytes.0,
          )
      | in-Err+else-ne w ↦
          rw w.filled-is (
            omega (arith, c.read.auto.buf),
            no_read_more _ _ _ c.loop.filled _ c.loop.buffer c.read.new.buf c.loop.invariant.0 c.loop.invariant.1 w.in-Err.ensures.bytes,
          )
    ]
