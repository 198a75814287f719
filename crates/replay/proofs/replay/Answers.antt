-- `replay::replay` meets its contract: what is written is what the program prints of the whole input. Assumes nothing.
use Rattle.std.proofs.Common.{◌∙◌}
use Rattle.replay.proofs.Replayed.{replayed}
use Rattle.replay.proofs.replay.Goals as goal

pub returns : goal.returns
returns g c =
    replayed _ _ _ c.in_ok-size.size c.read_full.new.buffer c.as_slice.result.now c.write_all.result c.in_ok-size.ensures.whole
    (c.read_full.auto.buffer ∙ c.room-bytes.ensures) (c.as_slice.ensures ∙ c.run.ensures.written) c.write_all.ensures.bytes
