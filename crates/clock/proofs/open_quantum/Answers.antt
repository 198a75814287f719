-- `clock::open_quantum` meets its contract: a count above 0 starts the job, and a grant of 0 leaves it as it was.
use Rattle.clock.proofs.Opening.{opened_by_none, opened_by_some}
use Rattle.clock.proofs.open_quantum.Goals as goal

pub returns-then-g-gt0 : goal.returns-then-g-gt0
returns-then-g-gt0 c =
    opened_by_some c.args.g c.args.words.now c.requires.size c.if-g-gt0.true

pub returns-else-g-gt0 : goal.returns-else-g-gt0
returns-else-g-gt0 c =
    opened_by_none c.args.g c.args.words.now c.requires.size c.if-g-gt0.false
