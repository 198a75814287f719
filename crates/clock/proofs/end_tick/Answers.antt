-- `clock::end_tick` meets its contract: each way out is a law of Ending.
use Rattle.clock.proofs.Ending.{finished_ended, unclosed_ended, closed_ended}
use Rattle.clock.proofs.end_tick.Goals as goal

pub returns-then-words : goal.returns-then-words
returns-then-words c =
    unclosed_ended _ c.requires.size c.requires.its_quantum c.if-words.true

pub returns-then-words-2 : goal.returns-then-words-2
returns-then-words-2 c =
    finished_ended _ c.requires.size c.requires.its_quantum c.if-words-2.true

pub returns : goal.returns
returns c =
    closed_ended (c.args.words.now) c.requires.size c.if-words-2.false c.if-words.false _
    (rw c.from_parts.ensures at c.next_wish-next.ensures)
