-- `job::offer` meets its contract: what the in-place core promises of the record's words, for the record's memory.
-- Assumes nothing.
use Rattle.job.proofs.offer.Goals as goal

pub returns-clause-answered : goal.returns-clause-answered
returns-clause-answered c = c.offer.ensures.answered _ c.requires
