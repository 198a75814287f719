-- `job::withdraw` meets its contract: what the in-place core promises of the record's words, for the record's memory.
-- Assumes nothing.
use Rattle.job.proofs.withdraw.Goals as goal

pub returns-clause-answered : goal.returns-clause-answered
returns-clause-answered c = c.withdraw.ensures.answered _ c.requires
