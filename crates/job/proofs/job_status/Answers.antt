-- `job::job_status` meets its contract: the status of the words, at the record's own memory.
-- Assumes nothing.
use Rattle.job.proofs.job_status.Goals as goal

pub returns : goal.returns
returns c = c.status_of.ensures.right _ c.requires
