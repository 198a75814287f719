-- `job::status_of` meets its contract: the status that the words of a job show is the state's.
-- Assumes nothing.
use Rattle.job.proofs.Statuses.{status_of_job}
use Rattle.job.proofs.status_of.Goals as goal

pub returns : goal.returns
returns c =
    status_of_job _ c.shown_status.ensures
