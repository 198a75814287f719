-- `report::job_line` meets its contract: the record's own ten numbers are model's of its state.
-- Assumes nothing.
use Rattle.report.proofs.job_line.Goals as goal

pub returns : goal.returns
returns c =
    rw (c.counters_of.ensures.right _ c.requires) at c.write_line.ensures
