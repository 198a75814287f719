-- `report::job_wording` meets its contract: the label of the record's own status. Assumes nothing.
use mathlib.Core.Path.{◌∙◌}
use Rattle.report.proofs.job_wording.Goals as goal

pub returns : goal.returns
returns c =
    let same = c.from.ensures ∙ c.status_of.ensures.right _ c.requires in
    rw (← same) c.wording.ensures
