-- `exports::jirvaldo_core_counters` meets its contract: the ten numbers are those of the job.
-- Assumes nothing.
use mathlib.Core.Path.{◌∙◌}
use Rattle.exports.proofs.jirvaldo_core_counters.Goals as goal

pub returns : goal.returns
returns c =
    record { right = λ memory job. c.into.ensures ∙ c.counters_of.ensures.right memory job }
