-- Memory and words of zeros, from which acceptance starts. They are no record: no plan and no calls reach them. They have no task, so they
-- show as fresh and not as finished.
use Rattle.std.specs.Prelude.{replicate}
use Rattle.memory.specs.declared.Job.{Job}
use Rattle.memory.specs.Parts.{memory_size}
use Rattle.memory.specs.Words.{word_count}
use Rattle.memory.specs.Jobs.{lent}

unfoldable pub blank_job : Job
blank_job = lent (replicate memory_size 0) (replicate word_count 0)
