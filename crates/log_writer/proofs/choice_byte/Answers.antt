-- `log_writer::choice_byte` meets its contract: a choice is below the number of workers, which is at most 64.
-- Assumes nothing.
use borrow.Author.Rules.{rules}
use Rattle.log_writer.proofs.Stores.{choice_fits}
use Rattle.log_writer.proofs.choice_byte.Goals as goal

pub overflow_cast-result : goal.overflow_cast-result
overflow_cast-result c =
    search (rules, choice_fits)

pub returns : goal.returns
returns c =
    search rules
