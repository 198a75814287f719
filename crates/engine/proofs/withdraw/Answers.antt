-- `engine::withdraw` meets its contract: a refused withdrawal leaves the words, and an accepted one drops the note.
-- Assumes nothing.
use mathlib.Core.Path.{sym}
use Rattle.std.proofs.lemmas.Result.{err_from_is_err_and}
use Rattle.engine.proofs.Answering.{withdraw_answered}
use Rattle.engine.proofs.Noting.{withdrawn_moves, refused_words}
use Rattle.engine.proofs.withdraw.Goals as goal

pub returns-in_err-withdraw_answer : goal.returns-in_err-withdraw_answer
returns-in_err-withdraw_answer c =
    let p = err_from_is_err_and c.from_residual.result c.from_residual.ensures.1 in
    rw (p.1, p.2) (refused_words _ _ (λ memory is_job. withdraw_answered is_job.2 c.in_err-withdraw_answer.ensures))

pub returns : goal.returns
returns c =
    record {
      answered = λ memory is_job. withdraw_answered is_job.2 c.in_ok-withdraw_answer.ensures;
      moves = λ memory is_job. withdrawn_moves is_job.2 (sym (withdraw_answered is_job.2 c.in_ok-withdraw_answer.ensures));
    }
