-- `engine::offer` meets its contract: a refused offer leaves the words, and an accepted one is noted.
-- Assumes nothing.
use mathlib.Core.Path.{sym}
use native.Mathlib.Omega.{arith}
use Rattle.std.proofs.lemmas.Result.{err_from_is_err_and}
use Rattle.engine.proofs.Answering.{offer_answered}
use Rattle.engine.proofs.Noting.{few_offered, offered_moves, refused_words}
use Rattle.engine.proofs.offer.Goals as goal

pub returns-in_err-grant_answer : goal.returns-in_err-grant_answer
returns-in_err-grant_answer c =
    let p = err_from_is_err_and c.from_residual.result c.from_residual.ensures.1 in
    rw (p.1, p.2) (refused_words _ _ (λ memory is_job. offer_answered is_job.2 _ c.in_err-grant_answer.ensures))

pub overflow_add-words : goal.overflow_add-words
overflow_add-words c =
    let known = c.requires.1.2 in
    omega (arith, few_offered _ known (sym (offer_answered known _ c.in_ok-grant_answer.ensures)))

pub returns : goal.returns
returns c =
    record {
      answered = λ memory is_job. offer_answered is_job.2 _ c.in_ok-grant_answer.ensures;
      moves = λ memory is_job. offered_moves _ is_job.2 (sym (offer_answered is_job.2 _ c.in_ok-grant_answer.ensures));
    }
