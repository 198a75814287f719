-- `engine::grant` meets its contract: a refused grant leaves the job, and an accepted one is the model's grant.
-- Assumes nothing.
use mathlib.Core.Path.{sym}
use Rattle.std.proofs.Common.{rules}
use Rattle.engine.proofs.Answering.{grant_answered}
use Rattle.engine.proofs.Moving.{refused_moves}
use Rattle.engine.proofs.grant.Goals as goal

pub returns-in_err-grant_answer-clause-answered : goal.returns-in_err-grant_answer-clause-answered
returns-in_err-grant_answer-clause-answered c =
    let told = grant_answered c.requires.2 _ c.in_err-grant_answer.ensures in search rules

pub returns-in_err-grant_answer-clause-moves : goal.returns-in_err-grant_answer-clause-moves
returns-in_err-grant_answer-clause-moves c =
    refused_moves _ (sym (grant_answered c.requires.2 _ c.in_err-grant_answer.ensures))

pub give-requires : goal.give-requires
give-requires c = record { a_job = c.requires; accepts_it = sym (grant_answered c.requires.2 _ c.in_ok-grant_answer.ensures) }
