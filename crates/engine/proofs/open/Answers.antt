-- `engine::open` meets its contract: a refused opening leaves the job, and an accepted one drops the note and is then the model's grant.
-- Assumes nothing.
use mathlib.Core.Path.{sym}
use Rattle.std.proofs.Common.{rules}
use Rattle.engine.proofs.Answering.{open_answered}
use Rattle.engine.proofs.Moving.{refused_moves}
use Rattle.engine.proofs.Noting.{grants_it, opened_moves}
use Rattle.engine.proofs.open.Goals as goal

pub returns-in_err-open_answer-clause-answered : goal.returns-in_err-open_answer-clause-answered
returns-in_err-open_answer-clause-answered c =
    let told = open_answered c.requires.2 _ c.in_err-open_answer.ensures in search rules

pub returns-in_err-open_answer-clause-moves : goal.returns-in_err-open_answer-clause-moves
returns-in_err-open_answer-clause-moves c =
    refused_moves _ (sym (open_answered c.requires.2 _ c.in_err-open_answer.ensures))

pub give-requires : goal.give-requires
give-requires c = grants_it _ c.requires.2 (sym (open_answered c.requires.2 _ c.in_ok-open_answer.ensures))

pub returns-clause-moves : goal.returns-clause-moves
returns-clause-moves c = opened_moves _ c.requires.2 (sym (open_answered c.requires.2 _ c.in_ok-open_answer.ensures)) c.give.ensures
