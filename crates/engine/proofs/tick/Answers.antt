-- `engine::tick` meets its contract: a refused tick leaves the job, and an accepted one is the model's tick, with workers or without.
-- Assumes nothing.
use mathlib.Core.Path.{refl, sym}
use native.Mathlib.Omega.{arith}
use Rattle.std.proofs.Common.{rules}
use Rattle.memory.proofs.Words.{same_tail}
use Rattle.engine.proofs.Answering.{tick_answered}
use Rattle.engine.proofs.Known.{words_fit}
use Rattle.engine.proofs.Moving.{refused_moves}
use Rattle.engine.proofs.Ticking.{tick_turn, countable, worked_tick, idle_tick}
use Rattle.engine.proofs.tick.Goals as goal

pub tick_answer-requires : goal.tick_answer-requires
tick_answer-requires c = omega (arith, (words_fit c.requires.2).workers_fit)

pub returns-in_err-tick_answer-clause-answered : goal.returns-in_err-tick_answer-clause-answered
returns-in_err-tick_answer-clause-answered c =
    let told = tick_answered c.requires.2 _ c.in_err-tick_answer.ensures in search rules

pub returns-in_err-tick_answer-clause-moves : goal.returns-in_err-tick_answer-clause-moves
returns-in_err-tick_answer-clause-moves c =
    refused_moves _ (sym (tick_answered c.requires.2 _ c.in_err-tick_answer.ensures))

-- ---- no worker is granted

pub end_tick-requires : goal.end_tick-requires
end_tick-requires c = countable _ c.requires.2 (sym c.in_ok-tick_answer.ensures) (same_tail _) (omega arith) refl

pub returns-then-nobody : goal.returns-then-nobody
returns-then-nobody c =
    record {
      answered = tick_answered c.requires.2 _ c.in_ok-tick_answer.ensures;
      moves = idle_tick _ c.requires.2 (sym c.in_ok-tick_answer.ensures) (omega (arith, c.if-nobody.true)) c.end_tick.ensures;
    }

-- ---- some are

pub cycles-requires : goal.cycles-requires
cycles-requires c = tick_turn _ c.requires.2 (sym c.in_ok-tick_answer.ensures) (omega (arith, c.if-nobody.false))

pub end_tick-requires-2 : goal.end_tick-requires-2
end_tick-requires-2 c =
    let done = c.cycles.ensures in
    countable _ c.requires.2 (sym c.in_ok-tick_answer.ensures) done.tail done.grown.usage_grew done.grown.same_workers

pub returns : goal.returns
returns c =
    record {
      answered = tick_answered c.requires.2 _ c.in_ok-tick_answer.ensures;
      moves = worked_tick _ c.requires.2 (sym c.in_ok-tick_answer.ensures) c.cycles.ensures c.end_tick-2.ensures;
    }
