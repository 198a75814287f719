-- `call_questions::tick_answer` meets its contract: a seeded tick's questions answer, or those of the choices.
use Rattle.std.proofs.Common.{rules}
use Rattle.call_questions.proofs.Questions.{questions, seeded_refused, seeded_passed}
use Rattle.call_questions.proofs.tick_answer.Goals as goal

pub returns-in_err-seeded_answer : goal.returns-in_err-seeded_answer
returns-in_err-seeded_answer c =
    let told = seeded_refused c.args.words.now c.args.choices.now c.in_err-seeded_answer.ensures in search rules

pub returns-then-choices-workers : goal.returns-then-choices-workers
returns-then-choices-workers c =
    rw (seeded_passed c.args.words.now c.args.choices.now c.in_ok-seeded_answer.ensures) (search (rules, questions))

pub returns-then-not-all_below : goal.returns-then-not-all_below
returns-then-not-all_below c =
    rw (seeded_passed c.args.words.now c.args.choices.now c.in_ok-seeded_answer.ensures) (search (rules, questions))

pub returns : goal.returns
returns c =
    rw (seeded_passed c.args.words.now c.args.choices.now c.in_ok-seeded_answer.ensures) (search (rules, questions))
