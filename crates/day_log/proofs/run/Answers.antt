-- `day_log::run` meets its contract: what SoFar says is kept by a grant and by a tick, and at the log's end it is what is promised.
-- Assumes nothing.
use native.Mathlib.Omega.{arith}
use mathlib.Core.Path.{refl, ap, ◌∙◌}
use Rattle.std.specs.Prelude.{Some}
use Rattle.std.proofs.lemmas.Result.{err_from_is_err_and}
use Rattle.call_questions.specs.Answers.{answer_of}
use Rattle.log_reader.specs.declared.Entry.TheVariants.{Grant, Tick}
use Rattle.day_log.proofs.Running.{starts, still_job, at_most_one, inside, one_entry, broken_here, end_here}
use Rattle.day_log.proofs.run.Goals as goal
use Rattle.day_log.proofs.run.Goals.{in-Grant, in-Tick}

pub loop-entry-init : goal.loop-entry-init
loop-entry-init c = rw c.new-entries.ensures (record { same_log = refl; so_far = starts _ _ })

pub grant-answer-requires : goal.grant-answer-requires
grant-answer-requires c = still_job _ _ c.loop-entry.invariant.so_far c.requires

pub tick-answer-requires : goal.tick-answer-requires
tick-answer-requires c = still_job _ _ c.loop-entry.invariant.so_far c.requires

pub overflow_add-refusals : goal.overflow_add-refusals
overflow_add-refusals c =
    let l = c.loop-entry.invariant in
    omega (
      arith,
      l.so_far.few,
      at_most_one c.is_err.result,
      c.from-in-Some.ensures,
      inside l.same_log l.so_far c.in-Some.entry
          c.in_ok-entry.ensures c.in-Some.is,
    )

pub loop-entry-smaller : goal.loop-entry-smaller
loop-entry-smaller c =
    let l = c.loop-entry.invariant in
    omega (arith, inside l.same_log l.so_far c.in-Some.entry c.in_ok-entry.ensures c.in-Some.is)

pub loop-entry-preserved : goal.loop-entry-preserved
loop-entry-preserved c =
    let l = c.loop-entry.invariant in
    record {
      same_log = ap (λ r. r.log.now) c.in_ok-entry.ensures.left ∙ l.same_log;
      so_far =
          elim c.match-entry.branch [
            | in-Grant w ↦
                let moves = rw w.from.ensures at w.grant-answer.ensures.moves in
                let answered = rw w.from.ensures at w.grant-answer.ensures.answered in
                rw (w.memory-is, w.words-is)
                (one_entry l.same_log l.so_far (Grant w.in-Grant.workers) c.in_ok-entry.ensures (c.in-Some.is ∙ ap Some w.in-Grant.is)
                _ _ moves (ap answer_of w.answer-is ∙ answered) c.is_err.ensures.value c.from-in-Some.ensures)
            | in-Tick w ↦
                rw (w.memory-is, w.words-is)
                (one_entry l.same_log l.so_far (Tick w.in-Tick.choices) c.in_ok-entry.ensures (c.in-Some.is ∙ ap Some w.in-Tick.is)
                _ _ w.tick-answer.ensures.moves (ap answer_of w.answer-is ∙ w.tick-answer.ensures.answered) c.is_err.ensures.value
                c.from-in-Some.ensures)
          ];
    }

-- ---- the log's end

pub returns-in_err-entry : goal.returns-in_err-entry
returns-in_err-entry c =
    let told = err_from_is_err_and c.from_residual.result c.from_residual.ensures.1 in
    let l = c.loop-entry.invariant in
    let ended = broken_here l.same_log l.so_far c.from_residual.result _ told.1 c.in_err-entry.ensures in
    record { answered = ended.0; runs = ended.1 }

pub returns : goal.returns
returns c =
    let l = c.loop-entry.invariant in
    let ended = end_here l.same_log l.so_far c.in_ok-entry.ensures c.in_default.is in
    record { answered = ended.0; runs = ended.1 }
