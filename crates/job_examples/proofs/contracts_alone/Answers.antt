-- `job_examples::contracts_alone`: each check holds by the contracts of the functions that were called. Plan A is accepted, and its record
-- is a job; a first grant of 2 leaves it.
-- Assumes nothing.
use Rattle.std.proofs.Common.{ap, ◌∙◌, eq-eqb}
use Rattle.std.specs.Result.{is_ok}
use Rattle.model.specs.Questions.{answer_number}
use Rattle.model.proofs.Examples.{plan_a_begins}
use Rattle.job_examples.proofs.Calls.{given, onward, begun, refused_14, still_fresh}
use Rattle.job_examples.proofs.contracts_alone.Goals as goal

pub expect-requires : goal.expect-requires
expect-requires c =
    c.is_ok.ensures.value ∙ ap is_ok (given _ (c.accept-accepted.ensures.answered ∙ plan_a_begins.0)).1

pub unwrap-job-requires : goal.unwrap-job-requires
unwrap-job-requires c =
    ap is_ok (given _ (c.accept-accepted.ensures.answered ∙ plan_a_begins.0)).1

pub grant-granted-requires : goal.grant-granted-requires
grant-granted-requires c =
    begun (rw c.unwrap-job.ensures at c.accept-accepted.ensures.accepts) plan_a_begins.0

pub expect-requires-2 : goal.expect-requires-2
expect-requires-2 c =
    let accepts = rw c.unwrap-job.ensures at c.accept-accepted.ensures.accepts in
    eq-eqb c.number_of.result 14 (c.number_of.ensures ∙ ap answer_number (c.grant-granted.ensures.answered ∙ refused_14 accepts))

pub job_status-shown-requires : goal.job_status-shown-requires
job_status-shown-requires c =
    let accepts = rw c.unwrap-job.ensures at c.accept-accepted.ensures.accepts in
    onward (begun accepts plan_a_begins.0) c.grant-granted.ensures.moves

pub expect-requires-3 : goal.expect-requires-3
expect-requires-3 c =
    let accepts = rw c.unwrap-job.ensures at c.accept-accepted.ensures.accepts in
    eq-eqb c.from.result 0 (c.from.ensures ∙ c.job_status-shown.ensures ∙ still_fresh accepts c.grant-granted.ensures.moves)
