-- `plan::read_into` meets its contract: the laws of Answered, at the header that was read. What was read into memory of its own is in the
-- lent one on acceptance, and a refusal leaves that.
use native.Mathlib.Omega.{arith}
use mathlib.Core.Path.{refl, sym, ◌∙◌}
use Rattle.std.proofs.lemmas.Result.{err_from_is_err_and}
use Rattle.plan_fields.proofs.Headers.{header_bytes}
use Rattle.plan.specs.Reads.{no_memory}
use Rattle.plan.proofs.Answered.{short, header_refused, header_accepted, its_form}
use Rattle.plan.proofs.read_into.Goals as goal

pub returns-then-bytes-lt5 : goal.returns-then-bytes-lt5
returns-then-bytes-lt5 c =
    record { answered = short _ (omega arith); held = tt; kept = λ _ _. refl }

pub returns-in_err-form : goal.returns-in_err-form
returns-in_err-form c =
    let told = err_from_is_err_and c.from_residual.result c.from_residual.ensures.1 in
    rw (told.1, told.2)
    (record {
      answered =
          header_refused _ _ _ (omega arith) (header_bytes _ ∙ sym (header_bytes _)) c.header_of-h.ensures c.in_err-form.ensures.answered;
      held = tt;
      kept = λ _ _. refl;
    })

pub read_graph-requires : goal.read_graph-requires
unfolding no_memory
read_graph-requires c =
    let same = header_bytes _ ∙ sym (header_bytes c.args.bytes.now) in
    record {
      its_form = its_form _ _ _ (omega arith) same c.header_of-h.ensures c.in_ok-form.ensures.its_form;
      header_read = header_accepted _ _ _ (omega arith) same c.header_of-h.ensures c.in_ok-form.ensures.answered;
      cleared = refl;
    }
