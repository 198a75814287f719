-- `plan::read_graph` meets its contract: the laws of Answered, at what was read.
use mathlib.Core.Path.{refl, sym, ◌∙◌}
use Rattle.std.proofs.lemmas.Result.{err_from_is_err_and}
use Rattle.plan.proofs.Answered.{first_due, tasks_refused, refused_9, refused_10, accepted_whole}
use Rattle.plan.proofs.read_graph.Goals as goal

pub read_form-requires : goal.read_form-requires
read_form-requires c =
    record { its_form = c.requires.its_form; due = first_due _ _ c.requires.header_read _ c.requires.cleared }

pub returns-in_err-read_form : goal.returns-in_err-read_form
returns-in_err-read_form c =
    let told = err_from_is_err_and c.from_residual.result c.from_residual.ensures.1 in
    rw (told.1, told.2)
    (record { answered = tasks_refused _ _ c.requires.header_read c.in_err-read_form.ensures.answered; held = tt })

pub returns-then-not-preceded : goal.returns-then-not-preceded
returns-then-not-preceded c =
    record {
      answered =
          refused_9 _ _ c.requires.header_read _ c.in_ok-read_form.ensures (sym c.all_preceded-preceded.ensures ∙ c.if-not-preceded.true);
      held = tt;
    }

pub returns-then-not-followed : goal.returns-then-not-followed
returns-then-not-followed c =
    record {
      answered =
          refused_10 _ _ c.requires.header_read _ c.in_ok-read_form.ensures (sym c.all_preceded-preceded.ensures ∙ c.if-not-preceded.false)
          (sym c.one_exit-followed.ensures ∙ c.if-not-followed.true);
      held = tt;
    }

pub returns : goal.returns
returns c =
    accepted_whole _ _ c.requires.header_read _ c.in_ok-read_form.ensures (sym c.all_preceded-preceded.ensures ∙ c.if-not-preceded.false)
    (sym c.one_exit-followed.ensures ∙ c.if-not-followed.false) _ refl refl refl refl
