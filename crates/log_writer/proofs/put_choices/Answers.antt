-- `log_writer::put_choices` meets its contract: each turn puts one choice more. Assumes nothing.
use Rattle.std.proofs.Common.{[], ◌∷◌, ◌++◌, List, ℕ, arith, refl, sym, ap, ◌∙◌, get_or}
use Rattle.std.proofs.lemmas.List.{take_more, take_more_set}
use lib.Seq.{take_all}
use Rattle.log_writer.proofs.put_choices.Goals as goal

pub loop-i-init : goal.loop-i-init
loop-i-init c = refl

pub loop-i-preserved : goal.loop-i-preserved
loop-i-preserved c =
    let l = c.loop-i in
    let choices = c.args.choices.now in
    take_more_set l.places l.i _ (omega arith)
    ∙ ap (λ (put : List ℕ). put ++ (get_or choices l.i 0 ∷ [])) l.invariant
    ∙ sym (take_more choices l.i 0 (omega arith))

pub returns : goal.returns
returns c =
    let l = c.loop-i in
    sym (take_all l.i l.places (omega arith)) ∙ l.invariant ∙ take_all l.i c.args.choices.now (omega arith)
