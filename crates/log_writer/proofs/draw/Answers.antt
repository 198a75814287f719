-- `log_writer::draw` meets its contract: each turn makes one draw more. Assumes nothing.
use Rattle.std.proofs.Common.{◌<◌, length, arith, refl, sym, ap, ◌∙◌, add-one}
use Rattle.std.proofs.lemmas.List.{take_more_set}
use Rattle.model.specs.Seeds.{next_seed, drawn_choice, draws, seed_after}
use Rattle.laws.proofs.Seeds.{seed_snoc}
use Rattle.log_writer.proofs.Stores.{draws_snoc}
use Rattle.log_writer.proofs.draw.Goals as goal

pub loop-choice-init : goal.loop-choice-init
unfolding draws seed_after
loop-choice-init c = record { state = refl; put = refl }

pub loop-choice-preserved : goal.loop-choice-preserved
unfolding drawn_choice
loop-choice-preserved c =
    let l = c.loop-choice in
    let here : l.choice-index < length l.choices = omega arith in
    record {
      state = rw add-one (c.next-s.ensures ∙ ap next_seed l.invariant.state ∙ sym (seed_snoc l.choice-index c.args.seed));
      put = take_more_set l.choices l.choice-index c.choice_byte.result here
          ∙ (rw (
            l.invariant.put,
            add-one,
            draws_snoc (length c.args.choices.now) l.choice-index c.args.seed,
            ← l.invariant.state,
            ← c.next-s.ensures,
            c.choice_byte.ensures,
          ) refl);
    }
