-- `log_writer::draw` meets its contract. The loop's invariant: the draws so far are made, and stand. Assumes nothing.
use Rattle.std.proofs.Common.{◌≡◌, take}
use Rattle.model.specs.Seeds.{draws, seed_after}
use Rattle.log_writer.proofs.draw.Given as goal

abbrev pub invariant-loop-choice : goal.invariant-loop-choice
invariant-loop-choice l =
    record {
      state : l.s ≡ seed_after l.choice-index l.seed;
      put : take l.choice-index l.choices ≡ draws l.workers l.choice-index l.seed;
    }
