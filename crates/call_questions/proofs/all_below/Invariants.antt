-- `call_questions::all_below` meets its contract. The loop's invariant: all choices pass where those so far did and those that are left do.
-- Assumes nothing.
use mathlib.Core.Path.{◌≡◌}
use mathlib.Core.Bool.{◌&&◌}
use lib.ListN.{drop}
use Rattle.call_questions.specs.Asked.{choices_below}
use Rattle.call_questions.proofs.all_below.Given as goal

abbrev pub invariant-loop-choice : goal.invariant-loop-choice
invariant-loop-choice l = choices_below l.choices l.workers ≡ l.below && choices_below (drop l.choice-index l.choices) l.workers
