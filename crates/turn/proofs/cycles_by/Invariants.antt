-- `turn::cycles_by` meets its contract. The loop's invariant: the model's cycles of all workers are those of the workers that are left,
-- from what memory and words show now; and the chooser has come as far as the workers have.
use Rattle.std.proofs.Common.{◌≡◌, ◌≤◌, length}
use Rattle.turn.proofs.Ticking.{Underway}
use Rattle.turn.proofs.cycles_by.Given as goal

abbrev pub invariant-loop-w : goal.invariant-loop-w
invariant-loop-w g l =
    let choices = g.C.Chooser.choices in
    record {
      underway : Underway l.initial.memory l.initial.words (choices l.fn.chooser l.workers) l.memory l.words l.t l.w;
      chooser : l.at ≡ g.C.Chooser.after l.fn.chooser l.w;
      as_many : length (choices l.at l.workers) ≡ length (choices l.fn.chooser l.workers);
      few : l.workers ≤ 64;
    }
