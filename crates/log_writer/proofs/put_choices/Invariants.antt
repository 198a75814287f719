-- `log_writer::put_choices` meets its contract. The loop's invariant: the choices so far stand. Assumes nothing.
use Rattle.std.proofs.Common.{◌≡◌, take}
use Rattle.log_writer.proofs.put_choices.Given as goal

abbrev pub invariant-loop-i : goal.invariant-loop-i
invariant-loop-i l = take l.i l.places ≡ take l.i l.choices
