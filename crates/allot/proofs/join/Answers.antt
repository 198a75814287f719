-- `allot::join` meets its contract.
use mathlib.Core.Path.{sym, ap, ◌∙◌}
use Rattle.memory.specs.declared.Deque.{Deque}
use Rattle.allot.proofs.Ring.{no_move, ends_moved, join_empty, join_filled}
use Rattle.allot.proofs.join.Goals as goal

pub returns-then-deque-eq0 : goal.returns-then-deque-eq0
returns-then-deque-eq0 c =
    record {
      joined = join_empty c.requires (sym (ap (λ (d : Deque). d.size) c.deque_at-deque.ensures) ∙ c.if-deque-eq0.true);
      rest =
          no_move;
    }

pub returns : goal.returns
returns c =
    let same = c.deque_at-deque.ensures in
    rw (c.put.ensures, same) record {
      joined = join_filled c.requires (λ e. c.if-deque-eq0.false (ap (λ (d : Deque). d.size) same ∙ e));
      rest = ends_moved;
    }
