-- `turn::cycles_by` meets its contract: each worker's cycle is what Ticking says of it.
use Rattle.std.proofs.Common.{◌≡◌, refl, ◌∙◌, arith, rules}
use Rattle.tally.specs.Tallies.{no_tally}
use Rattle.tally.proofs.Tallying.{growing}
use Rattle.turn.proofs.Ticking.{begin, few_workers, addable, tick_over, work_turn, idle_turn, onward_work, onward_idle}
use Rattle.turn.proofs.cycles_by.Goals as goal
use Rattle.turn.proofs.cycles_by.Goals.{then-size-gt0, else-size-gt0}

pub loop-w-init : goal.loop-w-init
loop-w-init g c =
    let none : c.default-t.result ≡ no_tally = search rules in
    record {
      underway = rw none (begin c.requires.turn);
      chooser = g.met.C.Chooser.begins c.args.chooser;
      as_many = cc;
      few = omega (arith, few_workers c.requires.turn);
    }

pub work_cycle-completed-requires : goal.work_cycle-completed-requires
work_cycle-completed-requires g c =
    (_, work_turn c.requires.turn c.loop-w.invariant.underway (omega arith) c.deque_at-size.ensures c.if-size-gt0.true)

pub with_work-t-requires : goal.with_work-t-requires
with_work-t-requires g c =
    let u = c.loop-w.invariant.underway in
    let turn = work_turn c.requires.turn u (omega arith) c.deque_at-size.ensures c.if-size-gt0.true in
    record {
      growing = growing (addable c.requires.turn u refl);
      one_at_most = (c.work_cycle-completed.ensures _ turn).one_at_most;
    }

pub idle_cycle-t-requires : goal.idle_cycle-t-requires
idle_cycle-t-requires g c =
    let came = c.next-at.ensures.on c.args.chooser c.loop-w.w c.loop-w.invariant.chooser in
    idle_turn c.requires.turn c.loop-w.invariant.underway (omega arith) (c.choice-choice.ensures c.args.chooser came)
    c.deque_at-size.ensures c.if-size-gt0.false

pub loop-w-preserved : goal.loop-w-preserved
loop-w-preserved g c =
    let tick = c.requires.turn in
    let came = c.next-at.ensures.on c.args.chooser c.loop-w.w c.loop-w.invariant.chooser in
    let u = c.loop-w.invariant.underway in
    record {
      underway =
          elim c.if-size-gt0.branch [
            | then-size-gt0 w ↦
                rw (w.memory-is, w.words-is, w.t-is)
                (onward_work tick u (omega arith) c.deque_at-size.ensures w.if-size-gt0.true (w.work_cycle-completed.ensures _)
                w.with_work-t.ensures)
            | else-size-gt0 w ↦
                rw (w.memory-is, w.words-is, w.t-is)
                (onward_idle tick u (omega arith) (w.choice-choice.ensures c.args.chooser came) w.idle_cycle-t.ensures)
          ];
      chooser = came;
      as_many = c.next-at.ensures.as_many c.args.workers ∙ c.loop-w.invariant.as_many;
      few = c.loop-w.invariant.few;
    }

pub settle-requires : goal.settle-requires
settle-requires g c =
    let over : c.loop-w.w ≡ c.args.workers = omega arith in
    addable c.requires.turn c.loop-w.invariant.underway over

pub returns-clause-ticked : goal.returns-clause-ticked
returns-clause-ticked g c =
    let over : c.loop-w.w ≡ c.args.workers = omega arith in
    tick_over c.requires.turn c.loop-w.invariant.underway over c.requires.granted c.settle.ensures
