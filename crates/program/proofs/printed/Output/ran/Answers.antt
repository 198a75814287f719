-- `Output::ran` meets its contract: the line of the ten numbers, and behind it that of a broken log. Assumes nothing.
use mathlib.Core.Path.{refl}
use native.Mathlib.Omega.{arith}
use Rattle.program.proofs.Printing.{refused_short}
use Rattle.program.proofs.Ran.{whole_printed, refusal_room, broken_printed}
use Rattle.program.proofs.printed.Output.ran.Goals as goal

pub returns-in_default : goal.returns-in_default
returns-in_default c =
    whole_printed c.args.answer c.counters_of.ensures refl c.put_line-size.ensures c.in_default.is _ refl refl

pub put_refusal-end-requires : goal.put_refusal-end-requires
put_refusal-end-requires c =
    refusal_room c.args.answer c.counters_of.ensures refl c.put_line-size.ensures _ _
    (omega (arith, c.put_line-size.ensures.short)) (omega (arith, c.number.type_inv))

pub invariant_of-result-2 : goal.invariant_of-result-2
invariant_of-result-2 c =
    record {
      fits = omega (
        arith,
        c.put_line-size.ensures.short,
        c.put_refusal-end.ensures.next,
        refused_short c.number.result (omega (arith, c.number.type_inv)),
      );
    }

pub returns : goal.returns
returns c =
    broken_printed c.args.answer c.counters_of.ensures refl c.put_line-size.ensures c.in-Err.is _
    (rw c.number.ensures at c.put_refusal-end.ensures.next) (rw c.number.ensures at c.put_refusal-end.ensures.bytes)
