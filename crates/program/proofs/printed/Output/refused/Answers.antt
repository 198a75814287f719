-- `Output::refused` meets its contract: the line stands at the start. Assumes nothing.
use native.Mathlib.Omega.{arith}
use Rattle.program.proofs.Printing.{refused_short, prints_one}
use Rattle.program.proofs.printed.Output.refused.Goals as goal

pub put_refusal-size-requires : goal.put_refusal-size-requires
put_refusal-size-requires g c = omega (arith, refused_short c.number.result (omega (arith, c.number.type_inv)))

pub invariant_of-result : goal.invariant_of-result
invariant_of-result g c =
    record { fits = omega (arith, c.put_refusal-size.ensures.next, refused_short c.number.result (omega (arith, c.number.type_inv))) }

pub returns : goal.returns
returns g c =
    let called = c.put_refusal-size in
    let short = refused_short c.number.result (omega (arith, c.number.type_inv)) in
    rw (← c.number.ensures) (prints_one _ _ _ called.ensures.next called.ensures.bytes (omega (arith, short)))
