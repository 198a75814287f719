-- `program::parts` meets its contract: the input's questions in their order, then the plan and the log where they stand. Assumes nothing.
use Rattle.std.proofs.Common.{refl, ◌∙◌, arith}
use Rattle.program.proofs.Asked.{too_long, no_length, cut_short, whole_input}
use Rattle.program.proofs.parts.Goals as goal

pub returns-then-input-gt65536 : goal.returns-then-input-gt65536
returns-then-input-gt65536 c = too_long c.args.input.now (omega (arith, c.if-input-gt65536.true))

pub returns-then-input-lt2 : goal.returns-then-input-lt2
returns-then-input-lt2 c =
    no_length c.args.input.now (omega (arith, c.if-input-gt65536.false)) (omega (arith, c.if-input-lt2.true))

pub returns-then-input-end : goal.returns-then-input-end
returns-then-input-end c =
    cut_short _ c.if-input-gt65536.false c.if-input-lt2.false _ (c.from-end.ensures ∙ c.from_be_bytes.ensures) c.if-input-end.true

pub returns : goal.returns
returns c =
    whole_input _ c.if-input-gt65536.false c.if-input-lt2.false _ (c.from-end.ensures ∙ c.from_be_bytes.ensures) c.if-input-end.false
    _ _ refl refl
