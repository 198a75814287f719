-- `Tally::settle` meets its contract: each step reads and stores as in Settling.
use native.Mathlib.Omega.{arith}
use Rattle.tally.proofs.Settling.{usage_fits, works_fit, steals_fit, mugs_fit, head_fits, enough_wait, settled_unmugged, settled_mugged}
use Rattle.tally.proofs.Tally.settle.Goals as goal

pub overflow_add-words-2 : goal.overflow_add-words-2
overflow_add-words-2 c =
    omega (arith, usage_fits c.args.cycles c.args.self c.requires c.usage.ensures)

pub add_to-requires : goal.add_to-requires
add_to-requires c =
    works_fit c.args.cycles c.args.self c.requires c.usage.ensures

pub add_to-requires-2 : goal.add_to-requires-2
add_to-requires-2 c =
    steals_fit c.args.cycles c.args.self c.requires c.usage.ensures c.add_to.ensures c.others.ensures

pub returns-then-mugged-eq0 : goal.returns-then-mugged-eq0
returns-then-mugged-eq0 c =
    settled_unmugged c.args.cycles c.args.self c.requires c.usage.ensures c.add_to.ensures c.others.ensures c.add_to-2.ensures
    c.number-mugged.ensures c.if-mugged-eq0.true

pub add_to-requires-3 : goal.add_to-requires-3
add_to-requires-3 c =
    mugs_fit c.args.cycles c.args.self c.requires c.usage.ensures c.add_to.ensures c.others.ensures c.add_to-2.ensures
    c.number-mugged.ensures

pub overflow_add-words-3 : goal.overflow_add-words-3
overflow_add-words-3 c =
    omega (
      arith,
      head_fits c.args.cycles c.args.self c.requires c.usage.ensures c.add_to.ensures c.others.ensures c.add_to-2.ensures
          c.number-mugged.ensures c.add_to-3.ensures,
    )

pub overflow_sub-words : goal.overflow_sub-words
overflow_sub-words c =
    omega (
      arith,
      enough_wait c.args.cycles c.args.self c.requires c.usage.ensures c.add_to.ensures c.others.ensures c.add_to-2.ensures
          c.number-mugged.ensures c.add_to-3.ensures,
    )

pub returns : goal.returns
returns c =
    settled_mugged c.args.cycles c.args.self c.requires c.usage.ensures c.add_to.ensures c.others.ensures c.add_to-2.ensures
    c.number-mugged.ensures c.add_to-3.ensures
