-- `stored_set::case_at` meets its contract: at each `return` the tests that led there say which case of `placed_of` holds. Assumes nothing.
use Rattle.std.proofs.Common.{◌≡◌, drop, sym, ◌∙◌, arith}
use Rattle.stored_set.specs.Stored.{input_size, expected_size}
use Rattle.stored_set.proofs.Cases.{input_read, expected_read, at_end, at_cut, at_whole}
use Rattle.stored_set.proofs.case_at.Goals as goal

pub returns-then-at-set : goal.returns-then-at-set
returns-then-at-set c = at_end _ _ c.if-at-set.true

pub returns-then-left-lt4 : goal.returns-then-left-lt4
returns-then-left-lt4 c = at_cut _ _ c.if-at-set.false (omega arith)

pub returns-then-left-input : goal.returns-then-left-input
returns-then-left-input c =
    let input_is : c.from_be_bytes-input.result ≡ input_size (drop c.args.at c.args.set.now) =
    omega (arith, c.from_be_bytes-input.ensures, input_read c.args.set.now c.args.at) in
    at_cut _ _ c.if-at-set.false (omega (arith, input_is, c.if-left-input.true))

pub returns-then-left-input-2 : goal.returns-then-left-input-2
returns-then-left-input-2 c =
    let input_is : c.from_be_bytes-input.result ≡ input_size (drop c.args.at c.args.set.now) =
    omega (arith, c.from_be_bytes-input.ensures, input_read c.args.set.now c.args.at) in
    let expected_is : c.from-expected.result ≡ expected_size (drop c.args.at c.args.set.now) =
    c.from-expected.ensures ∙ sym (expected_read c.args.set.now c.args.at _ (omega (arith, input_is))) in
    at_cut _ _ c.if-at-set.false (omega (arith, input_is, expected_is, c.if-left-input-2.true))

pub returns : goal.returns
returns c =
    let input_is : c.from_be_bytes-input.result ≡ input_size (drop c.args.at c.args.set.now) =
    omega (arith, c.from_be_bytes-input.ensures, input_read c.args.set.now c.args.at) in
    let expected_is : c.from-expected.result ≡ expected_size (drop c.args.at c.args.set.now) =
    c.from-expected.ensures ∙ sym (expected_read c.args.set.now c.args.at _ (omega (arith, input_is))) in
    at_whole _ _ c.if-at-set.false
    (omega (arith, input_is, expected_is, c.if-left-input-2.false, c.if-left-input.false))
    _ _ input_is expected_is
