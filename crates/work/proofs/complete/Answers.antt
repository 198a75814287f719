-- `work::complete` meets its contract.
use Rattle.work.proofs.Working.{all_releasable}
use Rattle.work.proofs.Working.{done, done_none, done_later, done_now}
use Rattle.work.proofs.complete.Goals as goal

pub returns-then-one-eq0 : goal.returns-then-one-eq0
returns-then-one-eq0 c =
    λ p m ended. done_none _ ended c.if-one-eq0.true

pub returns-then-awaited-eq1 : goal.returns-then-awaited-eq1
returns-then-awaited-eq1 c =
    λ p m ended.
    done_now _ ended c.if-two-eq0.true c.if-one-eq0.false c.if-awaited-eq1.true

pub returns-then-two-eq0 : goal.returns-then-two-eq0
returns-then-two-eq0 c =
    λ p m ended.
    done_later _ ended c.if-two-eq0.true c.if-one-eq0.false c.if-awaited-eq1.false

pub release_successors-after-requires : goal.release_successors-after-requires
release_successors-after-requires c =
    all_releasable _ c.requires.1.1

pub returns : goal.returns
returns c =
    λ p m ended. done _ ended c.release_successors-after.ensures c.put.ensures
