-- `deque::release_successors` meets its contract: the second successor's release, then the first one's.
use Rattle.deque.proofs.Releases.{all_none, second_releasable, first_releasable, all_released}
use Rattle.deque.proofs.release_successors.Goals as goal

pub returns-then-one-eq0 : goal.returns-then-one-eq0
returns-then-one-eq0 c =
    all_none _ _ _ _ c.if-one-eq0.true

pub release-with_second-requires : goal.release-with_second-requires
release-with_second-requires c =
    second_releasable _ _ _ _ c.requires c.if-one-eq0.false

pub release-requires : goal.release-requires
release-requires c =
    first_releasable _ _ _ _ c.requires c.if-one-eq0.false c.release-with_second.ensures

pub returns : goal.returns
returns c =
    all_released _ _ _ _ c.requires c.if-one-eq0.false c.release-with_second.ensures c.release.ensures
