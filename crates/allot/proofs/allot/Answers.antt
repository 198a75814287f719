-- `allot::allot` meets its contract: the ways out of a grant.
use mathlib.Core.Path.{refl}
use native.Mathlib.Omega.{arith}
use Rattle.allot.proofs.Allotments.{withdrawable, granted_later, granted_nothing, granted_first}
use Rattle.allot.proofs.allot.Goals as goal
use Rattle.allot.proofs.allot.Goals.{else-started-eq0-via-then-started-eq0+else-g-gt0, else-started-eq0-via-else-started-eq0}

pub withdraw-waiting-requires : goal.withdraw-waiting-requires
withdraw-waiting-requires c =
    withdrawable c.requires

pub returns-then-g-gt0 : goal.returns-then-g-gt0
returns-then-g-gt0 c =
    let w = c.withdraw-waiting.ensures in
    granted_first c.requires w.joined w.rest c.clear.ensures.cleared c.clear.ensures.rest c.if-started-eq0.true
    (λ e. omega arith) c.put.ensures

pub returns-else-started-eq0 : goal.returns-else-started-eq0
returns-else-started-eq0 c =
    let w = c.withdraw-waiting.ensures in
    elim c.else-started-eq0.branch [
      | else-started-eq0-via-then-started-eq0+else-g-gt0 v ↦
          granted_nothing c.requires w.joined w.rest c.clear.ensures.cleared c.clear.ensures.rest v.if-started-eq0.true (omega arith) refl
      | else-started-eq0-via-else-started-eq0 v ↦
          granted_later c.requires w.joined w.rest c.clear.ensures.cleared c.clear.ensures.rest v.if-started-eq0.false refl
    ]
