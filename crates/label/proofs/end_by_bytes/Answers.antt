-- `label::end_by_bytes` meets its contract: `position` finds the first byte 10 of what is left. Assumes nothing.
use Rattle.std.proofs.Common.{rules, ◌≡◌, Some, None}
use borrow.Author.Tests.{tests}
use Rattle.std.proofs.lemmas.Iterator.{IsFirst-from_position, YieldsList-from_slice}
use Rattle.label.proofs.Passing.{end_found, none_found}
use Rattle.label.proofs.end_by_bytes.Goals as goal

pub returns-in-Some : goal.returns-in-Some
returns-in-Some c =
    end_found _ _ c.requires c.in-Some.more
    (IsFirst-from_position _ _ (Some c.in-Some.more) (λ x. x ≡ 10) (λ x. x ≡ 10 → ⊥) c.in-Some.ensures.ran
    (YieldsList-from_slice _ c.iter.ensures.rest) (λ x q k. search (rules, tests)) (λ x q k. search (rules, tests)))

pub returns-in-None : goal.returns-in-None
returns-in-None c =
    none_found _ _ c.requires
    (IsFirst-from_position _ _ None (λ x. x ≡ 10) (λ x. x ≡ 10 → ⊥) c.in-None.ensures.ran
    (YieldsList-from_slice _ c.iter.ensures.rest) (λ x q k. search (rules, tests)) (λ x q k. search (rules, tests)))
