-- Request U1: a steal that succeeds takes the back half of the victim's deque, in its order, and of a deque of fewer than two tasks nothing
-- moves. Assumes nothing.
use mathlib.Core.Path.{refl, ap, ◌∙◌}
use Prim.Native.Nat.{ℕ, ◌≤◌}
use lib.ListN.{length, length-set}
use Rattle.model.specs.Plan.{Graph}
use Rattle.model.specs.Machine.{Execution, deque_of, successful_steal, failed_steal}
use Rattle.model.specs.Thefts.{Thief, Theft, Vain, StealsHalf}
use Rattle.laws.proofs.Stealing.{left_then_taken, half_taken, victim_after, thief_after, others_after}
use Rattle.laws.proofs.Cycles.{robs, fails}

module _ (e : Execution) (thief victim : ℕ) (steals : Thief e thief) (two : 2 ≤ length (deque_of e victim)) where
  theft : Theft e (successful_steal thief victim e) thief victim
  theft =
      record {
        one_success =
            unfold successful_steal in
            record { counted = refl; same_left = refl; same_muggable = refl; same_workers = simp length-set };
        parted =
            rw (victim_after e thief victim steals.empty two, thief_after e thief victim steals.empty two steals.granted)
            (left_then_taken (deque_of e victim));
        half = ap length (thief_after e thief victim steals.empty two steals.granted) ∙ half_taken (deque_of e victim);
        others = others_after e thief victim steals.empty two;
      }

vain : (e : Execution) → Vain e (failed_steal e)
unfolding failed_steal
vain e =
    record { no_success = record { counted = refl; same_left = refl; same_muggable = refl; same_workers = refl }; same_deques = refl }

pub steals_half : (graph : Graph) → StealsHalf graph
steals_half graph =
    record {
      takes_half = λ e thief victim steals two.
          rw (robs graph thief victim e steals.empty steals.none_waits two) (theft e thief victim steals two);
      needs_two = λ e thief victim steals few.
          rw (fails graph thief victim e steals.empty steals.none_waits few) (vain e);
    }
