-- The fresh job of an accepted plan shows the plan and the fresh state, and is reached by no calls.
-- Assumes nothing.
use mathlib.Core.Path.{◌≡◌, refl, sym, ap, ◌∙◌}
use mathlib.Core.Bool.{false, not}
use mathlib.Core.List.{List, [], ◌∷◌}
use Rattle.std.specs.Prelude.{Ok, Err}
use Prim.Native.Nat.{ℕ}
use native.Mathlib.Omega.{arith}
use lib.Dec.{eqb}
use lib.ListN.{replicate, length-replicate}
use mir.Val.{bool_byte}
use Rattle.model.specs.Tests.{below, count_set, zeros}
use Rattle.model.specs.Questions.{accepted, refused}
use Rattle.model.specs.Plan.{Graph, Plan, tasks, predecessors, growth_with, plan_of, plan_answer}
use Rattle.model.specs.Machine.{fresh}
use Rattle.model.specs.History.{run, run_from, beginning}
use Rattle.lists.proofs.Lists.{count_set_none}
use Rattle.laws.proofs.Awaiting.{awaited_at_first}
use Rattle.laws.proofs.Grants as Grants
use Rattle.memory.specs.Parts.{parts}
use Rattle.memory.specs.Graphs.{graph}
use Rattle.memory.specs.View.{deques_view, muggable_view}
use Rattle.memory.specs.Words.{numbers_in}
use Rattle.memory.specs.Sound.{awaited, worked_in, Kept}
use Rattle.memory.specs.Jobs.{lent, job_plan, job_state}
use Rattle.plan.specs.Headings.{plan_view}
use Rattle.growth.specs.declared.Growth.{Growth}
use Rattle.growth.specs.declared.Growth.TheVariants.{ByFactor, ByTenths}
use Rattle.growth.specs.Meaning.{growth_of, is_by_tenths, number_in}
use Rattle.plan_fields.specs.declared.PlanRefusal.{PlanRefusal}
use Rattle.plan.specs.Promise.{Holds, RightHeading}
use Rattle.plan.specs.declared.Heading.{Heading}
use Rattle.plan.proofs.Sound.{accepted_sound}
use Rattle.engine.specs.Reached.{Reached}
use Rattle.engine.specs.Moves.{Accepts}

-- the words of a plan before any call
abbrev pub fresh_words : Heading → List ℕ
fresh_words h =
    h.tasks
    ∷ 0 ∷ 0 ∷ 0 ∷ 0 ∷ 0 ∷ 0 ∷ 0 ∷ 0 ∷ 0
    ∷ number_in h.growth ∷ h.utilization ∷ h.quantum_length
    ∷ 1 ∷ 0 ∷ 0 ∷ 0 ∷ 0
    ∷ bool_byte (is_by_tenths h.growth) ∷ 0 ∷ 0 ∷ []

-- the flag and the number are those of the growth
growth_kept : (g : Growth) → growth_with (not (eqb (bool_byte (is_by_tenths g)) 0)) (number_in g) ≡ growth_of g
growth_kept (ByFactor number) = refl
growth_kept (ByTenths number) = refl

module _ (bytes : List ℕ) (h : Heading) (memory : List ℕ) (answer : plan_answer bytes ≡ accepted) (holds : Holds bytes h memory) where
  fresh_plan : job_plan (lent memory (fresh_words h)) ≡ plan_of bytes
  unfolding job_plan plan_view
  fresh_plan = rw (growth_kept h.growth) holds.shows

  same_graph : graph (parts memory) h.tasks ≡ (plan_of bytes).graph
  unfolding plan_view
  same_graph = ap (λ (q : Plan). q.graph) holds.shows

  same_predecessors : (t : ℕ) → predecessors (graph (parts memory) h.tasks) t ≡ predecessors (plan_of bytes).graph t
  same_predecessors t = ap (λ (g : Graph). predecessors g t) same_graph

  -- all ticks are left, and no task is worked
  none_worked : worked_in (parts memory) (numbers_in (fresh_words h)) ≡ replicate (tasks (plan_of bytes).graph) false
  none_worked = ap zeros holds.untouched ∙ Grants.none_worked (accepted_sound bytes answer)

  fresh_state : job_state (lent memory (fresh_words h)) ≡ fresh (plan_of bytes)
  unfolding job_state fresh deques_view muggable_view below
  fresh_state = rw holds.untouched

  kept : Kept (graph (parts memory) h.tasks) (parts memory) (numbers_in (fresh_words h))
  unfolding awaited
  kept =
      record {
        pending_right = λ t less.
            rw (none_worked, same_predecessors) (holds.preceded t less ∙ sym (awaited_at_first (plan_of bytes).graph t));
        done_right = sym (ap count_set none_worked ∙ count_set_none (tasks (plan_of bytes).graph));
        head_in_ring = omega arith;
      }

  fresh_reached : Reached (plan_of bytes) [] (lent memory (fresh_words h))
  unfolding run run_from beginning
  fresh_reached =
      record {
        accepted_plan = record { bytes = bytes; answer = answer; given = refl };
        its_plan = fresh_plan;
        its_state = fresh_state;
        parts_sized =
            record {
              firsts = holds.first_ends.places;
              seconds = holds.second_ends.places;
              links = rw holds.no_links (length-replicate {A = ℕ} 1024 0);
              numbers = holds.pending_ends.places;
              places = rw holds.no_deques (length-replicate {A = ℕ} 256 0);
              ticks = holds.spans_ends.places;
            };
        words_sized = refl;
        kept = kept;
      }

-- ---- what accepting promises

module _ {bytes memory memory' : List ℕ} (words : List ℕ) where
  pub accepts : {h : Heading} → RightHeading bytes (Ok h) memory memory' → Accepts bytes (lent memory words) (lent memory' (fresh_words h))
  accepts {h} right =
      record {
        its_plan = λ yes_answer. fresh_plan bytes h memory' yes_answer right.held;
        its_state = λ yes_answer. fresh_state bytes h memory' yes_answer right.held;
        reached = λ yes_answer. fresh_reached bytes h memory' yes_answer right.held;
        unchanged = λ n refusal. absurd (both n (right.answered ∙ refusal));
      }
    where
      both : (n : ℕ) → accepted ≡ refused n → ⊥
      both n e = cc

  pub refuses : {refusal : PlanRefusal} → RightHeading bytes (Err refusal) memory memory' →
      Accepts bytes (lent memory words) (lent memory' words)
  refuses right =
      record {
        its_plan = λ yes_answer. absurd (neither (right.answered ∙ yes_answer));
        its_state = λ yes_answer. absurd (neither (right.answered ∙ yes_answer));
        reached = λ yes_answer. absurd (neither (right.answered ∙ yes_answer));
        unchanged = λ n refusal. ap (λ (l : List ℕ). lent l words) (right.kept n refusal);
      }
    where
      neither : {n : ℕ} → refused n ≡ accepted → ⊥
      neither e = cc
