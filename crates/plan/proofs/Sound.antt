-- A plan is accepted exactly when the plan rules hold. What acceptance gives: the facts that the laws of the machine need, the bounds
-- of the field widths, and a path of successors from task 0 to every task.
use mathlib.Core.Path.{◌≡◌, refl, sym, ◌∙◌, ap}
use mathlib.Core.Bool.{Bool, true, false, ◌&&◌, beq}
use mathlib.Core.Logic.{◌↔◌}
use mathlib.Core.List.{List, [], ◌∷◌, ◌++◌, flat_map, Memᴰ}
use Prim.Native.Nat.{ℕ, zero, suc, ◌+◌, ◌≤◌, ◌<◌}
use native.Mathlib.Omega.{arith}
use borrow.Author.Tests.{leb-true, eqb-true, le-leb, eq-eqb, ne_eqb, eqb-false}
use lib.Dec.{leb, eqb}
use lib.ListN.{length, drop}
use Rattle.model.specs.Tests.{below, is_empty, member}
use Rattle.model.specs.Questions.{Answer, accepted, refused, first_no}
use Rattle.model.specs.Plan.{Graph, tasks, successors_of, predecessors}
use Rattle.model.specs.Plan.{task_count, count_field, first_field, second_field, successor_fields}
use Rattle.model.specs.Plan.{plan_of, task_questions, header_questions, graph_questions, all_preceded, one_exit, plan_questions}
use Rattle.model.specs.Plan.{plan_answer, quantum_length_field}
use Rattle.model.specs.Statements.{SoundGraph, SoundPlan, WithinBounds}
use Rattle.plan.specs.Rules.{WellFormed, PlanRules, Leads, nowhere, onward}
use Rattle.lists.proofs.Tests.{and_left, and_right, both}
use Rattle.lists.proofs.Lists.{every_at, every_from, below_has, below_is, is_member}
use Rattle.lists.proofs.Ranges.{mem_from_one, from_one_mem, keep_some}
use Rattle.lists.proofs.Questions.{and_then, first_no_append, first_accepted, second_accepted, ask_accepted, two_accepted, accepted_at}
use Rattle.lists.proofs.Questions.{accepted_below}
use Rattle.plan.proofs.Forms.{growth_most, quantum_most, durations_length, duration_given, durations_most}
use Rattle.plan.proofs.Facts.{tasks_of, successors_given, HeaderFacts, header_facts, header_accepted, TargetFacts, TaskFacts}
use Rattle.plan.proofs.Facts.{task_facts, task_accepted, used_most, same_targets}

-- ---- the three parts of the questions

-- the answer, part by part
pub answer_parts : (bytes : List ℕ) → plan_answer bytes ≡
    and_then (first_no (header_questions bytes))
    (and_then (first_no (flat_map (task_questions bytes) (below (task_count bytes)))) (first_no (graph_questions (plan_of bytes).graph)))
unfolding plan_answer plan_questions
answer_parts bytes =
    first_no_append (header_questions bytes ++ flat_map (task_questions bytes) (below (task_count bytes)))
    (graph_questions (plan_of bytes).graph)
    ∙ (ap (λ a. and_then a (first_no (graph_questions (plan_of bytes).graph)))
    (first_no_append (header_questions bytes) (flat_map (task_questions bytes) (below (task_count bytes))))
    ∙ regroup (first_no (header_questions bytes)) _ _)
  where
    regroup : (a b c : Answer) → and_then (and_then a b) c ≡ and_then a (and_then b c)
    regroup accepted b c = refl
    regroup (refused n) b c = refl

-- ---- the graph: questions 9 and 10

pub record GraphFacts (graph : Graph) : Type 0 where
  pub preceded : (t : ℕ) → 1 ≤ t → t < tasks graph → 1 ≤ length (predecessors graph t)
  pub preceded_twice : (t : ℕ) → 1 ≤ t → t < tasks graph → length (predecessors graph t) ≤ 2
  pub exit_last : (t : ℕ) → t < tasks graph → (successors_of graph t ≡ []) ↔ (t + 1 ≡ tasks graph)

empty_exactly : (successors : List ℕ) (m n : ℕ) → beq (is_empty successors) (eqb m n) ≡ true → (successors ≡ []) ↔ (m ≡ n)
empty_exactly [] m n h = by (eqb m n) refl h
  where
    by : (b : Bool) → eqb m n ≡ b → beq true b ≡ true → (◌≡◌ {A = List ℕ} [] []) ↔ (m ≡ n)
    by true e h = (λ _. eqb-true m n e, λ _. refl)
    by false e h = let z : ◌≡◌ {A = ℕ} 0 1 = cc in absurd (omega arith)
empty_exactly (x ∷ xs) m n h = by (eqb m n) refl h
  where
    by : (b : Bool) → eqb m n ≡ b → beq false b ≡ true → (x ∷ xs ≡ []) ↔ (m ≡ n)
    by true e h = let z : ◌≡◌ {A = ℕ} 0 1 = cc in absurd (omega arith)
    by false e h = (λ p. let z : ◌≡◌ {A = ℕ} 0 1 = cc in absurd (omega arith), λ p. absurd (eqb-false m n e p))

exactly_empty : (successors : List ℕ) (m n : ℕ) → (successors ≡ []) ↔ (m ≡ n) → beq (is_empty successors) (eqb m n) ≡ true
exactly_empty [] m n h = rw (eq-eqb m n (h.0 refl))
exactly_empty (x ∷ xs) m n h = rw (ne_eqb m n (λ p. let q : x ∷ xs ≡ [] = h.1 p in let z : ◌≡◌ {A = ℕ} 0 1 = cc in omega arith))

preceded_test : Graph → ℕ → Bool
preceded_test graph t = leb 1 (length (predecessors graph t)) && leb (length (predecessors graph t)) 2

exit_test : Graph → ℕ → Bool
exit_test graph t = beq (is_empty (successors_of graph t)) (eqb (t + 1) (tasks graph))

pub graph_facts : (graph : Graph) → first_no (graph_questions graph) ≡ accepted → GraphFacts graph
unfolding graph_questions all_preceded one_exit preceded_test exit_test
graph_facts graph h =
    let a = ask_accepted _ _ _ h in
    let b = ask_accepted _ _ _ a.1 in
    let counted : (t : ℕ) → 1 ≤ t → t < tasks graph → preceded_test graph t ≡ true =
    λ t l m. every_at (preceded_test graph) (drop 1 (below (tasks graph))) a.0 t (mem_from_one t (tasks graph) l m) in
    record {
      preceded = λ t l m. leb-true 1 _ (and_left _ (leb (length (predecessors graph t)) 2) (counted t l m));
      preceded_twice = λ t l m. leb-true _ 2 (and_right (leb 1 (length (predecessors graph t))) _ (counted t l m));
      exit_last = λ t l. empty_exactly (successors_of graph t) (t + 1) (tasks graph)
          (every_at (exit_test graph) (below (tasks graph)) b.0 t (below_has (tasks graph) t l));
    }

pub graph_accepted : (graph : Graph) → GraphFacts graph → first_no (graph_questions graph) ≡ accepted
unfolding graph_questions all_preceded one_exit
graph_accepted graph h =
    two_accepted 9 10
    (every_from _ (drop 1 (below (tasks graph)))
    (λ t m. let w = from_one_mem t (tasks graph) m in
    both _ _ (le-leb 1 _ (h.preceded t w.0 w.1)) (le-leb _ 2 (h.preceded_twice t w.0 w.1))))
    (every_from _ (below (tasks graph))
    (λ t m. exactly_empty (successors_of graph t) (t + 1) (tasks graph) (h.exit_last t (below_is (tasks graph) t m))))

-- ---- accepted exactly when the rules hold

module _ (bytes : List ℕ) where
  after_header : plan_answer bytes ≡ accepted →
      and_then (first_no (flat_map (task_questions bytes) (below (task_count bytes)))) (first_no (graph_questions (plan_of bytes).graph))
      ≡ accepted
  after_header h = second_accepted (first_no (header_questions bytes)) _ (sym (answer_parts bytes) ∙ h)

  header_part : plan_answer bytes ≡ accepted → HeaderFacts bytes
  header_part h = header_facts bytes (first_accepted _ _ (sym (answer_parts bytes) ∙ h))

  task_part : plan_answer bytes ≡ accepted → (t : ℕ) → t < task_count bytes → TaskFacts bytes t
  task_part h t l =
      task_facts bytes t
      (accepted_at (task_questions bytes) (task_count bytes)
      (first_accepted _ (first_no (graph_questions (plan_of bytes).graph)) (after_header h)) t l)

  graph_part : plan_answer bytes ≡ accepted → GraphFacts (plan_of bytes).graph
  graph_part h =
      graph_facts (plan_of bytes).graph
      (second_accepted (first_no (flat_map (task_questions bytes) (below (task_count bytes)))) _ (after_header h))

  pub accepted_sound : plan_answer bytes ≡ accepted → SoundPlan (plan_of bytes)
  unfolding plan_of successor_fields
  accepted_sound h =
      let header = header_part h in
      let graph = graph_part h in
      let below_count : (t : ℕ) → t < tasks (plan_of bytes).graph → t < task_count bytes = λ t l. rw (tasks_of bytes) at l in
      let targets : (t : ℕ) → t < tasks (plan_of bytes).graph →
      TargetFacts (tasks (plan_of bytes).graph) t (successors_of (plan_of bytes).graph t) =
      λ t l. let b = below_count t l in
      same_targets (sym (tasks_of bytes)) (sym (successors_given bytes t b)) (task_part h t b).targets in
      record {
        terms = record { responsive = header.responsive; utilized = header.utilized; percent = header.percent; timed = header.timed };
        graph =
            record {
              some_task = rw (tasks_of bytes) (omega arith);
              two_at_most = λ t l.
                  rw (successors_given bytes t (below_count t l))
                  (used_most (count_field bytes t) (first_field bytes t) (second_field bytes t));
              upward = λ t s l m. (targets t l).upward s m;
              inside = λ t s l m. (targets t l).inside s m;
              apart = λ t a b l e. (targets t l).apart a b e;
              preceded = graph.preceded;
              preceded_twice = graph.preceded_twice;
              exit_last = graph.exit_last;
            };
        each_lasts = durations_length bytes ∙ sym (tasks_of bytes);
        lasting = λ t l. let b = below_count t l in rw (duration_given bytes t b) (task_part h t b).lasts;
      }

  pub accepted_well_formed : plan_answer bytes ≡ accepted → WellFormed bytes
  accepted_well_formed h =
      let header = header_part h in
      record {
        long_enough = header.long_enough;
        known_form = header.known_form;
        exact_length = header.exact_length;
        two_fields = λ t l. (task_part h t l).fields.two_fields;
        first_unused = λ t l. (task_part h t l).fields.first_unused;
        second_unused = λ t l. (task_part h t l).fields.second_unused;
      }

  sound_targets : SoundGraph (plan_of bytes).graph → (t : ℕ) → t < task_count bytes →
      TargetFacts (task_count bytes) t (successor_fields bytes t)
  sound_targets sound t l =
      let inside_plan : t < tasks (plan_of bytes).graph = rw (tasks_of bytes) l in
      same_targets (tasks_of bytes) (successors_given bytes t l)
      (record {
        upward = λ s. sound.upward t s inside_plan;
        inside = λ s. sound.inside t s inside_plan;
        apart = λ a b. sound.apart t a b inside_plan;
      })

  rules_accepted : PlanRules bytes → plan_answer bytes ≡ accepted
  unfolding plan_of
  rules_accepted rules = answer_parts bytes ∙ rw (header, each, graph)
    where
      sound : SoundPlan (plan_of bytes)
      sound = rules.sound

      form : WellFormed bytes
      form = rules.well_formed

      header : first_no (header_questions bytes) ≡ accepted
      header =
          header_accepted bytes
          (record {
            long_enough = form.long_enough;
            known_form = form.known_form;
            responsive = sound.terms.responsive;
            utilized = sound.terms.utilized;
            percent = sound.terms.percent;
            timed = sound.terms.timed;
            exact_length = form.exact_length;
          })

      each : first_no (flat_map (task_questions bytes) (below (task_count bytes))) ≡ accepted
      each =
          accepted_below (task_questions bytes) (task_count bytes)
          (λ t l. task_accepted bytes t
          (record {
            fields = record {
              two_fields = form.two_fields t l;
              first_unused = form.first_unused t l;
              second_unused = form.second_unused t l;
            };
            targets = sound_targets sound.graph t l;
            lasts = rw (duration_given bytes t l) at (sound.lasting t (rw (tasks_of bytes) l));
          }))

      graph : first_no (graph_questions (plan_of bytes).graph) ≡ accepted
      graph =
          graph_accepted (plan_of bytes).graph
          (record { preceded = sound.graph.preceded; preceded_twice = sound.graph.preceded_twice; exit_last = sound.graph.exit_last })

  -- "Accepted when it meets the plan rules and only then"
  pub accepted_exactly : (plan_answer bytes ≡ accepted) ↔ PlanRules bytes
  accepted_exactly = (λ h. record { well_formed = accepted_well_formed h; sound = accepted_sound h }, rules_accepted)

-- ---- what the field widths bound, of any bytes

pub within_bounds : (bytes : List ℕ) → WithinBounds (plan_of bytes)
unfolding plan_of quantum_length_field
within_bounds bytes =
    record {
      tasks_most = rw (tasks_of bytes) (omega arith);
      quantum_most = quantum_most bytes;
      growth_most = growth_most bytes;
      durations_most = durations_most bytes;
    }

-- ---- every task is reached from task 0

-- each task from 1 has a predecessor below it, so the path is found by going down
reached_below : (graph : Graph) → SoundGraph graph → (bound t : ℕ) → t < bound → t < tasks graph → Leads graph 0 t
unfolding predecessors
reached_below graph sound zero t b l = absurd (omega arith)
reached_below graph sound (suc bound) zero b l = nowhere refl
reached_below graph sound (suc bound) (suc t) b l =
    let found = keep_some (λ p. member (suc t) (successors_of graph p)) (below (tasks graph)) (sound.preceded (suc t) (omega arith) l) in
    let follows : Memᴰ (suc t) (successors_of graph found.0) = is_member (suc t) (successors_of graph found.0) found.2 in
    let inside : found.0 < tasks graph = below_is (tasks graph) found.0 found.1 in
    let rising : found.0 < suc t = sound.upward found.0 (suc t) inside follows in
    onward (reached_below graph sound bound found.0 (omega arith) inside) follows

pub all_reached : (graph : Graph) → SoundGraph graph → (t : ℕ) → t < tasks graph → Leads graph 0 t
all_reached graph sound t l = reached_below graph sound (suc t) t (omega arith) l
