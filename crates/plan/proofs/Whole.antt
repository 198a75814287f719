-- From all tasks read to the whole plan: questions 9 and 10 are asked of the memory's parts, and these show the plan of the bytes.
use mathlib.Core.Path.{◌≡◌, refl, sym, ◌∙◌, ap}
use mathlib.Core.Bool.{Bool, true, false, cond, not, ◌&&◌, and-true, beq}
use mathlib.Core.Logic.{⊎_elim}
use mathlib.Core.List.Memᴰ
use mathlib.Core.List.{List, [], ◌∷◌, map, flat_map}
use Prim.Native.Nat.{ℕ, zero, suc, ◌+◌, ◌-◌, ◌≤◌, ◌<◌}
use native.Mathlib.Nat.{eq-zero-or-pos}
use native.Mathlib.Omega.{arith}
use borrow.Author.Tests.{eq-eqb, ne_eqb}
use lib.Dec.{eqb}
use lib.ListN.{length, get_or, set, drop, replicate, length-set, length-replicate}
use lib.Seq.{get_or-set_same, get_or-set_other, ext_get_or}
use Rattle.model.specs.Tests.{below, every, keep, is_empty, member}
use Rattle.model.specs.Questions.{first_no}
use Rattle.model.specs.Plan.{successors_of, predecessors, form_of, header, growth_field, utilization_field, task_count}
use Rattle.model.specs.Plan.{quantum_length_field, utilization_field_of, quantum_length_field_of}
use Rattle.model.specs.Plan.{count_field, first_field, second_field, used_fields, successor_fields, plan_of, task_questions, all_preceded}
use Rattle.model.specs.Plan.{one_exit, duration_field}
use Rattle.lists.proofs.Lists.{alike, below_is, is_member}
use Rattle.memory.specs.Parts.{Parts, region, parts, with_pending, ticks_at, left_at}
use Rattle.memory.specs.Graphs.{shown, successors_at, successors_view, durations_view}
use Rattle.memory.specs.View.{left_view}
use Rattle.memory.proofs.Regions.{region_at, region_length}
use Rattle.lists.proofs.Tables.{table_same}
use Rattle.growth.specs.Meaning.{growth_of}
use Rattle.plan.specs.declared.Heading.{Heading}
use Rattle.plan.specs.Headings.{plan_view, Ends}
use Rattle.plan.specs.Reads.{counted, Held, one_or_two, followed, no_memory}
use Rattle.plan.specs.Promise.{Holds}
use Rattle.lists.proofs.Ranges.{from_one_mem, every_cong, every_below, keep_cong, keep_some}
use Rattle.lists.proofs.Questions.{accepted_at}
use Rattle.plan.proofs.Forms.{duration_most}
use Rattle.plan.proofs.Facts.{tasks_of, successors_given, FieldFacts, TargetFacts, TaskFacts, task_facts}

-- ---- the successors that two fields show

shown_used : (n t count first second : ℕ) → FieldFacts count first second → TargetFacts n t (used_fields count first second) →
    shown first second ≡ used_fields count first second
unfolding shown
shown_used n t zero first second f g = rw (f.first_unused refl)
shown_used n t (suc zero) first second f g =
    let up : t < first = g.upward first (Memᴰ.head refl) in
    rw (ne_eqb first 0 (λ e. omega arith), f.second_unused (omega arith))
shown_used n t (suc (suc more)) first second f g =
    let up : t < first = g.upward first (Memᴰ.head refl) in
    let up_2 : t < second = g.upward second (Memᴰ.tail (Memᴰ.head refl)) in
    rw (ne_eqb first 0 (λ e. omega arith), ne_eqb second 0 (λ e. omega arith))

-- a task has no successor exactly when its first field shows none
empty_shown : (first second : ℕ) → is_empty (shown first second) ≡ eqb first 0
unfolding shown
empty_shown first second = by (eqb first 0) (eqb second 0)
  where
    by : (a b : Bool) → is_empty (cond a [] (cond b (first ∷ []) (first ∷ second ∷ []))) ≡ a
    by true b = refl
    by false true = refl
    by false false = refl

-- ---- predecessors

pub predecessors_counted : (bytes : List ℕ) (t : ℕ) → length (predecessors (plan_of bytes).graph t) ≡ counted bytes (task_count bytes) t
unfolding predecessors counted
predecessors_counted bytes t =
    ap length
    (ap (λ n. keep (λ p. member t (successors_of (plan_of bytes).graph p)) (below n)) (tasks_of bytes)
    ∙ keep_cong _ _ (below (task_count bytes)) (λ p m. ap (member t) (successors_given bytes p (below_is (task_count bytes) p m))))

module _ (bytes : List ℕ) (p : Parts) (held : Held bytes (task_count bytes) p) where
  task_at : (t : ℕ) → t < task_count bytes → TaskFacts bytes t
  task_at t l = task_facts bytes t (accepted_at (task_questions bytes) (task_count bytes) held.accepted_so_far t l)

  -- no task has task 0 as a successor
  first_task : counted bytes (task_count bytes) 0 ≡ 0
  unfolding counted
  first_task = ⊎_elim (λ e. e) (λ some. absurd (above some)) (eq-zero-or-pos _)
    where
      above : 1 ≤ counted bytes (task_count bytes) 0 → ⊥
      above some =
          let found = keep_some (λ q. member 0 (successor_fields bytes q)) (below (task_count bytes)) some in
          let q = found.0 in
          let facts = task_at q (below_is (task_count bytes) q found.1) in
          omega (arith, facts.targets.upward 0 (is_member 0 (successor_fields bytes q) found.2))

  -- with 0 at task 0, whose count has the unused fields
  pub counts_are : (t : ℕ) → get_or (set p.pending 0 0) t 0 ≡ length (predecessors (plan_of bytes).graph t)
  counts_are zero =
      get_or-set_same p.pending 0 0 0 (omega (arith, held.counts_ends.places)) ∙ sym (predecessors_counted bytes 0 ∙ first_task)
  counts_are (suc t) =
      get_or-set_other p.pending 0 (suc t) 0 0 (λ e. omega arith)
      ∙ (held.counts_held (suc t) (omega arith) ∙ sym (predecessors_counted bytes (suc t)))

  counts_end : Ends (task_count bytes) (set p.pending 0 0)
  counts_end =
      record {
        places = length-set p.pending 0 0 ∙ held.counts_ends.places;
        nothing_past = λ t l. get_or-set_other p.pending 0 t 0 0 (λ e. omega arith) ∙ held.counts_ends.nothing_past t l;
      }

  -- ---- questions 9 and 10, of the parts

  pub question_9 : every (one_or_two p.pending) (drop 1 (below (task_count bytes))) ≡ all_preceded (plan_of bytes).graph
  unfolding all_preceded one_or_two
  question_9 =
      rw (tasks_of bytes)
      (every_cong _ _ (drop 1 (below (task_count bytes)))
      (λ t m. let above = (from_one_mem t (task_count bytes) m).0 in
      rw (held.counts_held t above, predecessors_counted bytes t)))

  successors_shown : (t : ℕ) → t < task_count bytes → successors_at p.first p.second t ≡ successor_fields bytes t
  unfolding successors_at successor_fields
  successors_shown t l =
      rw (held.first_held t l, held.second_held t l)
      (shown_used (task_count bytes) t (count_field bytes t) (first_field bytes t) (second_field bytes t)
      (task_at t l).fields (task_at t l).targets)

  pub successors_are : successors_view p.first p.second (task_count bytes) ≡ map (successor_fields bytes) (below (task_count bytes))
  unfolding successors_view
  successors_are = table_same (successor_fields bytes) (successors_at p.first p.second) (task_count bytes) successors_shown

  -- ---- the ticks, all of them left

  durations_are : durations_view p.spans (task_count bytes) ≡ map (duration_field bytes) (below (task_count bytes))
  unfolding durations_view
  durations_are =
      table_same (duration_field bytes) (ticks_at p.spans) (task_count bytes)
      (λ t l. rw (held.spans_held t l) (omega (arith, duration_most bytes t)))

  left_are : left_view p.spans (task_count bytes) ≡ map (duration_field bytes) (below (task_count bytes))
  unfolding left_view
  left_are =
      table_same (duration_field bytes) (left_at p.spans) (task_count bytes)
      (λ t l. rw (held.spans_held t l) (omega (arith, duration_most bytes t)))

  exit_test : ℕ → Bool
  exit_test t = beq (is_empty (successors_of (plan_of bytes).graph t)) (eqb (t + 1) (task_count bytes))

  -- a task before the last has a successor exactly when its first field shows one
  before_last : (t : ℕ) → t < task_count bytes - 1 → exit_test t ≡ followed p.first t
  unfolding exit_test followed successors_at
  before_last t l =
      let other : eqb (t + 1) (task_count bytes) ≡ false = ne_eqb (t + 1) (task_count bytes) (λ e. omega arith) in
      rw (successors_given bytes t (omega arith), ← successors_shown t (omega arith), empty_shown, other)
      (against (eqb (get_or p.first t 0) 0))
    where
      against : (b : Bool) → beq b false ≡ not b
      against true = refl
      against false = refl

  -- the last task has none, since each would be above it and below N
  at_last : (t : ℕ) → t + 1 ≡ task_count bytes → exit_test t ≡ true
  unfolding exit_test
  at_last t e =
      rw (successors_given bytes t (omega arith), eq-eqb (t + 1) (task_count bytes) e)
      (none_left (successor_fields bytes t) (task_at t (omega arith)).targets)
    where
      none_left : (successors : List ℕ) → TargetFacts (task_count bytes) t successors → beq (is_empty successors) true ≡ true
      none_left [] g = refl
      none_left (s ∷ rest) g =
          let up : t < s = g.upward s (Memᴰ.head refl) in
          let low : s < task_count bytes = g.inside s (Memᴰ.head refl) in absurd (omega arith)

  pub question_10 : every (followed p.first) (below (task_count bytes - 1)) ≡ one_exit (plan_of bytes).graph
  unfolding one_exit exit_test
  question_10 =
      let last : suc (task_count bytes - 1) ≡ task_count bytes = omega arith in
      sym
      (ap (λ n. every (λ t. beq (is_empty (successors_of (plan_of bytes).graph t)) (eqb (t + 1) n)) (below n)) (tasks_of bytes)
      ∙ (ap (λ n. every exit_test (below n)) (sym last)
      ∙ (every_below exit_test (task_count bytes - 1)
      ∙ (ap (λ b. every exit_test (below (task_count bytes - 1)) && b) (at_last (task_count bytes - 1) (omega arith))
      ∙ (and-true (every exit_test (below (task_count bytes - 1)))
      ∙ every_cong _ _ (below (task_count bytes - 1)) (λ t m. before_last t (below_is (task_count bytes - 1) t m)))))))

  -- ---- the memory

  pub memory_holds : (r : Heading) (memory : List ℕ) → parts memory ≡ with_pending p (set p.pending 0 0) →
      growth_of r.growth ≡ growth_field bytes →
      r.utilization ≡ utilization_field_of (form_of bytes) (header bytes) →
      r.quantum_length ≡ quantum_length_field_of (form_of bytes) (header bytes) → r.tasks ≡ task_count bytes → Holds bytes r memory
  unfolding plan_view plan_of utilization_field quantum_length_field
  memory_holds r memory e e_g e_u e_q e_n =
      record {
        shows = rw (e, e_g, e_u, e_q, e_n, successors_are, durations_are);
        untouched = rw (e, e_n) left_are;
        preceded = λ t l. rw e (counts_are t);
        first_ends = rw (e, e_n) held.first_ends;
        second_ends = rw (e, e_n) held.second_ends;
        pending_ends = rw (e, e_n) counts_end;
        spans_ends = rw (e, e_n) held.spans_ends;
        no_links = rw e held.no_links;
        no_deques = rw e held.no_deques;
      }

-- ---- before the first task: memory of zeros

region_zeros : (offset size n : ℕ) → offset + size ≤ n → region offset size (replicate n 0) ≡ replicate size 0
region_zeros offset size n fits =
    let sized : length (region offset size (replicate n 0)) ≡ size =
    region_length offset size (replicate n 0) (rw (length-replicate {A = ℕ} n 0) fits) in
    ext_get_or 0 (region offset size (replicate n 0)) (replicate size 0) (sized ∙ sym (length-replicate size 0))
    (λ i l. region_at offset size (replicate n 0) i 0 (rw sized at l) ∙ alike n (offset + i) 0 ∙ sym (alike size i 0))

zeros_end : (n : ℕ) (xs : List ℕ) → xs ≡ replicate 1024 0 → Ends n xs
zeros_end n xs e =
    record { places = ap length e ∙ length-replicate {A = ℕ} 1024 0; nothing_past = λ t _. ap (λ l. get_or l t 0) e ∙ alike 1024 t 0 }

pub nothing_held : (bytes : List ℕ) → Held bytes 0 (parts no_memory)
unfolding first_no flat_map below counted keep parts no_memory
nothing_held bytes =
    record {
      accepted_so_far = refl;
      first_held = λ t l. absurd (omega arith);
      second_held = λ t l. absurd (omega arith);
      counts_held = λ t _. no_count t;
      counts_small = λ t. omega (arith, no_count t);
      first_ends = zeros_end 0 _ (region_zeros 0 1024 5376 (omega arith));
      second_ends = zeros_end 0 _ (region_zeros 1024 1024 5376 (omega arith));
      spans_held = λ t l. absurd (omega arith);
      spans_ends = zeros_end 0 _ (region_zeros 4352 1024 5376 (omega arith));
      counts_ends = zeros_end (task_count bytes) _ (region_zeros 3072 1024 5376 (omega arith));
      no_links = region_zeros 2048 1024 5376 (omega arith);
      no_deques = region_zeros 4096 256 5376 (omega arith);
    }
  where
    no_count : (t : ℕ) → get_or (region 3072 1024 no_memory) t 0 ≡ 0
    no_count t = ap (λ l. get_or l t 0) (region_zeros 3072 1024 5376 (omega arith)) ∙ alike 1024 t 0
