-- A steal cycle: of a deque of two or more tasks the front part stays and the back half becomes the thief's deque; of any other nothing
-- moves.
use mathlib.Core.Path.{◌≡◌, refl, sym, ap, ◌∙◌}
use mathlib.Core.List.{List, []}
use Prim.Native.Nat.{ℕ, ◌+◌, ◌-◌, ◌≤◌, ◌<◌}
use native.Mathlib.Omega.{arith}
use lib.Dec.{ltb}
use lib.ListN.{length, get_or, set, drop}
use borrow.Author.Rules.{rules}
use borrow.Author.Tests.{lt-ltb}
use Rattle.model.specs.Tests.{below}
use Rattle.model.specs.Machine.{deque_of, stolen_count, successful_steal, failed_steal, left_by_steal, taken_by_steal}
use Rattle.lists.proofs.Lists.{every_from}
use Rattle.laws.proofs.Stealing.{some_left}
use Rattle.laws.proofs.Cycles.{robs, fails}
use Rattle.laws.proofs.Placement.{worker_has}
use Rattle.memory.specs.declared.Deque.{Deque}
use Rattle.memory.specs.Parts.{Parts}
use Rattle.memory.specs.Words.{Numbers}
use Rattle.memory.specs.Graphs.{graph}
use Rattle.memory.specs.View.{walk, front_at, size_at, ends_at, put_deque, deques_view, muggable_view, view}
use Rattle.memory.specs.Cycles.{after_steal}
use Rattle.memory.proofs.Executions.{same_execution, steal_counted}
use Rattle.memory.proofs.Walks.{length_walk}
use Rattle.memory.proofs.Views.{deque_at_is, worker_at, tasks_shown, put_places, put_deques, put_muggable}
use Rattle.deque.specs.Links.{link_after, Robbable, left_of, taken_of, robbed}
use Rattle.deque.proofs.Walks.{take_walk, drop_walk}
use Rattle.turn.specs.Turns.{ChoiceTurn, Cycled}
use Rattle.turn.proofs.Cycling.{few_workers, worker_place, choice_place, own_empty, cycled_idle}

none_shown : (next ends : List ℕ) (head waiting : ℕ) → waiting ≡ 0 → muggable_view next ends head waiting ≡ []
unfolding muggable_view below
none_shown next ends head waiting none = rw none

module _ {p : Parts} {m : Numbers} {w choice : ℕ} (turn : ChoiceTurn p m w choice) where
  abbrev front : ℕ
  front = get_or p.ends (front_at choice) 0

  abbrev size : ℕ
  size = get_or p.ends (size_at choice) 0

  abbrev victim : List ℕ
  victim = deque_of (view p m) choice

  victim_tasks : victim ≡ walk p.next front size
  victim_tasks = worker_at p.next p.ends m.workers choice turn.chosen ∙ deque_at_is p.next p.ends choice

  victim_size : length victim ≡ size
  victim_size = ap length victim_tasks ∙ length_walk p.next front size

  -- "If not, nothing moves."
  pub cycled_nothing : get_or p.ends (size_at w) 0 ≡ 0 → m.waiting ≡ 0 → size < 2 → Cycled p m w choice p (after_steal 0 m)
  unfolding failed_steal
  cycled_nothing empty none few =
      cycled_idle turn
      (same_execution refl refl refl (steal_counted 0 m)
      ∙ sym (fails (graph p m.tasks) w choice (view p m) (own_empty turn empty)
      (none_shown p.next p.ends m.head m.waiting none) (rw victim_size few)))
      turn.turn.sound.sizes.places
      refl
      turn.turn.sound.kept.head_in_ring
      (search rules)
      refl

  -- ---- two or more tasks

  module _ (many : 2 ≤ size) where
    -- the tasks of a worker's deque are tasks of the memory
    pub robbable : Robbable p w choice
    robbable =
        record {
          thief_place = omega (arith, worker_place turn);
          victim_place = omega (arith, choice_place turn);
          two_or_more = many;
          links =
              every_from (λ t. ltb t 1024) (walk p.next front size)
              (λ t here.
              let sound = turn.turn.sound in
              lt-ltb t 1024
              (omega (
                arith,
                (worker_has sound.lawful.placed t choice (rw victim_tasks here)).of_plan,
                tasks_shown p.first p.second m.tasks,
                sound.few_tasks,
              )));
        }

    -- what a steal leaves, and what it takes
    abbrev left : Deque
    left = left_of (ends_at p.ends choice)

    abbrev taken : Deque
    taken = taken_of p.next (ends_at p.ends choice)

    stays : walk p.next front (size - stolen_count size) ≡ left_by_steal victim
    unfolding left_by_steal
    stays =
        rw (victim_tasks, length_walk p.next front size)
        (sym (take_walk p.next front (size - stolen_count size) size (omega arith)))

    goes : walk p.next (link_after p.next front (size - stolen_count size)) (stolen_count size) ≡ taken_by_steal victim
    unfolding taken_by_steal
    goes =
        let whole : (size - stolen_count size) + stolen_count size ≡ size = omega (arith, some_left size many) in
        rw (victim_tasks, length_walk p.next front size)
        (sym (drop_walk p.next front (size - stolen_count size) (stolen_count size))
        ∙ ap (λ (n : ℕ). drop (size - stolen_count size) (walk p.next front n)) whole)

    -- ---- the ends of the robbed deque, then of the thief's

    abbrev ends₁ : List ℕ
    ends₁ = put_deque p.ends choice left

    abbrev ends₂ : List ℕ
    ends₂ = put_deque ends₁ w taken

    abbrev places : length p.ends ≡ 256
    places = turn.turn.sound.sizes.places

    there : choice < 128
    there = omega (arith, choice_place turn)

    here : w < 128
    here = omega (arith, worker_place turn)

    places₁ : length ends₁ ≡ 256
    places₁ = put_places p.next p.ends places choice there left

    deques_after : deques_view p.next ends₂ m.workers
        ≡ set (set (deques_view p.next p.ends m.workers) choice (left_by_steal victim)) w (taken_by_steal victim)
    deques_after =
        put_deques p.next ends₁ places₁ w here taken m.workers turn.turn.worker (few_workers turn)
        ∙ rw (goes, put_deques p.next p.ends places choice there left m.workers turn.chosen (few_workers turn), stays)

    muggable_after : muggable_view p.next ends₂ m.head m.waiting ≡ muggable_view p.next p.ends m.head m.waiting
    muggable_after =
        put_muggable p.next ends₁ places₁ w here taken (worker_place turn) m.head m.waiting
        ∙ put_muggable p.next p.ends places choice there left (choice_place turn) m.head m.waiting

    pub cycled_theft : get_or p.ends (size_at w) 0 ≡ 0 → m.waiting ≡ 0 → Cycled p m w choice (robbed p w choice) (after_steal 1 m)
    unfolding successful_steal
    cycled_theft empty none =
        cycled_idle turn
        (same_execution refl deques_after muggable_after (steal_counted 1 m)
        ∙ sym (robs (graph p m.tasks) w choice (view p m) (own_empty turn empty)
        (none_shown p.next p.ends m.head m.waiting none) (rw victim_size many)))
        (put_places p.next ends₁ places₁ w here taken)
        refl
        turn.turn.sound.kept.head_in_ring
        (search rules)
        refl
