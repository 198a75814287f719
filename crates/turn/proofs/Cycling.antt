-- One cycle of a worker: that what shows the model's cycle is sound.
use mathlib.Core.Path.{◌≡◌, refl, sym, subst, ◌∙◌}
use mathlib.Core.List.{List, []}
use Prim.Native.Nat.{ℕ, ◌+◌, ◌-◌, ◌≤◌, ◌<◌}
use native.Mathlib.Omega.{arith}
use lib.ListN.{length, get_or}
use borrow.Author.Rules.{rules}
use Rattle.model.specs.Plan.{Graph}
use Rattle.model.specs.Machine.{Execution, deque_of, cycle}
use Rattle.model.specs.Statements.{SoundGraph}
use Rattle.laws.proofs.Cycles.{works, cycle_allotment}
use Rattle.laws.proofs.Placement.{cycle_placed}
use Rattle.memory.specs.Parts.{Parts, with_ends, SamePlan}
use Rattle.memory.specs.Words.{Numbers}
use Rattle.memory.specs.Graphs.{graph}
use Rattle.memory.specs.View.{walk, front_at, size_at, view}
use Rattle.memory.specs.Sound.{Sizes, Lawful, Kept, Sound}
use Rattle.memory.specs.Cycles.{after_work, Grown}
use Rattle.memory.proofs.Walks.{walk_front}
use Rattle.memory.proofs.Views.{deque_at_is, worker_at, workers_shown}
use Rattle.work.specs.Works.{Worked}
use Rattle.turn.specs.Turns.{ChoiceTurn, Cycled}

lawful_cycle : (its_graph : Graph) (e : Execution) (w choice : ℕ) → SoundGraph its_graph → Lawful its_graph e → w < length e.deques →
    Lawful its_graph (cycle its_graph w choice e)
lawful_cycle its_graph e w choice sound l here =
    record {
      placed = cycle_placed sound l.placed w choice here;
      few_workers = rw (cycle_allotment its_graph w choice e) l.few_workers;
    }

-- ---- sound parts and numbers, and a worker of them

module _ {p : Parts} {m : Numbers} {w choice : ℕ} (turn : ChoiceTurn p m w choice) where
  abbrev its_graph : Graph
  its_graph = graph p m.tasks

  abbrev e : Execution
  e = view p m

  abbrev sound : Sound p m
  sound = turn.turn.sound

  pub few_workers : m.workers ≤ 64
  few_workers = omega (arith, sound.lawful.few_workers, workers_shown p.next p.ends m.workers)

  pub worker_place : w < 64
  worker_place = omega (arith, few_workers, turn.turn.worker)

  pub choice_place : choice < 64
  choice_place = omega (arith, few_workers, turn.chosen)

  own_tasks : deque_of e w ≡ walk p.next (get_or p.ends (front_at w) 0) (get_or p.ends (size_at w) 0)
  own_tasks = worker_at p.next p.ends m.workers w turn.turn.worker ∙ deque_at_is p.next p.ends w

  -- what shows the model's cycle is sound
  cycled : {p' : Parts} {m' : Numbers} → view p' m' ≡ cycle its_graph w choice e → SamePlan p p' → Sizes p' → Kept its_graph p' m' →
      Grown 1 m m' → m'.waiting + m'.mugs ≡ m.waiting + m.mugs → Cycled p m w choice p' m'
  cycled {p'} {m'} shows same sizes kept grown mugged =
      let same_graph : graph p' m'.tasks ≡ its_graph = rw (same.same_first, same.same_second, grown.same_tasks) in
      record {
        shows = shows;
        sound =
            record {
              sizes = sizes;
              few_tasks = rw grown.same_tasks sound.few_tasks;
              planned = subst SoundGraph (sym same_graph) sound.planned;
              lawful =
                  rw shows
                  (subst (λ (g : Graph). Lawful g (cycle its_graph w choice e)) (sym same_graph)
                  (lawful_cycle its_graph e w choice sound.planned sound.lawful
                  (rw (workers_shown p.next p.ends m.workers) turn.turn.worker)));
              kept = subst (λ (g : Graph). Kept g p' m') (sym same_graph) kept;
            };
        grown = grown;
        mugged = mugged;
        same_plan = same;
      }

  -- ---- work

  pub cycled_work : {p' : Parts} {completed : ℕ} → 0 < get_or p.ends (size_at w) 0 → Worked p m w p' completed →
      Cycled p m w choice p' (after_work completed m)
  cycled_work some r =
      let front = get_or p.ends (front_at w) 0 in
      let size = get_or p.ends (size_at w) 0 in
      cycled
      (r.shows
      ∙ sym (works its_graph w choice e front (walk p.next (get_or p.next front 0) (size - 1))
      (own_tasks ∙ walk_front p.next front size some)))
      r.same_plan
      r.sizes
      r.kept
      (search rules)
      refl

  -- ---- no work: the worker's own deque is empty, and only the deques' ends move

  pub own_empty : get_or p.ends (size_at w) 0 ≡ 0 → deque_of e w ≡ []
  unfolding walk
  own_empty none = own_tasks ∙ rw none

  pub cycled_idle : {ends : List ℕ} {m' : Numbers} → view (with_ends p ends) m' ≡ cycle its_graph w choice e → length ends ≡ 256 →
      m'.done ≡ m.done → m'.head < 64 → Grown 1 m m' → m'.waiting + m'.mugs ≡ m.waiting + m.mugs →
      Cycled p m w choice (with_ends p ends) m'
  cycled_idle shows places done inside grown mugged =
      let s = sound.sizes in
      cycled
      shows
      (record { same_first = refl; same_second = refl; same_ticks = λ t. refl })
      (record { firsts = s.firsts; seconds = s.seconds; links = s.links; numbers = s.numbers; places = places; ticks = s.ticks })
      (record {
        pending_right = rw grown.same_tasks sound.kept.pending_right;
        done_right = rw grown.same_tasks (done ∙ sound.kept.done_right);
        head_in_ring = inside;
      })
      grown
      mugged
