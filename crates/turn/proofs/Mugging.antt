-- A mug cycle: the oldest muggable deque's front and size at the worker's place, and the ring's head one further on, show the model's step.
use mathlib.Core.Path.{◌≡◌, refl, sym, ap, ◌∙◌}
use mathlib.Core.List.{List, ◌∷◌, tail}
use Prim.Native.Nat.{ℕ, suc, ◌+◌, ◌-◌, ◌%◌, ◌<◌}
use native.Mathlib.Omega.{arith}
use lib.ListN.{get_or, set}
use borrow.Author.Rules.{rules}
use Rattle.model.specs.Machine.{mug_cycle}
use Rattle.laws.proofs.Cycles.{mugs}
use Rattle.memory.specs.Parts.{Parts}
use Rattle.memory.specs.Words.{Numbers}
use Rattle.memory.specs.Graphs.{graph}
use Rattle.memory.specs.View.{size_at, ends_at, put_part, deque_at, deques_view, muggable_view, view}
use Rattle.memory.specs.Cycles.{after_mug}
use Rattle.memory.proofs.Executions.{same_execution, mug_counted}
use Rattle.memory.proofs.Views.{deque_at_is, put_places, put_deques, put_muggable, ring_tail}
use Rattle.turn.specs.Turns.{ChoiceTurn, Cycled}
use Rattle.turn.proofs.Cycling.{few_workers, worker_place, own_empty, cycled_idle}

module _ {p : Parts} {m : Numbers} {w choice : ℕ} (turn : ChoiceTurn p m w choice) (some : 0 < m.waiting) where
  abbrev oldest : ℕ
  oldest = 64 + m.head

  abbrev others : List (List ℕ)
  others = muggable_view p.next p.ends ((m.head + 1) % 64) (m.waiting - 1)

  muggable_is : (view p m).muggable ≡ deque_at p.next p.ends oldest ∷ others
  muggable_is =
      let more : m.waiting ≡ suc (m.waiting - 1) = omega arith in
      ap (muggable_view p.next p.ends m.head) more
      ∙ ring_tail p.next p.ends m.head ((m.head + 1) % 64) (m.waiting - 1) turn.turn.sound.kept.head_in_ring refl

  mug_shows : view (put_part p w (ends_at p.ends oldest)) (after_mug m) ≡ mug_cycle w (deque_at p.next p.ends oldest) (view p m)
  unfolding mug_cycle
  mug_shows =
      let places = turn.turn.sound.sizes.places in
      let worker = worker_place turn in
      let place : w < 128 = omega arith in
      same_execution
      refl
      (put_deques p.next p.ends places w place (ends_at p.ends oldest) m.workers turn.turn.worker (few_workers turn)
      ∙ ap (set (deques_view p.next p.ends m.workers) w) (sym (deque_at_is p.next p.ends oldest)))
      (put_muggable p.next p.ends places w place (ends_at p.ends oldest) worker ((m.head + 1) % 64) (m.waiting - 1)
      ∙ sym (ap tail muggable_is))
      (mug_counted m)

  pub cycled_mug : get_or p.ends (size_at w) 0 ≡ 0 → Cycled p m w choice (put_part p w (ends_at p.ends oldest)) (after_mug m)
  cycled_mug empty =
      let place : w < 128 = omega (arith, worker_place turn) in
      cycled_idle turn
      (mug_shows
      ∙ sym (mugs (graph p m.tasks) w choice (view p m) (deque_at p.next p.ends oldest) others (own_empty turn empty) muggable_is))
      (put_places p.next p.ends turn.turn.sound.sizes.places w place (ends_at p.ends oldest))
      refl
      (omega arith)
      (search rules)
      (omega arith)
