-- Where the tasks stand: a task stands in a deque or a muggable deque exactly when it is ready and not worked, and then once. What a caller
-- can read from that (`stands`, `absent-..`, `released_stand_nowhere`, ..), and that a worker's cycle and a whole tick's cycles keep it. Of
-- a finished job none stands anywhere, so that a worker's turn is its own cycle at all times (`turn_is_cycle`).
-- Assumes nothing.
use mathlib.Core.Path.{◌≡◌, refl, sym, ap, ◌∙◌}
use mathlib.Core.Bool.{Bool, true, false, cond, not, ◌&&◌}
use mathlib.Core.List.{List, [], ◌∷◌, ◌++◌, tail, Memᴰ}
use Prim.Native.Nat.{ℕ, ◌+◌, ◌-◌, ◌≤◌, ◌<◌}
use native.Mathlib.Omega.{arith}
use lib.Dec.{eqb}
use lib.ListN.{length, get_or, set, length-set}
use lib.Seq.{get_or-set_same, get_or-set_other, lt-length-set}
use borrow.Author.Tests.{eqb-true, eqb-false, lt-ltb}
use Rattle.model.specs.Tests.{every, keep, is_empty, member, occurrences}
use Rattle.model.specs.Plan.{Graph, tasks, successors_of}
use Rattle.model.specs.Machine.{worked, Execution, deque_of, ready, released, left_by_steal, taken_by_steal, work_cycle, mug_cycle}
use Rattle.model.specs.Machine.{one_tick_less, successful_steal, failed_steal, cycle, turn, cycles, finished}
use Rattle.model.specs.Statements.{SoundGraph}
use Rattle.laws.specs.Awaited.{completed}
use Rattle.laws.specs.Invariants.{in_deques, waiting_work, Placed, Tallied}
use Rattle.lists.proofs.Tests.{true_is_not_false, not_true_is_false, one_or_none, is_one, and_right}
use Rattle.lists.proofs.Lists.{member_is, all_set_at}
use Rattle.lists.proofs.Sums.{zeros_length, total_set}
use Rattle.laws.proofs.Deques.{occurrences_append, occurrences_keep, occurs, no_member, in_deques_set, one_deque}
use Rattle.laws.proofs.Stealing.{left_then_taken, apart, victim_within}
use Rattle.laws.proofs.Readiness.{ready_elsewhere, ready_kept, not_ready, above, inside, successor_once, Waits, waits}
use Rattle.laws.proofs.Readiness.{is_waiting, not_waiting_worked, not_waiting_unready}
use Rattle.laws.proofs.WorkTicks.{WorkTick, goes_on, completes, work_tick, some_left}
use Rattle.laws.proofs.Cycles.{cycle_cases, fails, turn_unfinished, turn_finished, cycles_keep}

-- ---- what a placed execution tells

-- how often a task stands in all deques
abbrev pub standing : ℕ → Execution → ℕ
standing t e = in_deques t e.deques + in_deques t e.muggable

module _ {graph : Graph} {e : Execution} (placed : Placed graph e) where
  -- a flag for each task
  pub flags_of : length (worked e) ≡ tasks graph
  flags_of = zeros_length e.left ∙ placed.each_left

  pub standing_once : (t : ℕ) → standing t e ≤ 1
  standing_once t = omega (arith, placed.once t, one_or_none (waiting_work graph (worked e) t))

  -- a task that stands in a deque is one of the plan, ready and unworked
  pub stands : (t : ℕ) → 1 ≤ standing t e → Waits graph (worked e) t
  stands t h = waits graph (worked e) t (is_one (waiting_work graph (worked e) t) (omega (arith, placed.once t)))

  pub waiting_stands : (t : ℕ) → Waits graph (worked e) t → standing t e ≡ 1
  waiting_stands t h = placed.once t ∙ ap (λ (b : Bool). cond b 1 0) (is_waiting graph (worked e) t h)

  -- a task in a worker's deque
  pub worker_has : (t w : ℕ) → Memᴰ t (deque_of e w) → Waits graph (worked e) t
  worker_has t w m = stands t (omega (arith, occurs t (deque_of e w) m, one_deque t e.deques w))

  pub front_waits : (w t : ℕ) (rest : List ℕ) → deque_of e w ≡ t ∷ rest → Waits graph (worked e) t
  front_waits w t rest h = worker_has t w (rw h (Memᴰ.head refl))

  -- a task that does not wait stands in no deque
  pub absent : (t : ℕ) → waiting_work graph (worked e) t ≡ false → (in_deques t e.deques ≡ 0) × (in_deques t e.muggable ≡ 0)
  absent t h = let none = placed.once t ∙ ap (λ (b : Bool). cond b 1 0) h in (omega arith, omega arith)

  pub absent_unready : (t : ℕ) → ready graph (worked e) t ≡ false → (in_deques t e.deques ≡ 0) × (in_deques t e.muggable ≡ 0)
  absent_unready t h = absent t (not_waiting_unready graph (worked e) t h)

-- ---- the successors of an unworked task

module _ {graph : Graph} {e : Execution} (placed : Placed graph e) (t : ℕ) (l : t < tasks graph)
    (u : get_or (worked e) t false ≡ false) where
  pub successor_unready : (x : ℕ) → member x (successors_of graph t) ≡ true → ready graph (worked e) x ≡ false
  successor_unready x m = not_ready graph (worked e) x t l m u

  pub successor_unworked : (x : ℕ) → member x (successors_of graph t) ≡ true → get_or (worked e) x false ≡ false
  successor_unworked x m =
      not_true_is_false (get_or (worked e) x false) (λ h. true_is_not_false (placed.ordered x h) (successor_unready x m))

  -- so those that its work releases stand in no deque before
  pub released_stand_nowhere : (x : ℕ) → Memᴰ x (successors_of graph t) →
      (in_deques x e.deques ≡ 0) × (in_deques x e.muggable ≡ 0)
  released_stand_nowhere x m = absent_unready placed x (successor_unready x (member_is x (successors_of graph t) m))

-- ---- a work cycle

-- what working t changes of the tasks that wait: t leaves and its released successors come
module _ {graph : Graph} {e : Execution} (sound : SoundGraph graph) (placed : Placed graph e) (t : ℕ)
    (front : Waits graph (worked e) t) where
  after : List Bool
  after = completed t (worked e)

  in_range : t < length (worked e)
  in_range = rw (flags_of placed) front.of_plan

  t_marked : get_or after t false ≡ true
  unfolding after
  t_marked = get_or-set_same (worked e) t true false in_range

  others_marked : (x : ℕ) → eqb x t ≡ false → get_or after x false ≡ get_or (worked e) x false
  unfolding after
  others_marked x ne = get_or-set_other (worked e) t x true false (eqb-false x t ne)

  pub waiting_change : (x : ℕ) →
      cond (waiting_work graph (worked e) x) 1 0 + occurrences x (released graph (completed t (worked e)) t)
      ≡ cond (waiting_work graph (completed t (worked e)) x) 1 0 + cond (eqb x t) 1 0
  unfolding after released waiting_work
  waiting_change x = by_task (eqb x t) refl
    where
      not_own : member t (successors_of graph t) ≡ false
      not_own = not_true_is_false (member t (successors_of graph t)) (λ m. let a = above sound t t front.of_plan m in omega arith)

      zero_anyway : (b : Bool) → ◌≡◌ {A = ℕ} (1 + cond b 0 0) (0 + 1)
      zero_anyway true = refl
      zero_anyway false = refl

      as_ready : (b : Bool) → ◌≡◌ {A = ℕ} (0 + cond b 1 0) (cond (b && true) 1 0 + 0)
      as_ready true = refl
      as_ready false = refl

      zero_more : (n : ℕ) (b : Bool) → ◌≡◌ {A = ℕ} (n + cond b 0 0) (n + 0)
      zero_more n true = refl
      zero_more n false = refl

      by_successor : eqb x t ≡ false → (m : Bool) → member x (successors_of graph t) ≡ m →
          cond (waiting_work graph (worked e) x) 1 0 + occurrences x (keep (ready graph after) (successors_of graph t))
          ≡ cond (waiting_work graph after x) 1 0 + 0
      by_successor ne true m =
          rw (
            occurrences_keep (ready graph after) x (successors_of graph t),
            successor_once sound t x front.of_plan m,
            others_marked x ne,
            successor_unworked placed t front.of_plan front.unworked x m,
            successor_unready placed t front.of_plan front.unworked x m,
            lt-ltb x (tasks graph) (inside sound t x front.of_plan m),
          )
          (as_ready (ready graph after x))
      by_successor ne false m =
          rw (
            occurrences_keep (ready graph after) x (successors_of graph t),
            no_member x (successors_of graph t) m,
            others_marked x ne,
            ready_elsewhere graph (worked e) t x m,
          )
          (zero_more (cond (waiting_work graph (worked e) x) 1 0) (ready graph (worked e) x))

      by_task : (b : Bool) → eqb x t ≡ b →
          cond (waiting_work graph (worked e) x) 1 0 + occurrences x (keep (ready graph after) (successors_of graph t))
          ≡ cond (waiting_work graph after x) 1 0 + cond b 1 0
      by_task true h =
          rw (
            eqb-true x t h,
            occurrences_keep (ready graph after) t (successors_of graph t),
            no_member t (successors_of graph t) not_own,
            is_waiting graph (worked e) t front,
            not_waiting_worked graph after t t_marked,
          )
          (zero_anyway (ready graph after t))
      by_task false h = by_successor h (member x (successors_of graph t)) refl

-- ---- every cycle keeps it

module _ {graph : Graph} {e : Execution} (sound : SoundGraph graph) (placed : Placed graph e) (w : ℕ) (here : w < length e.deques) where
  work_placed : (t : ℕ) (rest : List ℕ) → deque_of e w ≡ t ∷ rest → Placed graph (work_cycle graph w t e)
  unfolding work_cycle occurrences
  work_placed t rest own = go (work_tick graph e.left t (deque_of e w) (rw placed.each_left front.of_plan) front.unworked)
    where
      front : Waits graph (worked e) t
      front = front_waits placed w t rest own

      freed : List ℕ
      freed = released graph (completed t (worked e)) t

      still_each : length (one_tick_less t e.left) ≡ tasks graph
      still_each = length-set e.left t (get_or e.left t 0 - 1) ∙ placed.each_left

      by_task : (x : ℕ) (b : Bool) → eqb x t ≡ b → get_or (completed t (worked e)) x false ≡ true →
          ready graph (completed t (worked e)) x ≡ true
      by_task x true q h = ready_kept graph (worked e) t x (rw (eqb-true x t q) front.is_ready)
      by_task x false q h =
          ready_kept graph (worked e) t x (placed.ordered x (sym (get_or-set_other (worked e) t x true false (eqb-false x t q)) ∙ h))

      go : WorkTick graph e.left t (deque_of e w) → Placed graph (work_cycle graph w t e)
      go (goes_on more flags stays) =
          record {
            each_left = still_each;
            once = λ x. rw (flags, stays) (omega (arith, in_deques_set x e.deques w (deque_of e w) here, placed.once x));
            filled = placed.filled;
            ordered = rw flags placed.ordered;
          }
      go (completes last flags leaves) =
          record {
            each_left = still_each;
            once = λ x.
                let moved = in_deques_set x e.deques w (freed ++ tail (deque_of e w)) here in
                let gone : occurrences x (deque_of e w) ≡ occurrences x (t ∷ rest) = ap (occurrences x) own in
                let kept : occurrences x (tail (deque_of e w)) ≡ occurrences x rest = ap (λ (d : List ℕ). occurrences x (tail d)) own in
                rw (flags, leaves)
                (omega (arith, occurrences_append x freed (tail (deque_of e w)), placed.once x, waiting_change sound placed t front x));
            filled = placed.filled;
            ordered = rw flags (λ x h. by_task x (eqb x t) refl h);
          }

  mug_placed : (oldest : List ℕ) (others : List (List ℕ)) → deque_of e w ≡ [] → e.muggable ≡ oldest ∷ others →
      Placed graph (mug_cycle w oldest e)
  unfolding mug_cycle occurrences in_deques every
  mug_placed oldest others own waiting =
      record {
        each_left = placed.each_left;
        once = λ x.
            let moved = in_deques_set x e.deques w oldest here in
            rw waiting (omega (arith, rw own at moved, rw waiting at (placed.once x)));
        filled = rw waiting (and_right (not (is_empty oldest)) (every (λ d. not (is_empty d)) others) (rw waiting at placed.filled));
        ordered = placed.ordered;
      }

  steal_placed : (choice : ℕ) → deque_of e w ≡ [] → 2 ≤ length (deque_of e choice) → Placed graph (successful_steal w choice e)
  unfolding successful_steal occurrences
  steal_placed choice own two =
      record {
        each_left = placed.each_left;
        once = λ x.
            let robbed = in_deques_set x e.deques choice left (victim_within e w choice own two) in
            let moved = in_deques_set x (set e.deques choice left) w taken (lt-length-set e.deques choice left here) in
            omega (
              arith,
              robbed,
              rw (unrobbed, own) at moved,
              occurrences_append x left taken,
              ap (occurrences x) (left_then_taken (deque_of e choice)),
              placed.once x,
            );
        filled = placed.filled;
        ordered = placed.ordered;
      }
    where
      left : List ℕ
      left = left_by_steal (deque_of e choice)

      taken : List ℕ
      taken = taken_by_steal (deque_of e choice)

      unrobbed : get_or (set e.deques choice left) w [] ≡ get_or e.deques w []
      unrobbed = get_or-set_other e.deques choice w left [] (apart e w choice own two)

-- a steal in vain moves nothing
pub vain_placed : {graph : Graph} {e : Execution} → Placed graph e → Placed graph (failed_steal e)
unfolding failed_steal
vain_placed placed = record { each_left = placed.each_left; once = placed.once; filled = placed.filled; ordered = placed.ordered }

pub cycle_placed : {graph : Graph} {e : Execution} → SoundGraph graph → Placed graph e → (w choice : ℕ) → w < length e.deques →
    Placed graph (cycle graph w choice e)
cycle_placed {graph} {e} sound placed w choice here =
    cycle_cases graph w choice e
    (λ c after. Placed graph after)
    (record {
      working = work_placed sound placed w here;
      mugging = mug_placed sound placed w here;
      stealing = λ own none two. steal_placed sound placed w here choice own two;
      failing = λ own none few. vain_placed placed;
    })

-- ---- a finished job

-- no task stands anywhere, so that the turn of each worker, a steal in vain, is the cycle that it would have taken
module _ {graph : Graph} {e : Execution} (placed : Placed graph e) where
  none_waits : finished e ≡ true → (t : ℕ) → Waits graph (worked e) t → ⊥
  unfolding finished
  none_waits f t here = true_is_not_false (all_set_at (worked e) f t (rw (flags_of placed) here.of_plan)) here.unworked

  no_task : finished e ≡ true → (w : ℕ) → deque_of e w ≡ []
  no_task f w = go (deque_of e w) refl
    where
      go : (d : List ℕ) → deque_of e w ≡ d → d ≡ []
      go [] p = refl
      go (t ∷ rest) p = absurd (none_waits f t (front_waits placed w t rest p))

  no_muggable : finished e ≡ true → e.muggable ≡ []
  unfolding every in_deques
  no_muggable f = go e.muggable refl
    where
      go : (ds : List (List ℕ)) → e.muggable ≡ ds → ds ≡ []
      go [] p = refl
      go ([] ∷ ds) p = absurd (true_is_not_false (rw p at placed.filled) refl)
      go ((t ∷ rest) ∷ ds) p =
          let here = occurs t (t ∷ rest) (Memᴰ.head refl) in
          let many : in_deques t e.muggable ≡ occurrences t (t ∷ rest) + in_deques t ds = ap (in_deques t) p in
          absurd (none_waits f t (stands placed t (omega arith)))

  pub turn_is_cycle : (w choice : ℕ) → turn graph w choice e ≡ cycle graph w choice e
  turn_is_cycle w choice = go (finished e) refl
    where
      go : (b : Bool) → finished e ≡ b → turn graph w choice e ≡ cycle graph w choice e
      go false f = turn_unfinished graph w choice e f
      go true f =
          let few : length (deque_of e choice) ≡ 0 = ap length (no_task f choice) in
          turn_finished graph w choice e f ∙ sym (fails graph w choice e (no_task f w) (no_muggable f) (omega arith))

-- ---- a tick's cycles

pub cycles_placed : {graph : Graph} {e : Execution} → SoundGraph graph → Placed graph e → (w : ℕ) (choices : List ℕ) →
    w + length choices ≤ length e.deques → Placed graph (cycles graph w choices e)
cycles_placed {graph} {e} sound placed w choices h =
    cycles_keep graph (Placed graph) (λ v c before l q. cycle_placed sound q v c l) (λ before q. vain_placed q) choices w e h placed

-- work counts the ticks done
vain_tallied : {durations : List ℕ} {e : Execution} → Tallied durations e → Tallied durations (failed_steal e)
unfolding failed_steal
vain_tallied tallied = record { work_is_ticks = tallied.work_is_ticks }

cycle_tallied : {graph : Graph} {durations : List ℕ} {e : Execution} → Placed graph e → Tallied durations e → (w choice : ℕ) →
    Tallied durations (cycle graph w choice e)
unfolding work_cycle mug_cycle successful_steal
cycle_tallied {graph} {durations} {e} placed tallied w choice =
    cycle_cases graph w choice e
    (λ c after. Tallied durations after)
    (record {
      working = λ t rest own.
          let front = front_waits placed w t rest own in
          let inside : t < length e.left = rw placed.each_left front.of_plan in
          let some = some_left e.left t inside front.unworked in
          record { work_is_ticks = omega (arith, tallied.work_is_ticks, total_set e.left t (get_or e.left t 0 - 1) inside) };
      mugging = λ oldest others own waiting. record { work_is_ticks = tallied.work_is_ticks };
      stealing = λ own none two. record { work_is_ticks = tallied.work_is_ticks };
      failing = λ own none few. vain_tallied tallied;
    })

pub cycles_tallied : {graph : Graph} {durations : List ℕ} {e : Execution} → SoundGraph graph → Placed graph e → Tallied durations e →
    (w : ℕ) (choices : List ℕ) → w + length choices ≤ length e.deques → Tallied durations (cycles graph w choices e)
cycles_tallied {graph} {durations} {e} sound placed tallied w choices h =
    (cycles_keep graph
    (λ after. Placed graph after × Tallied durations after)
    (λ v c before l q. (cycle_placed sound q.0 v c l, cycle_tallied q.0 q.1 v c))
    (λ before q. (vain_placed q.0, vain_tallied q.1))
    choices
    w
    e
    h
    (placed, tallied)
    ).1
