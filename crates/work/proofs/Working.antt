-- A work cycle: the front task has one tick less. If that was its last, its successors are counted down and those that became ready are
-- pushed; the parts then show the model's step, and the numbers of predecessors are right again. So first of the parts, then of the memory
-- that the code reads and writes.
use mathlib.Core.Path.{◌≡◌, refl, sym, ap, ◌∙◌}
use mathlib.Core.Bool.{Bool, true, false}
use mathlib.Core.List.{List, [], ◌∷◌, ◌++◌, tail, Memᴰ}
use Prim.Native.Nat.{ℕ, zero, suc, ◌+◌, ◌-◌, ◌%◌, ◌≤◌, ◌<◌}
use native.Mathlib.Omega.{arith}
use lib.Dec.{eqb, leb}
use lib.ListN.{length, get_or, set, length-set}
use lib.Seq.{get_or-set_same, get_or-set_other, set-get_or}
use borrow.Author.Tests.{eqb-true, eqb-false, ne_eqb, lt-leb}
use Rattle.model.specs.Tests.{member, occurrences, zeros}
use Rattle.model.specs.Plan.{Graph, tasks, successors_of}
use Rattle.model.specs.Machine.{Execution, deque_of, ready, released, one_tick_less, worked_deque, work_cycle}
use Rattle.laws.specs.Invariants.{Placed}
use Rattle.lists.proofs.Ranges.{keep_cong}
use Rattle.lists.proofs.Lists.{member_is, is_member, count_set_more}
use Rattle.laws.proofs.Deques.{no_member, one_deque}
use Rattle.laws.proofs.Readiness.{Waits, above, inside, successor_once}
use Rattle.laws.specs.Awaited.{completed}
use Rattle.laws.proofs.WorkTicks.{some_left, with_more_left, with_one_left}
use Rattle.laws.proofs.Placement.{flags_of, front_waits, released_stand_nowhere}
use Rattle.laws.proofs.Awaiting.{awaits_none, successor_awaits, other_awaits}
use Rattle.laws.proofs.Bounds.{worker_length}
use Rattle.memory.specs.declared.Deque.{Deque}
use Rattle.memory.specs.Parts.{Parts, parts, span, ticks_at, left_at}
use Rattle.memory.specs.Words.{Numbers}
use Rattle.memory.specs.Graphs.{shown, successors_at, graph}
use Rattle.memory.specs.View.{tasks_of, ends_at, front_at, size_at, put_deque, put_part, deque_at, deques_view, ring_place, muggable_view}
use Rattle.memory.specs.View.{left_view, view}
use Rattle.memory.specs.Sound.{Kept, Sound, awaited, worked_in}
use Rattle.memory.specs.Cycles.{after_work}
use Rattle.memory.proofs.Executions.{same_execution, work_counted}
use Rattle.memory.proofs.Regions.{first_at, second_at, next_at, spans_at, store_spans, put_stored, front_stored}
use Rattle.memory.proofs.Walks.{walk_front}
use Rattle.lists.proofs.Tables.{table_set}
use Rattle.memory.proofs.Views.{deque_at_is, deque_length, worker_at, workers_shown, muggable_at, left_shown, left_here, flags_shown}
use Rattle.memory.proofs.Views.{tasks_shown, successors_shown, put_places, put_deques, put_muggable, links_deques, links_muggable}
use Rattle.deque.specs.Releasing.{AllReleasable, AllReleased, last_awaited}
use Rattle.deque.proofs.Releases.{all_none, less_length, less_at}
use Rattle.deque.proofs.Stores.{one_inside, one_awaits, one_later, one_now}
use Rattle.work.specs.Works.{WorkTurn, Worked, LastTick, front_task, one_tick_off}

-- what stands nowhere in a deque stands nowhere behind its front
behind : (s x : ℕ) (xs : List ℕ) → occurrences s (x ∷ xs) ≡ 0 → occurrences s xs ≡ 0
unfolding occurrences
behind s x xs h = omega arith

-- one below two tests as none
one_more : (n : ℕ) → leb (n + 1) 1 ≡ eqb n 0
one_more zero = refl
one_more (suc n) = lt-leb (suc n + 1) 1 (omega arith) ∙ sym (ne_eqb (suc n) 0 (λ e. omega arith))

module _ {p : Parts} {m : Numbers} {w : ℕ} (turn : WorkTurn p m w) where
  abbrev its_graph : Graph
  its_graph = graph p m.tasks

  abbrev e : Execution
  e = view p m

  abbrev next : List ℕ
  next = p.next

  abbrev ends : List ℕ
  ends = p.ends

  abbrev pending : List ℕ
  pending = p.pending

  abbrev sound : Sound p m
  sound = turn.turn.sound

  abbrev placed : Placed its_graph e
  placed = sound.lawful.placed

  -- the front task
  abbrev t : ℕ
  t = get_or ends (front_at w) 0

  -- its fields, and the deque behind it
  abbrev one : ℕ
  one = get_or p.first t 0

  abbrev two : ℕ
  two = get_or p.second t 0

  abbrev rest : Deque
  rest = record { front = get_or next t 0; size = get_or ends (size_at w) 0 - 1 }

  abbrev succs : List ℕ
  succs = successors_of its_graph t

  -- the parts in which it has one tick less
  abbrev ticked : Parts
  ticked = one_tick_off p t

  -- the ticks left, and the worked tasks
  abbrev left : List ℕ
  left = left_view p.spans m.tasks

  abbrev worked : List Bool
  worked = worked_in p m

  few_workers : m.workers ≤ 64
  few_workers = omega (arith, sound.lawful.few_workers, workers_shown next ends m.workers)

  pub worker_place : w < 64
  worker_place = omega (arith, few_workers, turn.turn.worker)

  place : w < 128
  place = omega (arith, worker_place)

  own_walk : deque_at next ends w ≡ t ∷ tasks_of next rest
  own_walk = deque_at_is next ends w ∙ walk_front next t (get_or ends (size_at w) 0) turn.filled

  own : deque_of e w ≡ t ∷ tasks_of next rest
  own = worker_at next ends m.workers w turn.turn.worker ∙ own_walk

  front : Waits its_graph worked t
  front = front_waits placed w t (tasks_of next rest) own

  t_of_plan : t < tasks its_graph
  t_of_plan = front.of_plan

  t_inside : t < m.tasks
  t_inside = omega (arith, front.of_plan, tasks_shown p.first p.second m.tasks)

  front_inside : t < 1024
  front_inside = omega (arith, t_inside, sound.few_tasks)

  front_size : get_or ends (size_at w) 0 ≤ 1024
  front_size =
      let own_length = ap length (worker_at next ends m.workers w turn.turn.worker) in
      omega (arith, worker_length placed w, deque_length next ends w, tasks_shown p.first p.second m.tasks, sound.few_tasks)

  flag : t < length worked
  flag = omega (arith, flags_shown p.spans m.tasks, t_inside)

  entry : t < length left
  entry = omega (arith, left_shown p.spans m.tasks, t_inside)

  left_now : get_or left t 0 ≡ left_at p.spans t
  left_now = left_here p.spans m.tasks t t_inside

  some_left_at : 1 ≤ left_at p.spans t
  some_left_at = omega (arith, some_left left t entry front.unworked, left_now)

  -- ---- one tick less

  span_now : get_or ticked.spans t 0 ≡ get_or p.spans t 0 - 1
  span_now = get_or-set_same p.spans t (get_or p.spans t 0 - 1) 0 (rw sound.sizes.ticks front_inside)

  span_other : (x : ℕ) → (x ≡ t → ⊥) → get_or ticked.spans x 0 ≡ get_or p.spans x 0
  span_other x ne = get_or-set_other p.spans t x (get_or p.spans t 0 - 1) 0 ne

  left_after : left_view ticked.spans m.tasks ≡ one_tick_less t left
  unfolding left_view
  left_after =
      table_set (left_at p.spans) (left_at ticked.spans) m.tasks t (get_or left t 0 - 1) t_inside
      (rw span_now (omega (arith, left_now, some_left_at)))
      (λ x l ne. rw (span_other x ne))

  ticks_same : (x : ℕ) → ticks_at ticked.spans x ≡ ticks_at p.spans x
  ticks_same x = go (eqb x t) refl
    where
      go : (b : Bool) → eqb x t ≡ b → ticks_at ticked.spans x ≡ ticks_at p.spans x
      go true e = rw (eqb-true x t e, span_now) (omega (arith, some_left_at))
      go false e = rw (span_other x (eqb-false x t e))

  ticked_length : length ticked.spans ≡ 1024
  ticked_length = length-set p.spans t (get_or p.spans t 0 - 1) ∙ sound.sizes.ticks

  -- ---- it was not the last

  module _ (more : 2 ≤ left_at p.spans t) where
    stays : (zeros (one_tick_less t left) ≡ worked) × (worked_deque its_graph (one_tick_less t left) t (deque_of e w) ≡ deque_of e w)
    stays = with_more_left its_graph left t (deque_of e w) entry front.unworked (omega (arith, left_now))

    goes_on : Worked p m w ticked 0
    unfolding work_cycle
    goes_on =
        let same_flags : worked_in ticked m ≡ worked = ap zeros left_after ∙ stays.0 in
        record {
          one_at_most = omega arith;
          sizes =
              record {
                firsts = sound.sizes.firsts;
                seconds = sound.sizes.seconds;
                links = sound.sizes.links;
                numbers = sound.sizes.numbers;
                places = sound.sizes.places;
                ticks = ticked_length;
              };
          kept =
              record {
                pending_right = λ x l. rw same_flags (sound.kept.pending_right x l);
                done_right = rw same_flags (omega (arith, sound.kept.done_right));
                head_in_ring = sound.kept.head_in_ring;
              };
          shows =
              same_execution left_after (sym (ap (set e.deques w) stays.1 ∙ set-get_or e.deques w [])) refl (work_counted 0 m);
          same_plan = record { same_first = refl; same_second = refl; same_ticks = ticks_same };
        }

  -- its successors are those of its fields
  fields : succs ≡ shown one two
  unfolding successors_at
  fields = successors_shown p.first p.second m.tasks t t_inside

  -- ---- a successor

  module _ (s : ℕ) (mem : Memᴰ s succs) where
    is_successor : member s succs ≡ true
    is_successor = member_is s succs mem

    s_inside : s < m.tasks
    s_inside = omega (arith, inside sound.planned t s t_of_plan is_successor, tasks_shown p.first p.second m.tasks)

    s_apart : s ≡ t → ⊥
    s_apart q = omega (arith, above sound.planned t s t_of_plan is_successor)

    s_awaits : get_or pending s 0 ≡ awaited its_graph (set worked t true) s + 1
    unfolding awaited
    s_awaits =
        let one_less = successor_awaits its_graph worked t t_of_plan (flags_of placed) front.unworked s is_successor in
        omega (arith, sound.kept.pending_right s s_inside)

    nowhere_worker : (i : ℕ) → i < m.workers → occurrences s (deque_at next ends i) ≡ 0
    nowhere_worker i l =
        let none = (released_stand_nowhere placed t t_of_plan front.unworked s mem).0 in
        let one : occurrences s (get_or (deques_view next ends m.workers) i []) ≡ 0 =
        omega (arith, none, one_deque s (deques_view next ends m.workers) i) in
        rw (worker_at next ends m.workers i l) at one

    nowhere_muggable : (i : ℕ) → i < m.waiting → occurrences s (deque_at next ends (ring_place m.head i)) ≡ 0
    nowhere_muggable i l =
        let none = (released_stand_nowhere placed t t_of_plan front.unworked s mem).1 in
        let one : occurrences s (get_or (muggable_view next ends m.head m.waiting) i []) ≡ 0 =
        omega (arith, none, one_deque s (muggable_view next ends m.head m.waiting) i) in
        rw (muggable_at next ends m.head m.waiting i l) at one

    nowhere_behind : occurrences s (tasks_of next rest) ≡ 0
    nowhere_behind = behind s t (tasks_of next rest) (rw own_walk at (nowhere_worker w turn.turn.worker))

  -- a successor by its field
  shown_successor : (s : ℕ) → Memᴰ s (shown one two) → Memᴰ s succs
  shown_successor s mem = rw fields mem

  apart_fields : (one ≡ 0 → ⊥) → one ≡ two → ⊥
  unfolding shown
  apart_fields nz q =
      sound.planned.apart t one two t_of_plan (fields ∙ rw (ne_eqb one 0 nz, ne_eqb two 0 (λ z. nz (q ∙ z)))) q

  releasable : AllReleasable ticked one two rest
  releasable =
      record {
        numbers = sound.sizes.numbers;
        links = sound.sizes.links;
        inside = λ s mem. omega (arith, s_inside s (shown_successor s mem), sound.few_tasks);
        apart = apart_fields;
        awaits = λ s mem. rw (s_awaits s (shown_successor s mem)) (omega arith);
        elsewhere = λ s mem. nowhere_behind s (shown_successor s mem);
        room = omega (arith, front_size, turn.filled);
      }

  -- ---- it was the last, after the release

  module _ (last : left_at p.spans t ≡ 1) {p' : Parts} {after : Deque} (r : AllReleased ticked one two rest p' after) where
    leaves : (zeros (one_tick_less t left) ≡ set worked t true)
        × (worked_deque its_graph (one_tick_less t left) t (deque_of e w)
        ≡ released its_graph (completed t worked) t ++ tail (deque_of e w))
    leaves = with_one_left its_graph left t (deque_of e w) entry front.unworked (left_now ∙ last)

    left_then : left_view p'.spans m.tasks ≡ one_tick_less t left
    left_then = rw r.rest.same_spans left_after

    flags_after : worked_in p' m ≡ set worked t true
    flags_after = ap zeros left_then ∙ leaves.0

    -- each number, after the successors were counted down
    number_after : (x : ℕ) → get_or p'.pending x 0 ≡ get_or pending x 0 - occurrences x succs
    number_after x =
        rw (r.counted, fields)
        (less_at pending (shown one two) (λ s mem. omega (arith, releasable.inside s mem, releasable.numbers)) x)

    -- ---- the numbers of predecessors are right again

    right_at : (x : ℕ) → x < m.tasks → (b : Bool) → member x succs ≡ b → get_or p'.pending x 0 ≡ awaited its_graph (set worked t true) x
    unfolding awaited
    right_at x l true is =
        let once = successor_once sound.planned t x t_of_plan is in
        omega (arith, number_after x, s_awaits x (is_member x succs is))
    right_at x l false is =
        let as_many = other_awaits its_graph worked t t_of_plan (flags_of placed) front.unworked x is in
        omega (arith, number_after x, no_member x succs is, sound.kept.pending_right x l)

    kept_after : Kept its_graph (put_part p' w after) (after_work 1 m)
    kept_after =
        record {
          pending_right = λ x l. rw flags_after (right_at x l (member x succs) refl);
          done_right = rw (flags_after, count_set_more worked t flag front.unworked) (omega (arith, sound.kept.done_right));
          head_in_ring = sound.kept.head_in_ring;
        }

    -- ---- what the parts show

    came_ready : (s : ℕ) → Memᴰ s succs → last_awaited pending s ≡ ready its_graph (set worked t true) s
    unfolding awaited
    came_ready s mem =
        rw (s_awaits s mem, ← awaits_none its_graph (set worked t true) s)
        (one_more (awaited its_graph (set worked t true) s))

    own_after : tasks_of p'.next after ≡ released its_graph (completed t worked) t ++ tail (deque_of e w)
    unfolding released
    own_after =
        r.pushed
        ∙ rw (
          ← fields,
          own,
          keep_cong (last_awaited pending) (ready its_graph (set worked t true)) succs came_ready,
        )

    undisturbed : (q : ℕ) → ((s : ℕ) → Memᴰ s succs → occurrences s (deque_at next ends q) ≡ 0) →
        deque_at p'.next ends q ≡ deque_at next ends q
    undisturbed q nowhere =
        deque_at_is p'.next ends q
        ∙ r.undisturbed (get_or ends (front_at q) 0) (get_or ends (size_at q) 0)
        (λ s mem. rw (← deque_at_is next ends q) (nowhere s (shown_successor s mem)))
        ∙ sym (deque_at_is next ends q)

    deques_after : deques_view p'.next (put_deque ends w after) m.workers
        ≡ set (deques_view next ends m.workers) w (released its_graph (completed t worked) t ++ tail (deque_of e w))
    deques_after =
        put_deques p'.next ends sound.sizes.places w place after m.workers turn.turn.worker few_workers
        ∙ rw (links_deques next p'.next ends m.workers (λ i l. undisturbed i (λ s mem. nowhere_worker s mem i l)), own_after)

    muggable_after : muggable_view p'.next (put_deque ends w after) m.head m.waiting
        ≡ muggable_view next ends m.head m.waiting
    muggable_after =
        put_muggable p'.next ends sound.sizes.places w place after worker_place m.head m.waiting
        ∙ links_muggable next p'.next ends m.head m.waiting
        (λ i l. undisturbed (ring_place m.head i) (λ s mem. nowhere_muggable s mem i l))

    work_done : Worked p m w (put_part p' w after) 1
    unfolding work_cycle
    work_done =
        record {
          one_at_most = omega arith;
          sizes =
              record {
                firsts = ap length r.rest.same_first ∙ sound.sizes.firsts;
                seconds = ap length r.rest.same_second ∙ sound.sizes.seconds;
                links = r.same_links ∙ sound.sizes.links;
                numbers = ap length r.counted ∙ less_length pending (shown one two) ∙ sound.sizes.numbers;
                places = rw r.rest.same_ends (put_places p'.next ends sound.sizes.places w place after);
                ticks = ap length r.rest.same_spans ∙ ticked_length;
              };
          kept = kept_after;
          shows =
              rw r.rest.same_ends
              (same_execution left_then (deques_after ∙ ap (set e.deques w) (sym leaves.1)) muggable_after (work_counted 1 m));
          same_plan =
              record {
                same_first = r.rest.same_first;
                same_second = r.rest.same_second;
                same_ticks = rw r.rest.same_spans ticks_same;
              };
        }

-- ---- in a memory, a tick

-- the worker's deque, as it is read
module _ (memory : List ℕ) {m : Numbers} {w : ℕ} (turn : WorkTurn (parts memory) m w) {own : Deque}
    (reads : own ≡ ends_at (parts memory).ends w) where
  -- the front task
  abbrev task : ℕ
  task = own.front

  here : task ≡ front_task (parts memory) w
  here = ap (λ (d : Deque). d.front) reads

  pub task_inside : task < 1024
  task_inside = rw here (front_inside turn)

  abbrev its_span : ℕ
  its_span = get_or memory (4352 + task) 0

  span_read : its_span ≡ get_or (parts memory).spans task 0
  span_read = spans_at memory task task_inside

  left_read : its_span % span ≡ left_at (parts memory).spans task
  left_read = rw span_read

  pub span_some : 1 ≤ its_span
  span_some = omega (arith, left_read, rw (← here) at (some_left_at turn))

  abbrev stored : List ℕ
  stored = set memory (4352 + task) (its_span - 1)

  tick_stored : parts stored ≡ one_tick_off (parts memory) task
  tick_stored = store_spans memory task (its_span - 1) task_inside ∙ rw span_read

  pub more_ticks : (its_span % span ≡ 1 → ⊥) → Worked (parts memory) m w (parts stored) 0
  more_ticks ne =
      let some = some_left_at turn in
      let more : 2 ≤ left_at (parts memory).spans (front_task (parts memory) w) = omega (arith, rw here at left_read, rw here at ne) in
      rw (tick_stored, here) (goes_on turn more)

  pub last_ticked : its_span % span ≡ 1 → LastTick (parts memory) m w task own.size (parts stored)
  last_ticked one =
      record {
        turn = turn;
        in_front = here;
        its_size = ap (λ (d : Deque). d.size) reads;
        last = sym left_read ∙ one;
        ticked = tick_stored;
      }

-- ---- in a memory, the completion

module _ (memory : List ℕ) {p : Parts} {m : Numbers} {w task size : ℕ} (ended : LastTick p m w task size (parts memory)) where
  turn : WorkTurn p m w
  turn = ended.turn

  ends_same : (parts memory).ends ≡ p.ends
  ends_same = ap (λ (q : Parts). q.ends) ended.ticked

  pub worker_here : w < 64
  worker_here = worker_place turn

  pub task_here : task < 1024
  task_here = rw ended.in_front (front_inside turn)

  pub own_filled : 1 ≤ size
  own_filled = rw ended.its_size turn.filled

  -- the fields that the task shows, and the deque behind the front
  abbrev first_field : ℕ
  first_field = get_or memory task 0

  abbrev second_field : ℕ
  second_field = get_or memory (1024 + task) 0

  abbrev others : Deque
  others = record { front = get_or memory (2048 + task) 0; size = size - 1 }

  one_read : first_field ≡ get_or p.first task 0
  one_read = first_at memory task task_here ∙ ap (λ (q : Parts). get_or q.first task 0) ended.ticked

  two_read : second_field ≡ get_or p.second task 0
  two_read = second_at memory task task_here ∙ ap (λ (q : Parts). get_or q.second task 0) ended.ticked

  rest_read : get_or memory (2048 + task) 0 ≡ get_or p.next task 0
  rest_read = next_at memory task task_here ∙ ap (λ (q : Parts). get_or q.next task 0) ended.ticked

  pub all_releasable : AllReleasable (parts memory) first_field second_field others
  all_releasable = rw (one_read, two_read, rest_read, ended.ticked, ended.its_size, ended.in_front) (releasable turn)

  pub done : {p' p'' : Parts} {after : Deque} → AllReleased (parts memory) first_field second_field others p' after →
      p'' ≡ put_part p' w after → Worked p m w p'' 1
  done r put =
      rw put
      (work_done turn (rw (← ended.in_front) ended.last)
      (rw (one_read, two_read, rest_read, ended.ticked, ended.its_size, ended.in_front) at r))

  -- the deque without its front
  abbrev behind_front : List ℕ → List ℕ
  behind_front memory' = set (set memory' (4096 + front_at w) others.front) (4096 + size_at w) others.size

  pub done_none : first_field ≡ 0 → Worked p m w (parts (behind_front memory)) 1
  done_none z = done (all_none _ _ _ _ z) (put_stored memory w others (place turn))

  module _ (alone : second_field ≡ 0) (nz : first_field ≡ 0 → ⊥) where
    pub one_fits : first_field < 1024
    one_fits = one_inside memory all_releasable alone nz

    pub one_waits : 1 ≤ get_or memory (3072 + first_field) 0
    one_waits = one_awaits memory all_releasable alone nz

    abbrev lessened : List ℕ
    lessened = set memory (3072 + first_field) (get_or memory (3072 + first_field) 0 - 1)

    pub done_later : (get_or memory (3072 + first_field) 0 ≡ 1 → ⊥) → Worked p m w (parts (behind_front lessened)) 1
    done_later more = done (one_later memory all_releasable alone nz more) (put_stored lessened w others (place turn))

    pub done_now : get_or memory (3072 + first_field) 0 ≡ 1 →
        Worked p m w (parts (set (set lessened (2048 + first_field) others.front) (4096 + front_at w) first_field)) 1
    done_now last =
        let r = one_now memory all_releasable alone nz last in
        let kept : get_or (parts (set lessened (2048 + first_field) others.front)).ends (size_at w) 0 ≡ others.size + 1 =
        rw (r.rest.same_ends, ends_same, ← ended.its_size) (omega (arith, own_filled)) in
        done r (front_stored (set lessened (2048 + first_field) others.front) w first_field (others.size + 1) (place turn) kept)

-- the places that a tick and a completion read and write are in the memory, and what they count down is above 0
pub ruleset tick_in_place = (worker_place, task_inside, span_some)

pub ruleset completion_in_place = (worker_here, task_here, own_filled, one_fits, one_waits)
