-- A tick's cycles: the model's cycles of all workers are those of the workers that are left, from what memory and words show now.
use mathlib.Core.Path.{◌≡◌, refl, sym, ap, ◌∙◌}
use mathlib.Core.Bool.{Bool, true}
use mathlib.Core.List.{List, [], ◌∷◌}
use Prim.Native.Nat.{ℕ, zero, suc, ◌+◌, ◌≤◌, ◌<◌}
use native.Mathlib.Omega.{arith}
use native.Mathlib.Numerals.{add-one}
use lib.Dec.{ltb}
use lib.ListN.{length, get_or, drop, drop_of_length-le}
use lib.Seq.{drop-cons}
use borrow.Author.Rules.{rules}
use borrow.Author.Tests.{ltb-true}
use Rattle.model.specs.Tests.{every}
use Rattle.model.specs.Plan.{Graph}
use Rattle.model.specs.Machine.{Execution, cycle, cycles}
use Rattle.lists.proofs.Tests.{and_left, and_right}
use Rattle.laws.specs.Invariants.{Placed}
use Rattle.laws.proofs.Placement.{turn_is_cycle}
use Rattle.memory.specs.declared.Deque.{Deque}
use Rattle.memory.specs.Parts.{parts, SamePlan}
use Rattle.memory.specs.Words.{Numbers, numbers_in, SameTail}
use Rattle.memory.specs.Graphs.{graph}
use Rattle.memory.specs.View.{ends_at, view}
use Rattle.memory.specs.Sound.{Sound}
use Rattle.memory.specs.Cycles.{Room, Grown}
use Rattle.memory.proofs.Views.{workers_shown, done_at_most}
use Rattle.memory.proofs.Words.{tail_then}
use Rattle.tally.specs.declared.Tally.{Tally}
use Rattle.tally.specs.Tallies.{no_tally, add_work, numbers_at, Addable, Settled}
use Rattle.tally.proofs.Tallying.{none_added, work_added}
use Rattle.work.specs.Works.{WorkTurn, Worked}
use Rattle.turn.specs.Turns.{ChoiceTurn, Cycled, SameButSuccesses, IdleTurn, Idled, TickTurn, Ticked}
use Rattle.turn.proofs.Cycling.{cycled_work}
use Rattle.turn.proofs.Idling.{same_words}

-- what holds of every element holds of the one at a place
every_place : (test : ℕ → Bool) (xs : List ℕ) (i : ℕ) → every test xs ≡ true → i < length xs → test (get_or xs i 0) ≡ true
unfolding every
every_place test [] i h l = absurd (omega arith)
every_place test (x ∷ xs) zero h l = and_left (test x) (every test xs) h
every_place test (x ∷ xs) (suc i) h l = every_place test xs i (and_right (test x) (every test xs) h) (omega arith)

-- ---- the model's cycles

module _ (its_graph : Graph) (choices : List ℕ) (i : ℕ) (e : Execution) where
  none_left : length choices ≤ i → cycles its_graph i (drop i choices) e ≡ e
  unfolding cycles
  none_left h = rw (drop_of_length-le choices h)

  one_more : i < length choices → Placed its_graph e →
      cycles its_graph i (drop i choices) e ≡ cycles its_graph (suc i) (drop (suc i) choices) (cycle its_graph i (get_or choices i 0) e)
  unfolding cycles
  one_more l placed =
      rw (drop-cons choices i 0 l) (ap (cycles its_graph (suc i) (drop (suc i) choices)) (turn_is_cycle placed i (get_or choices i 0)))

-- ---- frames

grown_none : (m : Numbers) → Grown 0 m m
grown_none m = search rules

grown_then : {a b : ℕ} {m m' m'' : Numbers} → Grown a m m' → Grown b m' m'' → Grown (a + b) m m''
grown_then f g = search rules

grown_more : {a b : ℕ} {m m' : Numbers} → a ≤ b → Grown a m m' → Grown b m m'
grown_more h f = search rules

room_grown : {most more limit : ℕ} {m m' : Numbers} → Room most m → Grown more m m' → most + more ≤ limit → Room limit m'
room_grown r f h = search rules

words_then : {words words' words'' : List ℕ} → SameButSuccesses words words' → SameButSuccesses words' words'' →
    SameButSuccesses words words''
words_then f g = search rules

words_tail : {words words' : List ℕ} → SameButSuccesses words words' → SameTail words words'
words_tail f = search rules

-- ---- a tick under way

-- the first i workers have had their cycles
pub record Underway (memory words choices memory' words' : List ℕ) (t : Tally) (i : ℕ) : Type 0 where
  pub part : i ≤ length choices
  pub shows : cycles (graph (parts memory) (numbers_in words).tasks) 0 choices (view (parts memory) (numbers_in words))
      ≡ cycles (graph (parts memory) (numbers_in words).tasks) i (drop i choices)
      (view (parts memory') (numbers_at (numbers_in words') i t))
  pub sound : Sound (parts memory') (numbers_at (numbers_in words') i t)
  pub grown : Grown i (numbers_in words) (numbers_at (numbers_in words') i t)
  pub mugged : (numbers_at (numbers_in words') i t).waiting + (numbers_at (numbers_in words') i t).mugs
      ≡ (numbers_in words).waiting + (numbers_in words).mugs
  pub same_plan : SamePlan (parts memory) (parts memory')
  pub same_words : SameButSuccesses words words'
  pub counted : t.works.0 + t.mugs.0 ≤ i

module _ {memory words choices : List ℕ} (tick : TickTurn memory words choices) where
  abbrev its_graph : Graph
  its_graph = graph (parts memory) (numbers_in words).tasks

  pub begin : Underway memory words choices memory words no_tally 0
  begin =
      let same = none_added (numbers_in words) tick.sound.kept.head_in_ring in
      record {
        part = omega arith;
        shows = ap (λ (m : Numbers). cycles its_graph 0 choices (view (parts memory) m)) same;
        sound = rw (← same) tick.sound;
        grown = rw (← same) (grown_none (numbers_in words));
        mugged = omega arith;
        same_plan = record { same_first = refl; same_second = refl; same_ticks = λ x. refl };
        same_words = same_words words;
        counted = omega arith;
      }

  pub few_workers : (numbers_in words).workers ≤ 64
  few_workers =
      let shown = workers_shown (parts memory).next (parts memory).ends (numbers_in words).workers in
      omega (arith, tick.sound.lawful.few_workers)

  module _ {memory' words' : List ℕ} {t : Tally} {i : ℕ} (u : Underway memory words choices memory' words' t i) where
    abbrev m' : Numbers
    m' = numbers_at (numbers_in words') i t

    abbrev e : Execution
    e = view (parts memory') m'

    -- the tally can be added
    pub addable : {n : ℕ} → i ≡ n → Addable words' n t
    addable over =
        let same = u.same_words.same_others in
        rw (← over)
        (record {
          size = u.same_words.same_length ∙ tick.size;
          done_fits = omega (arith, done_at_most (parts memory') m' u.sound.kept.done_right, u.sound.few_tasks);
          waited = omega (arith, u.mugged, same 9 (λ e. omega arith), same 4 (λ e. omega arith));
          head_in_ring = rw (same 8 (λ e. omega arith)) tick.sound.kept.head_in_ring;
          counted = omega (arith, u.counted);
          room = room_grown tick.room u.grown (omega (arith, u.part, tick.one_each, few_workers));
        })

    -- all workers have had their cycle, and the tally was added
    pub tick_over : {n : ℕ} {words'' : List ℕ} → i ≡ n → n ≡ (numbers_in words).workers → Settled words' n t words'' →
        Ticked memory words choices memory' words''
    tick_over {n} {words''} over all settled =
        let numbers : numbers_in words'' ≡ m' = settled.numbers ∙ ap (λ (k : ℕ). numbers_at (numbers_in words') k t) (sym over) in
        record {
          shows = ap (view (parts memory')) numbers ∙ sym (u.shows ∙ none_left its_graph choices i e (omega (arith, tick.one_each)));
          sound = rw numbers u.sound;
          grown = rw numbers (grown_more (omega (arith, u.part, tick.one_each, few_workers)) u.grown);
          same_plan = u.same_plan;
          tail = tail_then (words_tail u.same_words) settled.tail;
        }

    -- ---- the next worker's turn

    module _ (among : i < (numbers_in words).workers) where
      each : i < length choices
      each = omega (arith, tick.one_each)

      choice_inside : get_or choices i 0 < (numbers_in words).workers
      choice_inside =
          ltb-true (get_or choices i 0) (numbers_in words).workers
          (every_place (λ c. ltb c (numbers_in words).workers) choices i tick.all_workers each)

      next_turn : ChoiceTurn (parts memory') m' i (get_or choices i 0)
      next_turn =
          record {
            turn = record { sound = u.sound; worker = rw u.grown.same_workers among };
            chosen = rw u.grown.same_workers choice_inside;
          }

      onward : {memory'' words'' : List ℕ} {t'' : Tally} →
          Cycled (parts memory') m' i (get_or choices i 0) (parts memory'') (numbers_at (numbers_in words'') (i + 1) t'') →
          SameButSuccesses words' words'' → t''.works.0 + t''.mugs.0 ≤ i + 1 → Underway memory words choices memory'' words'' t'' (i + 1)
      onward c same few =
          let same_graph : graph (parts memory') m'.tasks ≡ its_graph =
          rw (u.same_plan.same_first, u.same_plan.same_second, u.grown.same_tasks) in
          record {
            part = omega (arith, each);
            shows =
                u.shows
                ∙ one_more its_graph choices i e each (rw (← same_graph) u.sound.lawful.placed)
                ∙ rw (c.shows, add-one, same_graph);
            sound = c.sound;
            grown = grown_then u.grown c.grown;
            mugged = c.mugged ∙ u.mugged;
            same_plan =
                record {
                  same_first = c.same_plan.same_first ∙ u.same_plan.same_first;
                  same_second = c.same_plan.same_second ∙ u.same_plan.same_second;
                  same_ticks = λ x. c.same_plan.same_ticks x ∙ u.same_plan.same_ticks x;
                };
            same_words = words_then u.same_words same;
            counted = few;
          }

      -- the worker's deque is not empty
      module _ {own : Deque} (reads : own ≡ ends_at (parts memory').ends i) (some : 0 < own.size) where
        pub work_turn : WorkTurn (parts memory') m' i
        work_turn = record { turn = next_turn.turn; filled = rw reads at some }

        pub onward_work : {memory'' : List ℕ} {t'' : Tally} {completed : ℕ} →
            (WorkTurn (parts memory') m' i → Worked (parts memory') m' i (parts memory'') completed) → t'' ≡ add_work t completed →
            Underway memory words choices memory'' words' t'' (i + 1)
        onward_work {memory''} {t''} {completed} promised added =
            onward
            (rw (added, work_added (numbers_in words') i t completed) (cycled_work next_turn work_turn.filled (promised work_turn)))
            (same_words words')
            (rw added (omega (arith, u.counted)))

      -- it is empty
      module _ {choice : ℕ} (chosen : choice ≡ get_or choices i 0) where
        pub idle_turn : {own : Deque} → own ≡ ends_at (parts memory').ends i → own.size ≤ 0 → IdleTurn memory' words' i choice t
        idle_turn reads none = record { turn = rw chosen next_turn; empty = omega (arith, rw reads at none); addable = addable refl }

        pub onward_idle : {memory'' words'' : List ℕ} {t'' : Tally} → Idled memory' words' i choice t memory'' words'' t'' →
            Underway memory words choices memory'' words'' t'' (i + 1)
        onward_idle idled = onward (rw chosen at idled.cycled) idled.same_words idled.counted
