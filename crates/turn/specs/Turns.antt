-- What a worker's cycle and a tick's cycles ask and promise: what the memory shows afterwards is what the model's step makes of what it
-- showed before.
use Rattle.std.specs.Prelude.{◌≡◌, true, List, ℕ, ◌+◌, ◌≤◌, ◌<◌, ltb, length, get_or}
use Rattle.model.specs.Tests.{every}
use Rattle.model.specs.Machine.{cycle, cycles}
use Rattle.memory.specs.Parts.{Parts, parts, SamePlan}
use Rattle.memory.specs.Words.{word_count, word, Numbers, numbers_in, SameTail}
use Rattle.memory.specs.Graphs.{graph}
use Rattle.memory.specs.View.{size_at, view}
use Rattle.memory.specs.Sound.{Sound}
use Rattle.memory.specs.Cycles.{count_limit, Room, Grown}
use Rattle.tally.specs.declared.Tally.{Tally}
use Rattle.tally.specs.Tallies.{numbers_at, Addable}
use Rattle.work.specs.Works.{WorkerTurn}

-- ---- a worker's cycle

-- a worker and its choice
pub record ChoiceTurn (p : Parts) (m : Numbers) (w choice : ℕ) : Type 0 where
  pub turn : WorkerTurn p m w
  pub chosen : choice < m.workers

-- the parts and numbers show the model's cycle, and are sound
pub record Cycled (p : Parts) (m : Numbers) (w choice : ℕ) (p' : Parts) (m' : Numbers) : Type 0 where
  pub shows : view p' m' ≡ cycle (graph p m.tasks) w choice (view p m)
  pub sound : Sound p' m'
  pub grown : Grown 1 m m'
  -- each mug takes one of the muggable deques
  pub mugged : m'.waiting + m'.mugs ≡ m.waiting + m.mugs
  pub same_plan : SamePlan p p'

-- the cycle of a worker whose deque is empty, counted in words and tally
pub record IdleTurn (memory words : List ℕ) (w choice : ℕ) (t : Tally) : Type 0 where
  pub turn : ChoiceTurn (parts memory) (numbers_at (numbers_in words) w t) w choice
  pub empty : get_or (parts memory).ends (size_at w) 0 ≡ 0
  pub addable : Addable words w t

-- of the words only that of the successes may differ
pub record SameButSuccesses (words words' : List ℕ) : Type 0 where
  pub same_length : length words' ≡ length words
  pub same_others : (place : ℕ) → (place ≡ 6 → ⊥) → word words' place ≡ word words place

-- no task is worked
pub record Idled (memory words : List ℕ) (w choice : ℕ) (t : Tally) (memory' words' : List ℕ) (t' : Tally) : Type 0 where
  pub cycled : Cycled (parts memory) (numbers_at (numbers_in words) w t) w choice
      (parts memory') (numbers_at (numbers_in words') (w + 1) t')
  pub same_works : t'.works ≡ t.works
  pub counted : t'.works.0 + t'.mugs.0 ≤ w + 1
  pub same_words : SameButSuccesses words words'

-- ---- a tick's cycles

pub record TickTurn (memory words choices : List ℕ) : Type 0 where
  pub size : length words ≡ word_count
  pub sound : Sound (parts memory) (numbers_in words)
  pub one_each : length choices ≡ (numbers_in words).workers
  pub all_workers : every (λ choice. ltb choice (numbers_in words).workers) choices ≡ true
  pub room : Room count_limit (numbers_in words)

pub record Ticked (memory words choices memory' words' : List ℕ) : Type 0 where
  pub shows : view (parts memory') (numbers_in words')
      ≡ cycles (graph (parts memory) (numbers_in words).tasks) 0 choices (view (parts memory) (numbers_in words))
  pub sound : Sound (parts memory') (numbers_in words')
  pub grown : Grown 64 (numbers_in words) (numbers_in words')
  pub same_plan : SamePlan (parts memory) (parts memory')
  pub tail : SameTail words words'
