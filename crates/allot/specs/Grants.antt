-- What the functions of this crate ask and promise: a grant, in a job's memory and words.
use Rattle.std.specs.Prelude.{◌≡◌, false, not, List, [], ◌∷◌, ◌++◌, ℕ, ◌+◌, ◌≤◌, ◌<◌, length, get_or}
use Rattle.model.specs.Tests.{keep, is_empty}
use Rattle.model.specs.Machine.{State, grant, kept_deques, withdrawn_deques}
use Rattle.model.specs.Lines.{deques_in_use}
use Rattle.memory.specs.Parts.{parts, SameButEnds}
use Rattle.memory.specs.Words.{word_count, Numbers, numbers_in, started_in, SameTail}
use Rattle.memory.specs.View.{size_at, deque_at, deques_view, muggable_view, view}

-- ---- deques that join the ring's end

-- Some deques joined the end of the muggable ones, and no worker's deque changed. What joined is told for any links.
pub record Joined (head : ℕ) (ends : List ℕ) (waiting : ℕ) (ends' : List ℕ) (waiting' : ℕ) (joining : List ℕ → List (List ℕ)) : Type 0 where
  pub places : length ends' ≡ 256
  pub at_end : (next : List ℕ) → muggable_view next ends' head waiting' ≡ muggable_view next ends head waiting ++ joining next
  pub workers_stay : (next : List ℕ) (k : ℕ) → k ≤ 64 → deques_view next ends' k ≡ deques_view next ends k

-- a worker's deque joins, unless it is empty
abbrev pub joining_deque : List ℕ → ℕ → List ℕ → List (List ℕ)
joining_deque ends worker next = keep (λ d. not (is_empty d)) (deque_at next ends worker ∷ [])

-- the ring has room for the worker's deque
pub record Joinable (ends : List ℕ) (head waiting worker : ℕ) : Type 0 where
  pub places : length ends ≡ 256
  pub head_in_ring : head < 64
  pub a_worker : worker < 64
  pub few : waiting ≤ 64
  pub room : (get_or ends (size_at worker) 0 ≡ 0 → ⊥) → waiting < 64

-- of the first `workers` workers those from g on are withdrawn
abbrev pub joining_withdrawn : List ℕ → ℕ → ℕ → List ℕ → List (List ℕ)
joining_withdrawn ends g workers next = withdrawn_deques g (deques_view next ends workers)

-- the ring has room for the withdrawn workers' deques; whether a deque is empty depends on no link, so any links tell it
pub record Withdrawable (ends : List ℕ) (head waiting g workers : ℕ) : Type 0 where
  pub places : length ends ≡ 256
  pub head_in_ring : head < 64
  pub some_workers : workers ≤ 64
  pub links : List ℕ
  pub room : waiting + length (withdrawn_deques g (deques_view links ends workers)) ≤ 64

-- ---- new workers' empty deques

pub record Cleared (ends : List ℕ) (workers g : ℕ) (ends' : List ℕ) : Type 0 where
  pub places : length ends' ≡ 256
  pub kept : (next : List ℕ) → deques_view next ends' g ≡ kept_deques g (deques_view next ends workers)
  pub ring_stays : (next : List ℕ) (head waiting : ℕ) → muggable_view next ends' head waiting ≡ muggable_view next ends head waiting

-- ---- the grant

-- the numbers after a grant of g that leaves so many muggable deques
abbrev pub numbers_after : Numbers → ℕ → ℕ → Numbers
numbers_after m g waiting =
    record {
      tasks = m.tasks;
      workers = g;
      done = m.done;
      works = m.works;
      mugs = m.mugs;
      steals = m.steals;
      successes = m.successes;
      usage = 0;
      head = m.head;
      waiting = waiting;
    }

-- what a grant asks of the memory and the words
pub record Grantable (memory words : List ℕ) (g : ℕ) : Type 0 where
  pub size : length words ≡ word_count
  pub places : length (parts memory).ends ≡ 256
  pub head_in_ring : (numbers_in words).head < 64
  pub at_most : g ≤ 64
  pub few_workers : (numbers_in words).workers ≤ 64
  -- request U12: so the ring's 64 places hold what waits and what is withdrawn
  pub room : deques_in_use (view (parts memory) (numbers_in words)) ≤ 64
  -- before anything above 0 was granted there is no worker
  pub unstarted : started_in words ≡ false → (numbers_in words).workers ≡ 0

-- what a grant does
pub record Granted (memory words : List ℕ) (g : ℕ) (memory' words' : List ℕ) : Type 0 where
  -- the memory and the words show the execution that `model` says
  pub shown : (s : State) → s.execution ≡ view (parts memory) (numbers_in words) → s.started ≡ started_in words →
      view (parts memory') (numbers_in words') ≡ (grant g s).execution
  pub same_parts : SameButEnds (parts memory) (parts memory')
  pub places : length (parts memory').ends ≡ 256
  pub numbers : numbers_in words' ≡ numbers_after (numbers_in words) g (numbers_in words').waiting
  pub tail : SameTail words words'
