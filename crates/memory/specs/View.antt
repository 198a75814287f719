-- What the parts and numbers of a job show: the execution that the workers' cycles move.
use Rattle.std.specs.Prelude.{List, [], ◌∷◌, map, ℕ, zero, suc, ◌+◌, ◌*◌, ◌%◌, get_or, set}
use Rattle.model.specs.Tests.{below}
use Rattle.model.specs.Machine.{Execution, Counts}
use Rattle.memory.specs.declared.Deque.{Deque}
use Rattle.memory.specs.Parts.{Parts, with_ends, left_at}
use Rattle.memory.specs.Words.{Numbers}

-- ---- the deques

-- the deque of so many tasks that starts at a front: the front, the task that its link names, and so on. Links past the size are ignored.
unfoldable pub walk : List ℕ → ℕ → ℕ → List ℕ
walk next front zero = []
walk next front (suc size) = front ∷ walk next (get_or next front 0) size

-- A deque has a place, of which `ends` holds the front and the size side by side. Places 0 to 63 are the workers', by number; 64 to 127
-- are a ring for the muggable deques. More never wait, by request U12's law (`lines_bounded` of laws).
abbrev pub front_at : ℕ → ℕ
front_at place = 2 * place

abbrev pub size_at : ℕ → ℕ
size_at place = 2 * place + 1

-- the front and the size that are at a place, and `ends` after others were put there
abbrev pub ends_at : List ℕ → ℕ → Deque
ends_at ends place = record { front = get_or ends (front_at place) 0; size = get_or ends (size_at place) 0 }

abbrev pub put_deque : List ℕ → ℕ → Deque → List ℕ
put_deque ends place deque = set (set ends (front_at place) deque.front) (size_at place) deque.size

abbrev pub put_part : Parts → ℕ → Deque → Parts
put_part p place deque = with_ends p (put_deque p.ends place deque)

-- the tasks of a deque, and of the one at a place
abbrev pub tasks_of : List ℕ → Deque → List ℕ
tasks_of next deque = walk next deque.front deque.size

unfoldable pub deque_at : List ℕ → List ℕ → ℕ → List ℕ
deque_at next ends place = tasks_of next (ends_at ends place)

-- the first k workers' deques
unfoldable pub deques_view : List ℕ → List ℕ → ℕ → List (List ℕ)
deques_view next ends k = map (deque_at next ends) (below k)

-- the place of the muggable deque that is the i-th oldest, counted from 0, where the oldest is the ring's entry `head`
abbrev pub ring_place : ℕ → ℕ → ℕ
ring_place head i = 64 + (head + i) % 64

-- the muggable deques, of which so many wait, oldest first
unfoldable pub muggable_view : List ℕ → List ℕ → ℕ → ℕ → List (List ℕ)
muggable_view next ends head waiting = map (λ i. deque_at next ends (ring_place head i)) (below waiting)

-- ---- the ticks left

-- of each task below n
unfoldable pub left_view : List ℕ → ℕ → List ℕ
left_view spans n = map (left_at spans) (below n)

-- ---- the execution

abbrev pub counts_view : Numbers → Counts
counts_view m =
    record {
      works = record { work = m.works };
      mugs = record { mug = m.mugs };
      steals = record { steal = m.steals };
      successes = m.successes;
      usage = m.usage;
    }

abbrev pub view : Parts → Numbers → Execution
view p m =
    record {
      left = left_view p.spans m.tasks;
      deques = deques_view p.next p.ends m.workers;
      muggable = muggable_view p.next p.ends m.head m.waiting;
      counts = counts_view m;
    }
