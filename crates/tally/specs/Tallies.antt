-- What the cycles of a tick so far add to a job's words; a success is counted there at once.
use Rattle.std.specs.Prelude.{◌≡◌, List, ℕ, ◌+◌, ◌-◌, ◌%◌, ◌≤◌, ◌<◌, length}
use Rattle.memory.specs.Words.{word_count, Numbers, numbers_in, SameTail}
use Rattle.memory.specs.Cycles.{cycle_limit, Room}
use Rattle.tally.specs.declared.Tally.{Tally}

abbrev pub no_tally : Tally
no_tally = record { works = record { 0 = 0 }; mugs = record { 0 = 0 }; completed = 0 }

abbrev pub add_work : Tally → ℕ → Tally
add_work t completed = record { works = record { 0 = t.works.0 + 1 }; mugs = t.mugs; completed = t.completed + completed }

abbrev pub add_mug : Tally → Tally
add_mug t = record { works = t.works; mugs = record { 0 = t.mugs.0 + 1 }; completed = t.completed }

-- the numbers with what the cycles so far add: of so many, those that are neither work nor mug cycles are steal cycles
abbrev pub numbers_at : Numbers → ℕ → Tally → Numbers
numbers_at m cycles t =
    record {
      tasks = m.tasks;
      workers = m.workers;
      done = m.done + t.completed;
      works = m.works + t.works.0;
      mugs = m.mugs + t.mugs.0;
      steals = m.steals + (cycles - (t.works.0 + t.mugs.0));
      successes = m.successes;
      usage = m.usage + (t.works.0 + t.mugs.0);
      head = (m.head + t.mugs.0) % 64;
      waiting = m.waiting - t.mugs.0;
    }

-- a tally that can take another cycle
pub record Growing (t : Tally) : Type 0 where
  pub works_fit : t.works.0 ≤ cycle_limit
  pub mugs_fit : t.mugs.0 ≤ cycle_limit
  pub completed_fit : t.completed ≤ 1024

-- sums that fit, no more mugs than muggable deques, and no more cycles of two kinds than of all
pub record Addable (words : List ℕ) (cycles : ℕ) (t : Tally) : Type 0 where
  pub size : length words ≡ word_count
  pub done_fits : (numbers_in words).done + t.completed ≤ 1024
  pub waited : t.mugs.0 ≤ (numbers_in words).waiting
  pub head_in_ring : (numbers_in words).head < 64
  pub counted : t.works.0 + t.mugs.0 ≤ cycles
  pub room : Room cycle_limit (numbers_at (numbers_in words) cycles t)

-- the words have what the tally adds, and the others stay
pub record Settled (words : List ℕ) (cycles : ℕ) (t : Tally) (words' : List ℕ) : Type 0 where
  pub numbers : numbers_in words' ≡ numbers_at (numbers_in words) cycles t
  pub tail : SameTail words words'
