-- The numbers of a job after a cycle of each kind, and how far its counts may grow.
use Rattle.std.specs.Prelude.{◌≡◌, ℕ, ◌+◌, ◌-◌, ◌%◌, ◌^◌, ◌≤◌}
use Rattle.memory.specs.Words.{Numbers}

-- ---- the numbers after a cycle of each kind

-- with 1 task completed or 0
abbrev pub after_work : ℕ → Numbers → Numbers
after_work completed m =
    record {
      tasks = m.tasks;
      workers = m.workers;
      done = m.done + completed;
      works = m.works + 1;
      mugs = m.mugs;
      steals = m.steals;
      successes = m.successes;
      usage = m.usage + 1;
      head = m.head;
      waiting = m.waiting;
    }

abbrev pub after_mug : Numbers → Numbers
after_mug m =
    record {
      tasks = m.tasks;
      workers = m.workers;
      done = m.done;
      works = m.works;
      mugs = m.mugs + 1;
      steals = m.steals;
      successes = m.successes;
      usage = m.usage + 1;
      head = (m.head + 1) % 64;
      waiting = m.waiting - 1;
    }

-- with 1 success or 0
abbrev pub after_steal : ℕ → Numbers → Numbers
after_steal success m =
    record {
      tasks = m.tasks;
      workers = m.workers;
      done = m.done;
      works = m.works;
      mugs = m.mugs;
      steals = m.steals + 1;
      successes = m.successes + success;
      usage = m.usage;
      head = m.head;
      waiting = m.waiting;
    }

-- ---- counts that can still grow

-- no count is above this at the beginning of a tick: laws' CountsFit keeps each far below it
abbrev pub count_limit : ℕ
count_limit = 2 ^ 63

-- nor above this before a cycle of the tick
abbrev pub cycle_limit : ℕ
cycle_limit = count_limit + 64

-- no count exceeds this
pub record Room (most : ℕ) (m : Numbers) : Type 0 where
  pub works_fit : m.works ≤ most
  pub mugs_fit : m.mugs ≤ most
  pub steals_fit : m.steals ≤ most
  pub successes_fit : m.successes ≤ most
  pub usage_fits : m.usage ≤ most

-- no count grew by more than this, and tasks and workers are as many as before
pub record Grown (more : ℕ) (before after : Numbers) : Type 0 where
  pub same_tasks : after.tasks ≡ before.tasks
  pub same_workers : after.workers ≡ before.workers
  pub works_grew : after.works ≤ before.works + more
  pub mugs_grew : after.mugs ≤ before.mugs + more
  pub steals_grew : after.steals ≤ before.steals + more
  pub successes_grew : after.successes ≤ before.successes + more
  pub usage_grew : after.usage ≤ before.usage + more
