-- What opening a quantum and counting one of its ticks do to the words.
use Rattle.std.specs.Prelude.{◌≡◌, true, cond, List, ℕ, suc, ◌≤◌, ◌<◌, eqb, length}
use Rattle.model.specs.Tests.{count_set}
use Rattle.model.specs.Plan.{Plan, longest_quantum}
use Rattle.model.specs.Machine.{State, most_workers, quantum_limit, opened, closes, closed}
use Rattle.memory.specs.declared.Job.{Job}
use Rattle.memory.specs.Parts.{parts}
use Rattle.memory.specs.Words.{word_count, numbers_in, terms_in, wish_in, started_in, open_in, ticks_in, begun_in, note_in}
use Rattle.memory.specs.View.{view}
use Rattle.memory.specs.Sound.{worked_in}
use Rattle.memory.specs.Jobs.{lent, job_parts, job_numbers, job_plan, job_state}
use Rattle.quantum.specs.Closing.{Closable}

-- only the wish and the words of the quantum may differ
pub record SameButClock (words words' : List ℕ) : Type 0 where
  pub same_size : length words' ≡ length words
  pub same_numbers : numbers_in words' ≡ numbers_in words
  pub same_plan : (memory : List ℕ) → job_plan (lent memory words') ≡ job_plan (lent memory words)

-- ---- a quantum opens

-- what opening a quantum with g workers does to a state, beside the deques
abbrev pub quantum_opened : ℕ → State → State
quantum_opened g s =
    record {
      execution = s.execution;
      started = cond (eqb g 0) s.started true;
      wish = s.wish;
      quantum = opened 0;
      begun = suc s.begun;
      note = s.note;
    }

-- one quantum more may begin
pub record Openable (words : List ℕ) : Type 0 where
  pub size : length words ≡ word_count
  pub more : begun_in words < quantum_limit

-- the quantum is opened
pub record Opened (words : List ℕ) (g : ℕ) (words' : List ℕ) : Type 0 where
  pub shows : (memory : List ℕ) → job_state (lent memory words') ≡ quantum_opened g (job_state (lent memory words))
  pub rest : SameButClock words words'

-- ---- a tick is counted

-- the state that the job shows with one tick more of its quantum
abbrev pub tick_counted : Job → State
tick_counted job =
    record {
      execution = view (job_parts job) (job_numbers job);
      started = started_in job.words;
      wish = wish_in job.words;
      quantum = opened (suc (ticks_in job.words));
      begun = begun_in job.words;
      note = note_in job.words;
    }

-- the state after the quantum's end, where the quantum ends
unfoldable pub quantum_ended : Plan → State → State
quantum_ended plan s = cond (closes plan s) (closed plan s) s

-- the tick can be counted, and the quantum be closed
pub record Countable (words : List ℕ) : Type 0 where
  pub size : length words ≡ word_count
  pub its_quantum : open_in words ≡ true
  pub ticks_fit : ticks_in words < (terms_in words).quantum_length
  pub closable : Closable (terms_in words).growth (wish_in words) (numbers_in words).usage
  pub utilization_fits : (terms_in words).utilization ≤ 100
  pub length_fits : (terms_in words).quantum_length ≤ longest_quantum
  pub workers_fit : (numbers_in words).workers ≤ most_workers

-- the tick is counted and, where it was the quantum's last, the quantum closed; the numbers are those after the tick's cycles
pub record TickEnded (words words' : List ℕ) : Type 0 where
  pub shows : (memory : List ℕ) → (numbers_in words).done ≡ count_set (worked_in (parts memory) (numbers_in words)) →
      job_state (lent memory words') ≡ quantum_ended (job_plan (lent memory words)) (tick_counted (lent memory words))
  pub rest : SameButClock words words'
