-- The plan and the state that a job shows. The record by value, lent memory and the program all hold a job: its memory and its words.
use Rattle.std.specs.Prelude.{Bool, true, false, List, ℕ}
use Rattle.std.specs.Borrow.{MutBor}
use denote.Triple.Both.{Both}
use Rattle.model.specs.Plan.{Plan}
use Rattle.model.specs.Machine.{State, Quantum, idle, opened}
use Rattle.memory.specs.declared.Job.{Job}
use Rattle.memory.specs.Parts.{Parts, parts}
use Rattle.memory.specs.Words.{Numbers, numbers_in, terms_in, wish_in, started_in, open_in, ticks_in, begun_in, note_in}
use Rattle.memory.specs.Graphs.{graph, durations_view}
use Rattle.memory.specs.View.{view}

-- the job that memory and words make
abbrev pub lent : List ℕ → List ℕ → Job
lent memory words = record { memory = memory; words = words }

-- the job that two references hold
abbrev pub job : MutBor (List ℕ) → MutBor (List ℕ) → Job
job memory words = lent memory.now words.now

-- .. and that two references to be written through hold when a function is called, and when it returns
abbrev pub job_before : Both (MutBor (List ℕ)) (MutBor (List ℕ)) → Both (MutBor (List ℕ)) (MutBor (List ℕ)) → Job
job_before memory words = job memory.entry words.entry

abbrev pub job_after : Both (MutBor (List ℕ)) (MutBor (List ℕ)) → Both (MutBor (List ℕ)) (MutBor (List ℕ)) → Job
job_after memory words = job memory.exit words.exit

abbrev pub job_parts : Job → Parts
job_parts job = parts job.memory

abbrev pub job_numbers : Job → Numbers
job_numbers job = numbers_in job.words

-- the plan that it carries
unfoldable pub job_plan : Job → Plan
job_plan job =
    record {
      terms = terms_in job.words;
      graph = graph (job_parts job) (job_numbers job).tasks;
      durations = durations_view (job_parts job).spans (job_numbers job).tasks;
    }

abbrev pub quantum_view : Bool → ℕ → Quantum
quantum_view true ticks = opened ticks
quantum_view false ticks = idle

-- the state that it shows
unfoldable pub job_state : Job → State
job_state job =
    record {
      execution = view (job_parts job) (job_numbers job);
      started = started_in job.words;
      wish = wish_in job.words;
      quantum = quantum_view (open_in job.words) (ticks_in job.words);
      begun = begun_in job.words;
      note = note_in job.words;
    }
