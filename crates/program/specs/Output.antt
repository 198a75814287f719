-- What the program's functions promise: which bytes are printed, and what the parts that they are made from hold.
use Rattle.std.specs.Prelude.{◌≡◌, List, ◌++◌, ℕ, ◌≤◌, length, take, Result}
use Rattle.model.specs.Counters.{spaced, counters_line, put_at_start}
use Rattle.model.specs.Program.{refused_lines}
use Rattle.memory.specs.Jobs.{lent, job_plan, job_state}
use Rattle.engine.specs.Reached.{IsJob}
use Rattle.counters.specs.declared.Counters.{Counters}
use Rattle.counters.specs.Line.{numbers_of}
use Rattle.log_reader.specs.declared.BrokenEntry.{BrokenEntry}
use Rattle.day_log.specs.Running.{log_answer_of}
use Rattle.program.specs.declared.printed.Output.{Output}

-- the output's bytes are these
pub record Prints (printed : List ℕ) (r : Output) : Type 0 where
  pub written : take r.size r.bytes ≡ printed
  pub fits : r.size ≤ length r.bytes

-- a counters line was put at the start of a buffer: its length, and the buffer after
pub record LinePut (k : Counters) (b exit : List ℕ) (size : ℕ) : Type 0 where
  pub long : size ≡ length (spaced (numbers_of k))
  pub short : size ≤ 127
  pub bytes : exit ≡ put_at_start (spaced (numbers_of k)) b

-- "after 18 the count line first, then `refused 18`", whatever memory makes the words a job
pub record PrintsRan (words : List ℕ) (refusals : ℕ) (answer : Result (Unit {0}) BrokenEntry) (r : Output) : Type 0 where
  pub right : (memory : List ℕ) → IsJob (lent memory words) →
      let line = counters_line (job_plan (lent memory words)) (job_state (lent memory words)) refusals in
      Prints (line ++ refused_lines (log_answer_of answer)) r
