-- What a seeded tick's cycles ask and promise: those of a plain tick with the drawn choices. And what a seeded tick does to a job and a
-- seed.
use Rattle.std.specs.Prelude.{◌≡◌, refl, List, ℕ, ◌<◌}
use Rattle.model.specs.Questions.{refused}
use Rattle.model.specs.Machine.{ticks}
use Rattle.model.specs.Seeds.{draws, seed_after, Seeded, drawn, seeded_answer, tick_seeded}
use Rattle.memory.specs.declared.Job.{Job}
use Rattle.memory.specs.Words.{numbers_in}
use Rattle.memory.specs.Jobs.{job_plan, job_state}
use Rattle.engine.specs.Moves.{Moves}
use Rattle.turn.specs.Turns.{TickTurn, Ticked}
use Rattle.seeded.specs.declared.Draws.{Draws}

-- ---- the draws

-- before the first draw the state is as it came
pub begins : (at : Draws) → at ≡ record { state = seed_after 0 at.state }
unfolding seed_after
begins at = refl

-- ---- the cycles

-- the choices that a seed draws for the workers of these words
abbrev pub choices_for : List ℕ → ℕ → List ℕ
choices_for words seed = draws (numbers_in words).workers (numbers_in words).workers seed

pub record SeededTurn (memory words : List ℕ) (seed : ℕ) : Type 0 where
  pub some_worker : 0 < (numbers_in words).workers
  pub turn : TickTurn memory words (choices_for words seed)

pub record SeededCycles (memory words : List ℕ) (seed : ℕ) (memory' words' : List ℕ) (seed' : ℕ) : Type 0 where
  pub ticked : Ticked memory words (choices_for words seed) memory' words'
  pub drawn_on : seed' ≡ seed_after (numbers_in words).workers seed

-- ---- the tick

-- what a job shows, and a seed
abbrev pub shown : Job → ℕ → Seeded
shown job seed = record { state = job_state job; seed = seed }

-- a seeded tick was made of this job with this seed, and left those
pub record TicksSeeded (job : Job) (seed : ℕ) (job' : Job) (seed' : ℕ) : Type 0 where
  -- the state and the seed are those of the model's seeded tick
  pub leaves : shown job' seed' ≡ tick_seeded (job_plan job) (shown job seed)
  -- "A seeded tick must equal a plain tick given the same choices": for the job it is that call
  pub moves : Moves (ticks (drawn (job_state job) seed)) job job'
  -- refused, both are as they came
  pub unchanged : (n : ℕ) → seeded_answer (job_state job) ≡ refused n → (job' ≡ job) × (seed' ≡ seed)
