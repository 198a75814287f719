-- Demands 2 and 3, request U6's sum, request U9's ticks, request U5's offers, request U12's lines and request U13's seeds, over a job that
-- a plan and a list of calls, refused ones included, reach. The history is made from the plan and the calls alone; what the job shows is
-- compared with it.
use Rattle.std.specs.Prelude.{◌≡◌, true, false, ◌↔◌, List, ℕ, ◌+◌, ◌≤◌, ◌<◌, get_or}
use Rattle.model.specs.Plan.{Plan, tasks}
use Rattle.model.specs.Questions.{accepted}
use Rattle.model.specs.Machine.{worked, Call, ticks, call_answer, status}
use Rattle.model.specs.History.{run, work_count, mug_count}
use Rattle.model.specs.Statements.{Demand3, OnceAndInOrder}
use Rattle.model.specs.WholeTicks.{worker_ticks, after_workers}
use Rattle.model.specs.Lasting.{TicksAreWork, OnlyFrontsBegun}
use Rattle.model.specs.Offers.{OfferThenOpen}
use Rattle.model.specs.Lines.{deques_in_use, largest_granted, LinesBounded}
use Rattle.model.specs.Seeds.{SeededIsPlain, DayCall, DayAsLog}
use Rattle.memory.specs.declared.Job.{Job}
use Rattle.memory.specs.Jobs.{job_numbers, job_state}

pub record JobDemands (plan : Plan) (calls : List Call) (job : Job) : Type 0 where
  -- demand 3: the record shows the history's W and M; the mug limit and the pairing
  pub shows_work : (job_numbers job).works ≡ work_count (run plan calls)
  pub shows_mugs : (job_numbers job).mugs ≡ mug_count (run plan calls)
  pub demand_three : Demand3 plan calls
  -- demand 2: the record shows the history's state, each piece is worked at most once and after all before it, and finished is shown
  -- when all pieces are worked and never otherwise
  pub shows_state : job_state job ≡ (run plan calls).state
  pub in_order : OnceAndInOrder plan (run plan calls)
  pub finished_exactly : (status (job_state job) ≡ 3) ↔
      ((t : ℕ) → t < tasks plan.graph → get_or (worked (job_state job).execution) t false ≡ true)
  -- request U6: "work, mug and steal ticks add up to the sum of the granted counts over all accepted ticks, a sum read from the history of
  -- calls"
  pub adds_up : (job_numbers job).works + (job_numbers job).mugs + (job_numbers job).steals ≡ worker_ticks plan calls
  -- request U9: of each piece the ticks done and those left are its ticks, and W is the sum of the ticks done; only a front piece is begun
  pub ticks_are_work : TicksAreWork plan (run plan calls)
  pub only_fronts_begun : OnlyFrontsBegun plan (run plan calls)
  -- request U5: an offer that is opened is a grant of the opened count, one that is withdrawn is nothing, and while it is noted nothing
  -- else moves the job
  pub offer_then_open : OfferThenOpen plan calls
  -- request U12: the lines and orphans that the record shows, and those inside a tick after each worker's cycle, number at most the largest
  -- count granted so far, so at most 64, with at most N pieces in them: what a maker may lay out once
  pub lines_bounded : LinesBounded plan calls
  pub shows_lines : deques_in_use (job_state job).execution ≤ largest_granted (run plan calls)
  pub lines_inside : (choices : List ℕ) → call_answer (ticks choices) (job_state job) ≡ accepted → (w : ℕ) →
      deques_in_use (after_workers plan (job_state job) choices w) ≤ largest_granted (run plan calls)
  -- request U13: whatever the seed, a seeded tick of the record is the plain tick with the drawn choices, and a seeded day that begins with
  -- the record is, the refused ones left out, an ordinary log that is whole, refuses nothing and ends in the same record
  pub seeded_is_plain : (seed : ℕ) → SeededIsPlain plan (record { state = job_state job; seed = seed })
  pub day_as_log : (seed : ℕ) (day : List DayCall) → DayAsLog plan calls seed day
