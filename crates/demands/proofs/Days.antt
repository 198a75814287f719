-- Request U13 over the very jobs: what a day of plain grants and seeded ticks leaves is what its log leaves (`same_record`), and each call
-- of it is a call of a chain (`seeded_next`), so that every record of a seeded day has what `every_record` says. The entry that a console
-- writes of a seeded tick is that of the call (`its_entry`).
-- Assumes nothing.
use mathlib.Core.Path.{◌≡◌, refl, sym, ap, subst, ◌∙◌}
use mathlib.Core.List.{List, [], ◌∷◌, ◌++◌}
use Prim.Native.Nat.{ℕ}
use Rattle.model.specs.Plan.{Plan, plan_of}
use Rattle.model.specs.Machine.{State, Call, ticks}
use Rattle.model.specs.Log.{Ran, run_log, entry_bytes}
use Rattle.model.specs.Seeds.{Seeded, drawn, DayCall, day_step, run_day, day_log}
use Rattle.memory.specs.declared.Job.{Job}
use Rattle.memory.specs.Jobs.{job_plan, job_state}
use Rattle.engine.specs.Reached.{Reached}
use Rattle.engine.proofs.Demands.{demands}
use Rattle.seeded.specs.Drawn.{shown, TicksSeeded}
use Rattle.seeded.proofs.Seeding.{drawn_shown}
use Rattle.log_writer.specs.Writing.{seeded_entry}
use Rattle.demands.specs.Chain.{Chain, calls_next}
use Rattle.demands.specs.Day.{Day, over, granted, ticked, SameRecord}
use Rattle.demands.proofs.Demands.{chain_reached}

-- a seeded tick of the job at hand, accepted or not, is one call more: the plain tick with the drawn choices
pub seeded_next : {bytes : List ℕ} {calls : List Call} {job job' : Job} {seed seed' : ℕ} → Chain bytes calls job →
    TicksSeeded job seed job' seed' → Chain bytes (calls ++ ticks (drawn (job_state job) seed) ∷ []) job'
seeded_next chain tick = calls_next chain tick.moves

-- the entry that the log's writer draws from the job's words (`log_writer::write_seeded`) is that of this call
pub its_entry : {bytes : List ℕ} {calls : List Call} {job : Job} → Chain bytes calls job → (seed : ℕ) →
    seeded_entry job.words seed ≡ entry_bytes (ticks (drawn (job_state job) seed))
its_entry chain seed = ap (λ (choices : List ℕ). entry_bytes (ticks choices)) (sym (drawn_shown seed (chain_reached chain)))

-- ---- a day

day_plan : {day : List DayCall} {job job' : Job} {seed seed' : ℕ} → Day day job seed job' seed' → job_plan job' ≡ job_plan job
day_plan over = refl
day_plan (granted moves rest) = day_plan rest ∙ moves.same_plan
day_plan (ticked tick rest) = day_plan rest ∙ tick.moves.same_plan

-- the job and the seed that it leaves are the model's
pub day_leaves : {day : List DayCall} {job job' : Job} {seed seed' : ℕ} → Day day job seed job' seed' →
    shown job' seed' ≡ run_day (job_plan job) day (shown job seed)
unfolding run_day day_step
day_leaves over = refl
day_leaves (granted {g} {seed} {seed''} {day} {job} {job'} moves rest) =
    day_leaves rest
    ∙ ap (λ (plan : Plan). run_day plan day (shown job' seed)) moves.same_plan
    ∙ ap (λ (s : State). run_day (job_plan job) day (record { state = s; seed = seed })) moves.stepped
day_leaves (ticked {seed} {seed'} {seed''} {day} {job} {job'} tick rest) =
    day_leaves rest
    ∙ ap (λ (plan : Plan). run_day plan day (shown job' seed')) tick.moves.same_plan
    ∙ ap (run_day (job_plan job) day) tick.leaves

-- ---- its log

module _ {bytes : List ℕ} {calls : List Call} {job job' : Job} {seed seed' : ℕ} {day : List DayCall}
    (chain : Chain bytes calls job) (made : Day day job seed job' seed') where
  r : Reached (plan_of bytes) calls job
  r = chain_reached chain

  -- model's run of the log on what the job shows
  ran : run_log (job_plan job) (day_log (job_plan job) day (shown job seed)) (job_state job)
      ≡ record { state = job_state job'; refusals = 0 }
  ran =
      subst
      (λ (plan : Plan). run_log plan (day_log plan day (shown job seed)) (job_state job)
      ≡ record { state = (run_day plan day (shown job seed)).state; refusals = 0 })
      (sym r.its_plan)
      (subst
      (λ (s : State). run_log (plan_of bytes) (day_log (plan_of bytes) day (record { state = s; seed = seed })) s
      ≡ record { state = (run_day (plan_of bytes) day (record { state = s; seed = seed })).state; refusals = 0 })
      (sym r.its_state) ((demands r).day_as_log seed day).same_end)
      ∙ ap (λ (at : Seeded). record { state = at.state; refusals = 0 }) (sym (day_leaves made))

  -- "that ends in the same record": whatever day was made of a job of a chain
  pub same_record : SameRecord day job seed job'
  same_record =
      record {
        refuses_nothing = λ runs. runs.counted ∙ ap (λ (after : Ran). after.refusals) ran;
        same_state = λ runs. runs.state_after ∙ ap (λ (after : Ran). after.state) ran;
        same_plan = λ runs. runs.same_plan ∙ sym (day_plan made);
      }
