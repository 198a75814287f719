-- A call takes a job to a job: one that is refused leaves it as it was, and what an accepted one makes of it is reached by one call more.
-- Assumes nothing.
use mathlib.Core.Path.{◌≡◌, refl, sym, ◌∙◌}
use mathlib.Core.List.{List, [], ◌∷◌, ◌++◌}
use Prim.Native.Nat.{ℕ}
use native.Mathlib.Omega.{arith}
use lib.ListN.{length}
use Rattle.model.specs.Questions.{Answer, accepted, refused}
use Rattle.model.specs.Plan.{Plan}
use Rattle.model.specs.Machine.{Call, call_answer, step}
use Rattle.laws.proofs.Runs.{run_state}
use Rattle.memory.specs.declared.Job.{Job}
use Rattle.memory.specs.Parts.{parts, SamePlan}
use Rattle.memory.specs.Words.{word_count, numbers_in, SameTail}
use Rattle.memory.specs.Graphs.{graph}
use Rattle.memory.specs.Sound.{Sizes, Kept}
use Rattle.memory.specs.Jobs.{lent, job_parts, job_numbers, job_plan, job_state}
use Rattle.memory.proofs.Views.{durations_same}
use Rattle.engine.specs.Reached.{Reached}
use Rattle.engine.specs.Moves.{Moves}

-- what was accepted was not refused
pub not_both : {a : Answer} (n : ℕ) → a ≡ accepted → a ≡ refused n → ⊥
not_both n is_yes is_no = let z : ◌≡◌ {A = ℕ} 0 1 = cc in omega arith

-- the plan stays where its terms, its number of tasks, the graph and the tasks' ticks do
pub plan_stays : (memory words memory' words' : List ℕ) → SameTail words words' → (numbers_in words').tasks ≡ (numbers_in words).tasks →
    SamePlan (parts memory) (parts memory') → job_plan (lent memory' words') ≡ job_plan (lent memory words)
unfolding job_plan
plan_stays memory words memory' words' tail same_tasks same =
    rw (
      tail.same_from 10 (omega arith),
      tail.same_from 11 (omega arith),
      tail.same_from 12 (omega arith),
      tail.same_from 18 (omega arith),
      same.same_first,
      same.same_second,
      same_tasks,
      durations_same (parts memory).spans (parts memory').spans (numbers_in words).tasks same.same_ticks,
    )
    refl

-- the state after the call, of the plan that the job shows, is that of the history of one call more
one_call_more : {plan : Plan} {calls : List Call} {job job' : Job} (call : Call) → Reached plan calls job →
    job_state job' ≡ step (job_plan job) call (job_state job) → job_plan job' ≡ job_plan job →
    Sizes (job_parts job') → length job'.words ≡ word_count →
    Kept (graph (job_parts job') (job_numbers job').tasks) (job_parts job') (job_numbers job') →
    Reached plan (calls ++ call ∷ []) job'
one_call_more {plan} {calls} call r stepped same_plan sizes sized kept =
    record {
      accepted_plan = r.accepted_plan;
      its_plan = same_plan ∙ r.its_plan;
      its_state = stepped ∙ (rw (r.its_plan, r.its_state) refl ∙ sym (run_state plan calls call));
      parts_sized = sizes;
      words_sized = sized;
      kept = kept;
    }

-- a refused call is a step that stays where it is
pub refused_moves : {call : Call} {job : Job} (n : ℕ) → call_answer call (job_state job) ≡ refused n → Moves call job job
unfolding step
refused_moves {call} {job} n is_no =
    let stays : job_state job ≡ step (job_plan job) call (job_state job) = rw is_no refl in
    record {
      stepped = stays;
      same_plan = refl;
      unchanged = λ n h. refl;
      reached = λ plan calls r. one_call_more call r stays refl r.parts_sized r.words_sized r.kept;
    }

pub accepted_moves : {job job' : Job} (call : Call) → call_answer call (job_state job) ≡ accepted →
    job_state job' ≡ step (job_plan job) call (job_state job) → job_plan job' ≡ job_plan job →
    Sizes (job_parts job') → length job'.words ≡ word_count →
    Kept (graph (job_parts job') (job_numbers job').tasks) (job_parts job') (job_numbers job') →
    Moves call job job'
accepted_moves call is_yes stepped same_plan sizes sized kept =
    record {
      stepped = stepped;
      same_plan = same_plan;
      unchanged = λ n is_no. absurd (not_both n is_yes is_no);
      reached = λ plan calls r. one_call_more call r stepped same_plan sizes sized kept;
    }
