-- What a call of a job is answered: the questions that are asked of its words are the model's, asked of its state.
-- Assumes nothing.
use mathlib.Core.Path.{◌≡◌, sym, ◌∙◌}
use mathlib.Core.List.{List}
use Prim.Native.Nat.{ℕ}
use Rattle.model.specs.Questions.{Answer, first_no}
use Rattle.model.specs.Plan.{Plan}
use Rattle.model.specs.Machine.{Call, grants, offers, opens, withdraws, ticks, call_answer}
use Rattle.laws.proofs.Accepted.{offer_asks}
use Rattle.memory.specs.declared.Job.{Job}
use Rattle.memory.specs.Jobs.{job_state}
use Rattle.call_questions.specs.Asked.{grant_asked, open_asked, withdraw_asked, tick_asked}
use Rattle.call_questions.proofs.Asking.{grant_asking, open_asking, withdraw_asking, tick_asking}
use Rattle.engine.specs.Reached.{Reached}

module _ {plan : Plan} {calls : List Call} {job : Job} (r : Reached plan calls job) {answer : Answer} where
  pub grant_answered : (g : ℕ) → answer ≡ first_no (grant_asked job.words g) → answer ≡ call_answer (grants g) (job_state job)
  grant_answered g asked = asked ∙ sym (grant_asking job r.kept.done_right g)

  pub offer_answered : (g : ℕ) → answer ≡ first_no (grant_asked job.words g) → answer ≡ call_answer (offers g) (job_state job)
  offer_answered g asked = grant_answered g asked ∙ offer_asks g (job_state job)

  pub open_answered : (c : ℕ) → answer ≡ first_no (open_asked job.words c) → answer ≡ call_answer (opens c) (job_state job)
  open_answered c asked = asked ∙ sym (open_asking job c)

  pub withdraw_answered : answer ≡ first_no (withdraw_asked job.words) → answer ≡ call_answer withdraws (job_state job)
  withdraw_answered asked = asked ∙ sym (withdraw_asking job)

  pub tick_answered : (choices : List ℕ) → answer ≡ first_no (tick_asked job.words choices) →
      answer ≡ call_answer (ticks choices) (job_state job)
  tick_answered choices asked = asked ∙ sym (tick_asking job r.kept.done_right choices)
