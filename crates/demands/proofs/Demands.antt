-- Demands 2 and 3 over the jobs of a list of calls: `every_record`, which a stranger reads first. Each job of a chain is reached by the
-- plan and the calls, refused ones included, and whatever job an accepted plan and calls reach has what the demands say.
-- The records of a chain, Accepts, Moves and Runs, are the very contracts wherever a job is held: of a record (`job::accept`,
-- `grant`, `offer`, `open`, `withdraw`, `tick`), of lent memory (`exports`, `exports_log`) and of what the program calls (`engine::accept`,
-- `day_log::run`). An offer and a withdrawal of lent memory get the words alone, and what they promise is Moves with the memory at hand.
-- Assumes nothing.
use mathlib.Core.Path.{◌≡◌, refl, sym, subst}
use mathlib.Core.List.{List, [], ◌∷◌, ◌++◌}
use Prim.Native.Nat.{ℕ, ◌<◌}
use native.Mathlib.Omega.{arith}
use Rattle.model.specs.Questions.{Answer, accepted, refused, answer_number}
use Rattle.model.specs.Plan.{plan_of, plan_answer}
use Rattle.model.specs.Machine.{Call}
use Rattle.model.specs.Examples.{plan_a}
use Rattle.model.proofs.Examples.{plan_a_begins}
use Rattle.memory.specs.declared.Job.{Job}
use Rattle.memory.specs.Jobs.{lent}
use Rattle.engine.specs.Reached.{Reached, IsJob, JobWords}
use Rattle.engine.specs.Moves.{Accepts, Moves}
use Rattle.engine.specs.Demands.{JobDemands}
use Rattle.engine.proofs.Demands.{demands}
use Rattle.demands.specs.Chain.{Chain, accepts, calls_next, log_next, refuses_next}
use Rattle.demands.proofs.Answers.{zero_is_accepted}

pub chain_reached : {bytes : List ℕ} {calls : List Call} {job : Job} → Chain bytes calls job → Reached (plan_of bytes) calls job
chain_reached (accepts left passes) = left.reached passes
chain_reached (calls_next chain left) = left.reached _ _ (chain_reached chain)
chain_reached (log_next chain left) = left.reached _ _ (chain_reached chain)
chain_reached {bytes} {calls} (refuses_next n chain left told) =
    subst (Reached (plan_of bytes) calls) (sym (left.unchanged n told)) (chain_reached chain)

-- demands 2 and 3: whatever bytes were accepted and whatever calls were made, each on the job that the call before left, refused ones
-- included, the job at hand shows the history's W and M, and the limit, the pairing, once and in order and finished exactly hold
pub every_record : {bytes : List ℕ} {calls : List Call} {job : Job} → Chain bytes calls job → JobDemands (plan_of bytes) calls job
every_record chain = demands (chain_reached chain)

-- every call on a job of a chain may be made: some plan and calls reach it, which is all that a function asks
pub chain_is_job : {bytes : List ℕ} {calls : List Call} {job : Job} → Chain bytes calls job → IsJob job
chain_is_job chain = (_, _, chain_reached chain)

-- and so for the functions that read its words alone
pub chain_words : {bytes : List ℕ} {calls : List Call} {job : Job} → Chain bytes calls job → JobWords job.words
chain_words {job = job} chain = (job.memory, chain_is_job chain)

-- a call of the words alone, which promises its move of every memory (`engine::offer`, `jirvaldo_core_offer` and their withdrawals), goes
-- on with the memory at hand
pub words_next : {bytes : List ℕ} {calls : List Call} {job : Job} {call : Call} {words' : List ℕ} → Chain bytes calls job →
    ((memory : List ℕ) → IsJob (lent memory job.words) → Moves call (lent memory job.words) (lent memory words')) →
    Chain bytes (calls ++ call ∷ []) (lent job.memory words')
words_next {job = job} chain moves = calls_next chain (moves job.memory (chain_is_job chain))

-- ---- how chains begin and go on

-- with accepted bytes, and with no others
pub chain_begins : {bytes : List ℕ} {calls : List Call} {job : Job} → Chain bytes calls job → plan_answer bytes ≡ accepted
chain_begins (accepts left passes) = passes
chain_begins (calls_next chain left) = chain_begins chain
chain_begins (log_next chain left) = chain_begins chain
chain_begins (refuses_next n chain left told) = chain_begins chain

-- there are some: Plan A passes the plan's questions, so what its acceptance leaves begins a chain, whatever was there before
pub plan_a_chain : {before job : Job} → Accepts plan_a before job → Chain plan_a [] job
plan_a_chain left = accepts left plan_a_begins.0

-- for makers who see the answer's number only: 0 begins a chain, and a number above 0 leaves the chain that was there
pub zero_begins : {bytes : List ℕ} {before job : Job} → Accepts bytes before job → answer_number (plan_answer bytes) ≡ 0 →
    Chain bytes [] job
zero_begins {bytes} left told = accepts left (zero_is_accepted bytes told)

pub refusal_goes_on : {bytes others : List ℕ} {calls : List Call} {job job' : Job} → Chain bytes calls job → Accepts others job job' →
    0 < answer_number (plan_answer others) → Chain bytes calls job'
refusal_goes_on {bytes} {others} {calls} {job} {job'} chain left above = by (plan_answer others) refl above
  where
    by : (a : Answer) → plan_answer others ≡ a → 0 < answer_number a → Chain bytes calls job'
    by accepted told h = absurd (omega (arith, h))
    by (refused n) told h = refuses_next n chain left told
