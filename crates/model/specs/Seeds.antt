-- Request U13, choices from a seed, as definitions and as statements: a draw, a seeded tick, a day of plain grants and seeded ticks, and
-- the ordinary log that such a day can be written as. The statements are proved in the crate `laws`.
use Rattle.std.specs.Prelude.{◌≡◌, not, ◌⊎◌, ℕ, zero, suc, ◌+◌, ◌*◌, ◌/◌, ◌%◌, ◌^◌, ◌≤◌, ◌<◌, length, get_or}
use mathlib.Core.List.{List, [], ◌∷◌, ◌++◌, Memᴰ}
use Rattle.model.specs.Questions.{Question, Answer, accepted, refused, ask, first_no, by_answer}
use Rattle.model.specs.Plan.{Plan}
use Rattle.model.specs.Machine.{State, allotment, finished, no_quantum_open, most_workers, tick, call_answer, step}
use Rattle.model.specs.Machine.{Call, grants, ticks}
use Rattle.model.specs.History.{run}
use Rattle.model.specs.WholeTicks.{accepted_calls, granted_ticks}
use Rattle.model.specs.Log.{entries, log_answer, run_log, written}

-- ---- a draw

-- "the next s is 1,664,525 × s + 1,013,904,223, wrapped modulo 2^32"
unfoldable pub next_seed : ℕ → ℕ
next_seed s = (1664525 * s + 1013904223) % 2 ^ 32

-- "the choice is the whole part of that next s / 65,536, modulo the granted count"
unfoldable pub drawn_choice : ℕ → ℕ → ℕ
drawn_choice granted s = next_seed s / 65536 % granted

-- the choices of so many draws
unfoldable pub draws : ℕ → ℕ → ℕ → List ℕ
draws granted zero s = []
draws granted (suc n) s = drawn_choice granted s ∷ draws granted n (next_seed s)

-- the state after so many draws
unfoldable pub seed_after : ℕ → ℕ → ℕ
seed_after zero s = s
seed_after (suc n) s = seed_after n (next_seed s)

-- ---- a seeded tick

-- a job's state, and the seed kept with it
pub record Seeded : Type 0 where
  pub state : State
  pub seed : ℕ

-- "One draw is made for every granted worker in order", whether it will steal or not
unfoldable pub drawn : State → ℕ → List ℕ
drawn s seed = draws (allotment s) (allotment s) seed

-- it asks 11 and 15, as a tick does, and no more
unfoldable pub seeded_questions : State → List Question
seeded_questions s = ask (not (finished s.execution)) 11 ∷ ask (not (no_quantum_open s.quantum)) 15 ∷ []

unfoldable pub seeded_answer : State → Answer
seeded_answer s = first_no (seeded_questions s)

-- accepted, it is a tick with the drawn choices, and the seed is the state after as many draws as workers are granted; "none when the tick
-- is refused by 11 or 15"
unfoldable pub tick_seeded : Plan → Seeded → Seeded
tick_seeded plan at =
    by_answer (seeded_answer at.state)
    (record {
      state = tick plan (drawn at.state at.seed) at.state;
      seed = seed_after (allotment at.state) at.seed;
    })
    at

-- "A seeded tick must equal a plain tick given the same choices"
pub record SeededIsPlain (plan : Plan) (at : Seeded) : Type 0 where
  -- it has the plain tick's answer, which is never 16 or 17
  pub same_answer : seeded_answer at.state ≡ call_answer (ticks (drawn at.state at.seed)) at.state
  pub only_11_or_15 : (n : ℕ) → seeded_answer at.state ≡ refused n → (n ≡ 11) ⊎ (n ≡ 15)
  -- it leaves what the plain tick leaves
  pub same_state : (tick_seeded plan at).state ≡ step plan (ticks (drawn at.state at.seed)) at.state
  -- a choice for each granted worker: that of worker w is read from the state after w + 1 draws
  pub one_each : length (drawn at.state at.seed) ≡ allotment at.state
  pub in_order : (w : ℕ) → w < allotment at.state →
      get_or (drawn at.state at.seed) w 0 ≡ seed_after (w + 1) at.seed / 65536 % allotment at.state
  -- accepted, so many draws were made; refused, the job and the seed stay
  pub draws_made : seeded_answer at.state ≡ accepted → (tick_seeded plan at).seed ≡ seed_after (allotment at.state) at.seed
  pub stays : (n : ℕ) → seeded_answer at.state ≡ refused n → tick_seeded plan at ≡ at

-- ---- "a seeded day of plain grants and seeded ticks"

pub data DayCall : Type 0 where
  grants_plainly : ℕ → DayCall
  ticks_by_seed : DayCall

-- a grant draws nothing
unfoldable pub day_step : Plan → DayCall → Seeded → Seeded
day_step plan (grants_plainly g) at = record { state = step plan (grants g) at.state; seed = at.seed }
day_step plan ticks_by_seed at = tick_seeded plan at

unfoldable pub run_day : Plan → List DayCall → Seeded → Seeded
run_day plan [] at = at
run_day plan (call ∷ day) at = run_day plan day (day_step plan call at)

-- the plain call that a call of the day is
abbrev pub plain_call : DayCall → Seeded → Call
plain_call (grants_plainly g) at = grants g
plain_call ticks_by_seed at = ticks (drawn at.state at.seed)

-- the plain calls of a day, refused ones included
unfoldable pub plain_calls : Plan → List DayCall → Seeded → List Call
plain_calls plan [] at = []
plain_calls plan (call ∷ day) at = plain_call call at ∷ plain_calls plan day (day_step plan call at)

-- "the refused ones left out"
abbrev pub calls_kept : Plan → List DayCall → Seeded → List Call
calls_kept plan day at = accepted_calls plan at.state (plain_calls plan day at)

-- "can be written as an ordinary log"
abbrev pub day_log : Plan → List DayCall → Seeded → List ℕ
day_log plan day at = written (calls_kept plan day at)

-- a day that begins with this seed after these calls
abbrev pub after_calls : Plan → List Call → ℕ → Seeded
after_calls plan calls seed = record { state = (run plan calls).state; seed = seed }

pub record DayAsLog (plan : Plan) (calls : List Call) (seed : ℕ) (day : List DayCall) : Type 0 where
  -- its plain calls, and those of its log, have one history, so that every promise of a list of calls is one of a seeded day; it ends in
  -- the state of the day
  pub same_history : run plan (calls ++ calls_kept plan day (after_calls plan calls seed))
      ≡ run plan (calls ++ plain_calls plan day (after_calls plan calls seed))
  pub same_state : (run plan (calls ++ plain_calls plan day (after_calls plan calls seed))).state
      ≡ (run_day plan day (after_calls plan calls seed)).state
  -- the seed is then the state after as many draws as workers were granted at all its accepted ticks (request U6's sum), and a grant makes
  -- none
  pub draws_made : (run_day plan day (after_calls plan calls seed)).seed
      ≡ seed_after (granted_ticks (allotment (run plan calls).state) (calls_kept plan day (after_calls plan calls seed))) seed
  -- the log is bytes; at most 64 choices are a tick's, which fit its 7 bits
  pub in_bytes : (byte : ℕ) → Memᴰ byte (day_log plan day (after_calls plan calls seed)) → byte < 256
  pub few_choices : (choices : List ℕ) → Memᴰ (ticks choices) (calls_kept plan day (after_calls plan calls seed)) →
      length choices ≤ most_workers
  -- it is whole, and read as the calls that it was written from
  pub whole : log_answer (day_log plan day (after_calls plan calls seed)) ≡ accepted
  pub read_back : (entries (day_log plan day (after_calls plan calls seed))).calls ≡ calls_kept plan day (after_calls plan calls seed)
  -- "that ends in the same record", and refuses nothing
  pub same_end : run_log plan (day_log plan day (after_calls plan calls seed)) (run plan calls).state
      ≡ record { state = (run_day plan day (after_calls plan calls seed)).state; refusals = 0 }
