-- Request U13: a seeded tick is the plain tick with the drawn choices, and neither 16 nor 17 refuses it, since there is a choice for each
-- granted worker and each is taken modulo their number (`seeded_is_plain`). A seeded day with the refused calls left out is a log that is
-- whole, refuses nothing and ends in the day's state (`day_as_log`): an accepted grant is of at most 64, a tick has at most 64 choices
-- below 64, and so each call has an entry (Written).
-- Assumes nothing.
use mathlib.Core.Path.{◌≡◌, refl, sym, ap, subst, ◌∙◌}
use mathlib.Core.Bool.{Bool, true, false, cond, not}
use mathlib.Core.Logic.{◌⊎◌, inl, inr}
use mathlib.Core.List.Memᴰ
use mathlib.Core.List.{List, [], ◌∷◌, ◌++◌, Memᴰ}
use Prim.Native.Nat.{ℕ, zero, suc, ◌+◌, ◌/◌, ◌%◌, ◌≤◌, ◌<◌}
use native.Mathlib.Nat.{mod-lt, zero-add, suc-add}
use native.Mathlib.Omega.{arith}
use native.Mathlib.Numerals.{add-one}
use lib.Dec.{ltb}
use lib.ListN.{length, get_or}
use borrow.Author.Tests.{lt-ltb, ltb-true, eq-eqb}
use Rattle.model.specs.Tests.{every}
use Rattle.model.specs.Questions.{Answer, accepted, refused, ask, first_no, by_answer}
use Rattle.model.specs.Plan.{Plan}
use Rattle.model.specs.Machine.{State, allotment, finished, no_quantum_open, most_workers, grant, tick, tick_questions}
use Rattle.model.specs.Machine.{call_answer, step}
use Rattle.model.specs.Machine.{Call, grants, ticks, offers, opens, withdraws}
use Rattle.model.specs.History.{History, history_step, run, run_from}
use Rattle.model.specs.Statements.{SoundPlan}
use Rattle.model.specs.WholeTicks.{accepted_calls, granted_ticks}
use Rattle.model.specs.Log.{Entries, entries, log_answer, run_calls, run_log, written}
use Rattle.model.specs.Seeds.{next_seed, drawn_choice, draws, seed_after, Seeded, drawn, seeded_questions, seeded_answer, tick_seeded}
use Rattle.model.specs.Seeds.{SeededIsPlain, DayCall, grants_plainly, ticks_by_seed, day_step, run_day, plain_call, plain_calls}
use Rattle.model.specs.Seeds.{calls_kept, after_calls, DayAsLog}
use Rattle.lists.proofs.Tests.{both}
use Rattle.lists.proofs.Lists.{every_at}
use Rattle.lists.proofs.Questions.{none_refuses}
use Rattle.laws.proofs.Accepted.{grant_accepted, tick_accepted}
use Rattle.laws.proofs.Grants.{grant_allotment}
use Rattle.laws.proofs.WholeTicks.{tick_allotment}
use Rattle.laws.proofs.Runs.{run_append, run_state, step_state}
use Rattle.laws.proofs.Written.{Sayable, AllSayable, reads_back, in_bytes, kept_history, kept_runs}
use Rattle.laws.proofs.Carried.{carried}
use Rattle.laws.proofs.Lines.{lines_bounded}

-- ---- draws

pub draws_length : (granted n seed : ℕ) → length (draws granted n seed) ≡ n
unfolding draws
draws_length granted zero seed = refl
draws_length granted (suc n) seed = ap suc (draws_length granted n (next_seed seed))

-- each choice is taken modulo the granted count; where that is 0 none is drawn
pub draws_below : (granted n seed : ℕ) → n ≤ granted → every (λ choice. ltb choice granted) (draws granted n seed) ≡ true
unfolding draws every drawn_choice
draws_below granted zero seed few = refl
draws_below granted (suc n) seed few =
    both (ltb (drawn_choice granted seed) granted) (every (λ choice. ltb choice granted) (draws granted n (next_seed seed)))
    (lt-ltb (drawn_choice granted seed) granted (mod-lt (next_seed seed / 65536) (omega arith)))
    (draws_below granted n (next_seed seed) (omega arith))

pub draws_at : (granted n seed w : ℕ) → w < n → get_or (draws granted n seed) w 0 ≡ seed_after (suc w) seed / 65536 % granted
unfolding draws seed_after drawn_choice
draws_at granted zero seed w l = absurd (omega arith)
draws_at granted (suc n) seed zero l = refl
draws_at granted (suc n) seed (suc w) l = draws_at granted n (next_seed seed) w (omega arith)

-- one draw more
pub seed_snoc : (n seed : ℕ) → seed_after (suc n) seed ≡ next_seed (seed_after n seed)
unfolding seed_after
seed_snoc zero seed = refl
seed_snoc (suc n) seed = seed_snoc n (next_seed seed)

-- ---- a seeded tick

module _ (s : State) (seed : ℕ) where
  pub drawn_length : length (drawn s seed) ≡ allotment s
  unfolding drawn
  drawn_length = draws_length (allotment s) (allotment s) seed

  pub drawn_below : every (λ choice. ltb choice (allotment s)) (drawn s seed) ≡ true
  unfolding drawn
  drawn_below = draws_below (allotment s) (allotment s) seed (omega arith)

  drawn_at : (w : ℕ) → w < allotment s → get_or (drawn s seed) w 0 ≡ seed_after (suc w) seed / 65536 % allotment s
  unfolding drawn
  drawn_at w l = draws_at (allotment s) (allotment s) seed w l

  -- 16 and 17 are answered by yes
  pub same_answer : seeded_answer s ≡ call_answer (ticks (drawn s seed)) s
  unfolding seeded_answer seeded_questions call_answer tick_questions first_no
  same_answer = rw (eq-eqb (length (drawn s seed)) (allotment s) drawn_length, drawn_below) refl

only_11_or_15 : (s : State) (n : ℕ) → seeded_answer s ≡ refused n → (n ≡ 11) ⊎ (n ≡ 15)
unfolding seeded_answer seeded_questions first_no
only_11_or_15 s n is = go (finished s.execution) (no_quantum_open s.quantum) is
  where
    told : {k : ℕ} → refused k ≡ refused n → n ≡ k
    told e = cc

    go : (done idle : Bool) → first_no (ask (not done) 11 ∷ ask (not idle) 15 ∷ []) ≡ refused n → (n ≡ 11) ⊎ (n ≡ 15)
    go true idle e = inl (told e)
    go false true e = inr (told e)
    go false false e = absurd (none_refuses n e)

module _ (plan : Plan) (at : Seeded) where
  abbrev s : State
  s = at.state

  abbrev choices : List ℕ
  choices = drawn at.state at.seed

  seeded_state : (tick_seeded plan at).state ≡ step plan (ticks choices) s
  unfolding tick_seeded step
  seeded_state = rw (same_answer s at.seed) (go (call_answer (ticks choices) s))
    where
      go : (a : Answer) → (by_answer a (record { state = tick plan choices s; seed = seed_after (allotment s) at.seed }) at).state
          ≡ by_answer a (tick plan choices s) s
      go accepted = refl
      go (refused n) = refl

  pub seeded_is_plain : SeededIsPlain plan at
  unfolding tick_seeded
  seeded_is_plain =
      record {
        same_answer = same_answer s at.seed;
        only_11_or_15 = only_11_or_15 s;
        same_state = seeded_state;
        one_each = drawn_length s at.seed;
        in_order = λ w l. in_order w l;
        draws_made = λ is. rw is refl;
        stays = λ n is. rw is refl;
      }
    where
      in_order : (w : ℕ) → w < allotment s → get_or choices w 0 ≡ seed_after (w + 1) at.seed / 65536 % allotment s
      in_order w l = rw add-one (drawn_at s at.seed w l)

  -- ---- a day

  -- a call of the day is its plain call
  day_step_state : (call : DayCall) → (day_step plan call at).state ≡ step plan (plain_call call at) s
  unfolding day_step
  day_step_state (grants_plainly g) = refl
  day_step_state ticks_by_seed = seeded_state

-- from a history in the day's state, the plain calls end in its state
day_history : (plan : Plan) (day : List DayCall) (at : Seeded) (h : History) → h.state ≡ at.state →
    (run_from plan h (plain_calls plan day at)).state ≡ (run_day plan day at).state
unfolding run_from plain_calls run_day
day_history plan [] at h same = same
day_history plan (call ∷ day) at h same =
    day_history plan day (day_step plan call at) (history_step plan (plain_call call at) h)
    (step_state plan (plain_call call at) h ∙ ap (step plan (plain_call call at)) same ∙ sym (day_step_state plan at call))

-- ---- the draws of a day

seed_add : (m n seed : ℕ) → seed_after (m + n) seed ≡ seed_after n (seed_after m seed)
unfolding seed_after
seed_add zero n seed = ap (λ (k : ℕ). seed_after k seed) (zero-add n)
seed_add (suc m) n seed = ap (λ (k : ℕ). seed_after k seed) (suc-add m n) ∙ seed_add m n (next_seed seed)

-- a call of the day draws for the workers of an accepted tick, and for no other
module _ (plan : Plan) (at : Seeded) (later : List Call) where
  abbrev before : State
  before = at.state

  granted_draws : (g : ℕ) → seed_after (granted_ticks (allotment (step plan (grants g) before)) later) at.seed
      ≡ seed_after (granted_ticks (allotment before) (by_answer (call_answer (grants g) before) (grants g ∷ []) [] ++ later)) at.seed
  unfolding step granted_ticks
  granted_draws g = go (call_answer (grants g) before)
    where
      go : (a : Answer) → seed_after (granted_ticks (allotment (by_answer a (grant g before) before)) later) at.seed
          ≡ seed_after (granted_ticks (allotment before) (by_answer a (grants g ∷ []) [] ++ later)) at.seed
      go accepted = ap (λ (n : ℕ). seed_after (granted_ticks n later) at.seed) (grant_allotment g before)
      go (refused n) = refl

  abbrev made : Call
  made = ticks (drawn before at.seed)

  ticked_draws : seed_after (granted_ticks (allotment (step plan made before)) later) (tick_seeded plan at).seed
      ≡ seed_after (granted_ticks (allotment before) (by_answer (call_answer made before) (made ∷ []) [] ++ later)) at.seed
  unfolding step tick_seeded granted_ticks
  ticked_draws = rw (same_answer before at.seed) (go (call_answer made before) refl)
    where
      new : Seeded
      new = record { state = tick plan (drawn before at.seed) before; seed = seed_after (allotment before) at.seed }

      go : (a : Answer) → call_answer made before ≡ a →
          seed_after (granted_ticks (allotment (by_answer a new.state before)) later) (by_answer a new at).seed
          ≡ seed_after (granted_ticks (allotment before) (by_answer a (made ∷ []) [] ++ later)) at.seed
      go accepted is =
          ap (λ (n : ℕ). seed_after (granted_ticks n later) new.seed)
          (tick_allotment plan (drawn before at.seed) before (tick_accepted (drawn before at.seed) before is))
          ∙ sym (seed_add (allotment before) (granted_ticks (allotment before) later) at.seed)
      go (refused n) is = refl

  call_draws : (call : DayCall) → seed_after (granted_ticks (allotment (day_step plan call at).state) later) (day_step plan call at).seed
      ≡ seed_after (granted_ticks (allotment before)
      (by_answer (call_answer (plain_call call at) before) (plain_call call at ∷ []) [] ++ later)) at.seed
  unfolding day_step
  call_draws (grants_plainly g) = granted_draws g
  call_draws ticks_by_seed =
      ap (λ (s : State). seed_after (granted_ticks (allotment s) later) (tick_seeded plan at).seed) (seeded_state plan at) ∙ ticked_draws

-- as many as workers are granted at its accepted ticks
day_draws : (plan : Plan) (day : List DayCall) (at : Seeded) →
    (run_day plan day at).seed ≡ seed_after (granted_ticks (allotment at.state) (calls_kept plan day at)) at.seed
unfolding run_day plain_calls accepted_calls granted_ticks seed_after
day_draws plan [] at = refl
day_draws plan (call ∷ day) at =
    let after = day_step plan call at in
    day_draws plan day after
    ∙ call_draws plan at (calls_kept plan day after) call
    ∙ ap
    (λ (s : State). seed_after (granted_ticks (allotment at.state)
    (by_answer (call_answer (plain_call call at) at.state) (plain_call call at ∷ []) []
    ++ accepted_calls plan s (plain_calls plan day after)))
    at.seed)
    (day_step_state plan at call)

-- ---- each call that is kept has an entry

-- a grant of at most 64; at most 64 choices, below 64 each
abbrev UpTo64 : Call → Type 0
UpTo64 (grants g) = g ≤ most_workers
UpTo64 (ticks choices) = (length choices ≤ most_workers) × ((choice : ℕ) → Memᴰ choice choices → choice < most_workers)
UpTo64 (offers g) = ⊥
UpTo64 (opens c) = ⊥
UpTo64 withdraws = ⊥

sayable : (call : Call) → UpTo64 call → Sayable call
sayable (grants g) few = omega (arith, few)
sayable (ticks choices) (few, small) = (omega (arith, few), λ choice m. omega (arith, small choice m))
sayable (offers g) none = none
sayable (opens c) none = none
sayable withdraws none = none

module _ {plan : Plan} (sound : SoundPlan plan) where
  few_granted : (calls : List Call) → allotment (run plan calls).state ≤ most_workers
  few_granted calls =
      let bounded = lines_bounded sound calls in
      omega (arith, bounded.present_included, bounded.at_most_64)

  call_up_to_64 : (calls : List Call) (seed : ℕ) (call : DayCall) → let at = after_calls plan calls seed in
      call_answer (plain_call call at) at.state ≡ accepted → UpTo64 (plain_call call at)
  call_up_to_64 calls seed (grants_plainly g) is =
      omega (arith, (grant_accepted g (run plan calls).state is).wanted, (carried sound calls).desire.at_most)
  call_up_to_64 calls seed ticks_by_seed is =
      let s = (run plan calls).state in (
        omega (arith, drawn_length s seed, few_granted calls),
        λ choice m.
            let inside = every_at (λ c. ltb c (allotment s)) (drawn s seed) (drawn_below s seed) choice m in
            omega (arith, ltb-true choice (allotment s) inside, few_granted calls),
      )

  -- the day goes on after its first call
  day_goes_on : (calls : List Call) (seed : ℕ) (call : DayCall) → let at = after_calls plan calls seed in
      day_step plan call at ≡ after_calls plan (calls ++ plain_call call at ∷ []) (day_step plan call at).seed
  day_goes_on calls seed call =
      let at = after_calls plan calls seed in
      ap (λ (s : State). record { state = s; seed = (day_step plan call at).seed })
      (day_step_state plan at call ∙ sym (run_state plan calls (plain_call call at)))

  kept_up_to_64 : (day : List DayCall) (calls : List Call) (seed : ℕ) (call : Call) →
      Memᴰ call (calls_kept plan day (after_calls plan calls seed)) → UpTo64 call
  unfolding plain_calls accepted_calls
  kept_up_to_64 [] calls seed call m = absurd (Memᴰ.not-nil m)
  kept_up_to_64 (first ∷ day) calls seed call m =
      go (call_answer plain at.state) refl
      (kept_up_to_64 day (calls ++ plain ∷ []) (day_step plan first at).seed call)
      (Memᴰ.append_cases (by_answer (call_answer plain at.state) (plain ∷ []) []) m)
    where
      at : Seeded
      at = after_calls plan calls seed

      plain : Call
      plain = plain_call first at

      later : List Call
      later = accepted_calls plan (step plan plain at.state) (plain_calls plan day (day_step plan first at))

      its_later : Memᴰ call later →
          Memᴰ call (calls_kept plan day (after_calls plan (calls ++ plain ∷ []) (day_step plan first at).seed))
      its_later n =
          subst (λ (a : Seeded). Memᴰ call (calls_kept plan day a)) (day_goes_on calls seed first)
          (subst (λ (s : State). Memᴰ call (accepted_calls plan s (plain_calls plan day (day_step plan first at))))
          (sym (day_step_state plan at first)) n)

      go : (a : Answer) → call_answer plain at.state ≡ a →
          (Memᴰ call (calls_kept plan day (after_calls plan (calls ++ plain ∷ []) (day_step plan first at).seed)) → UpTo64 call) →
          Memᴰ call (by_answer a (plain ∷ []) []) ⊎ Memᴰ call later → UpTo64 call
      go accepted is onward (inl here) = rw (Memᴰ.eq_of_singleton here) (call_up_to_64 calls seed first is)
      go (refused n) is onward (inl here) = absurd (Memᴰ.not-nil here)
      go a is onward (inr n) = onward (its_later n)

  -- ---- the day as a log

  module _ (calls : List Call) (seed : ℕ) (day : List DayCall) where
    abbrev begun : Seeded
    begun = after_calls plan calls seed

    abbrev kept : List Call
    kept = calls_kept plan day begun

    all_sayable : AllSayable kept
    all_sayable call m = sayable call (kept_up_to_64 day calls seed call m)

    read_back : entries (written kept) ≡ record { calls = kept; broken = false }
    read_back = reads_back kept all_sayable

    ends : (run_from plan (run plan calls) (plain_calls plan day begun)).state ≡ (run_day plan day begun).state
    ends = day_history plan day begun (run plan calls) refl

    pub day_as_log : DayAsLog plan calls seed day
    unfolding log_answer run_log
    day_as_log =
        record {
          same_history =
              run_append plan calls kept
              ∙ kept_history plan (plain_calls plan day begun) (run plan calls)
              ∙ sym (run_append plan calls (plain_calls plan day begun));
          same_state = ap (λ (h : History). h.state) (run_append plan calls (plain_calls plan day begun)) ∙ ends;
          draws_made = day_draws plan day begun;
          in_bytes = in_bytes kept all_sayable;
          few_choices = λ choices m. (kept_up_to_64 day calls seed (ticks choices) m).0;
          whole = ap (λ (e : Entries). cond e.broken (refused 18) accepted) read_back;
          read_back = ap (λ (e : Entries). e.calls) read_back;
          same_end =
              ap (λ (e : Entries). run_calls plan e.calls (record { state = (run plan calls).state; refusals = 0 })) read_back
              ∙ kept_runs plan (plain_calls plan day begun) (run plan calls) 0
              ∙ ap (λ (s : State). record { state = s; refusals = 0 }) ends;
        }
