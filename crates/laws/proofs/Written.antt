-- A log that is written is read back: of calls that an entry can say, a grant of at most 127 and a tick of at most 127 choices that are
-- bytes, what is written is bytes (`in_bytes`) and whole entries of these calls (`reads_back`). And of any calls those that are accepted
-- have the same history (`kept_history`), and run as a log's calls refuse nothing (`kept_runs`).
-- Assumes nothing.
use mathlib.Core.Path.{◌≡◌, refl, sym, ap, ◌∙◌}
use mathlib.Core.Bool.{false}
use mathlib.Core.Logic.{◌⊎◌, inl, inr}
use mathlib.Core.List.Memᴰ
use mathlib.Core.List.{List, [], ◌∷◌, ◌++◌, Memᴰ}
use Prim.Native.Nat.{ℕ, zero, suc, ◌+◌, ◌-◌, ◌≤◌, ◌<◌}
use native.Mathlib.Omega.{arith}
use lib.ListN.{length, length-append}
use lib.Seq.{take-append_seam, drop-append_seam}
use borrow.Author.Tests.{lt-ltb, le-ltb, le-leb}
use Rattle.model.specs.Questions.{Answer, accepted, refused, by_answer}
use Rattle.model.specs.Plan.{Plan}
use Rattle.model.specs.Machine.{State, Call, grants, ticks, offers, opens, withdraws, call_answer, step}
use Rattle.model.specs.History.{History, history_step, run_from}
use Rattle.model.specs.WholeTicks.{accepted_calls}
use Rattle.model.specs.Log.{Entries, entry_then, entries_up_to, entries, entry_bytes, written}
use Rattle.model.specs.Log.{refusals_in, Ran, run_calls}
use Rattle.laws.proofs.Runs.{step_state}

-- ---- what an entry can say

-- "count in the low 7 bits"; "number of choices in the low 7 bits, then one byte a choice"
abbrev pub Sayable : Call → Type 0
Sayable (grants g) = g < 128
Sayable (ticks choices) = (length choices < 128) × ((choice : ℕ) → Memᴰ choice choices → choice < 256)
Sayable (offers g) = ⊥
Sayable (opens c) = ⊥
Sayable withdraws = ⊥

abbrev pub AllSayable : List Call → Type 0
AllSayable calls = (call : Call) → Memᴰ call calls → Sayable call

abbrev read : List Call → Entries
read calls = record { calls = calls; broken = false }

sub_128 : (n : ℕ) → 128 + n - 128 ≡ n
sub_128 n = omega arith

-- an entry is read as the call that it was written from, and then the others are
one_read : (call : Call) (others : List ℕ) (most : ℕ) → Sayable call →
    entries_up_to (suc most) (entry_bytes call ++ others) ≡ entry_then call (entries_up_to most others)
unfolding entries_up_to entry_bytes
one_read (offers _) others most small = elim small [ ]
one_read (opens _) others most small = elim small [ ]
one_read withdraws others most small = elim small [ ]
one_read (grants g) others most small = rw (lt-ltb g 128 small, le-leb 0 (length others) (omega arith)) refl
one_read (ticks choices) others most sayable =
    rw (
      le-ltb (128 + length choices) 128 (omega arith),
      sub_128 (length choices),
      le-leb (length choices) (length (choices ++ others)) (omega (arith, length-append choices others)),
      take-append_seam choices others,
      drop-append_seam choices others,
    )
    refl

none_read : (most : ℕ) → entries_up_to most [] ≡ read []
unfolding entries_up_to
none_read zero = refl
none_read (suc most) = refl

written_read : (calls : List Call) (most : ℕ) → AllSayable calls → length (written calls) ≤ most →
    entries_up_to most (written calls) ≡ read calls
unfolding written entry_bytes
written_read [] most sayable few = none_read most
written_read (grants g ∷ calls) zero sayable few = absurd (omega arith)
written_read (grants g ∷ calls) (suc most) sayable few =
    one_read (grants g) (written calls) most (sayable (grants g) (Memᴰ.head refl))
    ∙ ap (entry_then (grants g)) (written_read calls most (λ call m. sayable call (Memᴰ.tail m)) (omega (arith, few)))
written_read (ticks choices ∷ calls) zero sayable few = absurd (omega arith)
written_read (ticks choices ∷ calls) (suc most) sayable few =
    one_read (ticks choices) (written calls) most (sayable (ticks choices) (Memᴰ.head refl))
    ∙ ap (entry_then (ticks choices))
    (written_read calls most (λ call m. sayable call (Memᴰ.tail m)) (omega (arith, few, length-append choices (written calls))))
written_read (offers g ∷ calls) most sayable few = absurd (sayable (offers g) (Memᴰ.head refl))
written_read (opens c ∷ calls) most sayable few = absurd (sayable (opens c) (Memᴰ.head refl))
written_read (withdraws ∷ calls) most sayable few = absurd (sayable withdraws (Memᴰ.head refl))

pub reads_back : (calls : List Call) → AllSayable calls → entries (written calls) ≡ read calls
unfolding entries
reads_back calls sayable = written_read calls (length (written calls)) sayable (omega arith)

-- ---- bytes

entry_in_bytes : (call : Call) → Sayable call → (byte : ℕ) → Memᴰ byte (entry_bytes call) → byte < 256
unfolding entry_bytes
entry_in_bytes (grants g) small byte (Memᴰ.head e) = omega (arith, small, e)
entry_in_bytes (grants g) small byte (Memᴰ.tail m) = absurd (Memᴰ.not-nil m)
entry_in_bytes (ticks choices) sayable byte (Memᴰ.head e) = omega (arith, sayable.0, e)
entry_in_bytes (ticks choices) sayable byte (Memᴰ.tail m) = sayable.1 byte m
entry_in_bytes (offers g) none byte m = absurd none
entry_in_bytes (opens c) none byte m = absurd none
entry_in_bytes withdraws none byte m = absurd none

pub in_bytes : (calls : List Call) → AllSayable calls → (byte : ℕ) → Memᴰ byte (written calls) → byte < 256
unfolding written
in_bytes [] sayable byte m = absurd (Memᴰ.not-nil m)
in_bytes (call ∷ calls) sayable byte m =
    go (Memᴰ.append_cases (entry_bytes call) m) (in_bytes calls (λ other n. sayable other (Memᴰ.tail n)) byte)
  where
    go : Memᴰ byte (entry_bytes call) ⊎ Memᴰ byte (written calls) → (Memᴰ byte (written calls) → byte < 256) → byte < 256
    go (inl here) onward = entry_in_bytes call (sayable call (Memᴰ.head refl)) byte here
    go (inr later) onward = onward later

-- ---- the refused ones left out

-- a refused call leaves the state
refused_stays : (plan : Plan) (call : Call) (s : State) (n : ℕ) → call_answer call s ≡ refused n → step plan call s ≡ s
unfolding step
refused_stays plan call s n is = rw is refl

-- a history after a refused call is the one before
refused_history : (plan : Plan) (call : Call) (h : History) (n : ℕ) → call_answer call h.state ≡ refused n → history_step plan call h ≡ h
unfolding history_step
refused_history plan call h n is = rw is refl

pub kept_history : (plan : Plan) (calls : List Call) (h : History) →
    run_from plan h (accepted_calls plan h.state calls) ≡ run_from plan h calls
unfolding run_from accepted_calls
kept_history plan [] h = refl
kept_history plan (call ∷ calls) h =
    go (call_answer call h.state) refl (rw (← step_state plan call h) (kept_history plan calls (history_step plan call h)))
  where
    after : History
    after = history_step plan call h

    go : (a : Answer) → call_answer call h.state ≡ a →
        run_from plan after (accepted_calls plan (step plan call h.state) calls) ≡ run_from plan after calls →
        run_from plan h (by_answer a (call ∷ []) [] ++ accepted_calls plan (step plan call h.state) calls) ≡ run_from plan after calls
    go accepted is same = same
    go (refused n) is same =
        ap (λ (before : History). run_from plan before (accepted_calls plan (step plan call h.state) calls))
        (sym (refused_history plan call h n is))
        ∙ same

abbrev after_none_refused : State → ℕ → Ran
after_none_refused s count = record { state = s; refusals = count }

-- an accepted call is not counted, and the others follow
one_accepted : (plan : Plan) (call : Call) (calls : List Call) (s : State) (count : ℕ) → call_answer call s ≡ accepted →
    run_calls plan (call ∷ calls) (after_none_refused s count) ≡ run_calls plan calls (after_none_refused (step plan call s) count)
unfolding run_calls
one_accepted plan call calls s count is =
    ap (λ (a : Answer). run_calls plan calls (after_none_refused (step plan call s) (count + refusals_in a))) is
    ∙ ap (λ (k : ℕ). run_calls plan calls (after_none_refused (step plan call s) k)) (omega arith)

pub kept_runs : (plan : Plan) (calls : List Call) (h : History) (count : ℕ) →
    run_calls plan (accepted_calls plan h.state calls) (after_none_refused h.state count)
    ≡ after_none_refused (run_from plan h calls).state count
unfolding run_from accepted_calls run_calls
kept_runs plan [] h count = refl
kept_runs plan (call ∷ calls) h count =
    go (call_answer call h.state) refl (rw (← step_state plan call h) (kept_runs plan calls (history_step plan call h) count))
  where
    after : State
    after = step plan call h.state

    later : List Call
    later = accepted_calls plan after calls

    go : (a : Answer) → call_answer call h.state ≡ a →
        run_calls plan later (after_none_refused after count)
        ≡ after_none_refused (run_from plan (history_step plan call h) calls).state count →
        run_calls plan (by_answer a (call ∷ []) [] ++ later) (after_none_refused h.state count)
        ≡ after_none_refused (run_from plan (history_step plan call h) calls).state count
    go accepted is onward = one_accepted plan call later h.state count is ∙ onward
    go (refused n) is onward =
        ap (λ (s : State). run_calls plan later (after_none_refused s count)) (sym (refused_stays plan call h.state n is)) ∙ onward
