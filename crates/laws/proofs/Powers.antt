-- The open quantum, and what its end does to the desire: the desire is a count of the ladder, at most 64; an inefficient end takes the
-- power down by one and is never met at a desire of 1; an efficient and satisfied end takes it up by one or, at the top, leaves it.
-- Assumes of a tick with a worker granted that it does a work or mug cycle (progress).
use mathlib.Core.Path.{◌≡◌, refl, sym, ap, ◌∙◌}
use mathlib.Core.Bool.{Bool, true, false, cond, not}
use mathlib.Core.List.{List, [], ◌∷◌}
use Prim.Native.Nat.{ℕ, zero, suc, ◌*◌, ◌≤◌, ◌<◌}
use native.Mathlib.Omega.{arith}
use native.Mathlib.Nat.{mul-zero, mul-one, mul-le-mul_right}
use lib.Dec.{leb}
use borrow.Author.Tests.{leb-true, leb-false, eqb-true}
use Rattle.model.specs.Plan.{Growth, Plan, Terms}
use Rattle.model.specs.Machine.{Wish, State, idle, opened, allotment, finished, ticks_of, fresh, grant, ticked, closes, closed}
use Rattle.model.specs.Machine.{efficient, satisfied, efficient_now, satisfied_now, lowered, higher, raised, next_wish, desire_at, wish_at}
use Rattle.model.specs.Machine.{most_workers, Note}
use Rattle.model.specs.History.{History, ClosedQuantum, none, begun_with, verdict, beginning, history_grant}
use Rattle.model.specs.Statements.{SoundTerms, ending}
use Rattle.lists.proofs.Tests.{and_right}
use Rattle.laws.proofs.Accepted.{GrantAccepted, TickAccepted}
use Rattle.laws.proofs.Runs.{history_noted, history_ticked, history_closed}
use Rattle.laws.proofs.Ladder.{Ladder, ladder_of}
use Rattle.laws.proofs.Grants.{grant_allotment}
use Rattle.laws.proofs.Counting.{Progressing, cycles_spend}

-- ---- the open quantum

-- a quantum is open and has had t ticks
pub record Within (h : History) (t : ℕ) : Type 0 where
  pub ticks_had : h.state.quantum ≡ opened t
  pub as_begun : h.current ≡ begun_with h.state.wish (allotment h.state)
  pub no_more : allotment h.state ≤ h.state.wish.desire
  -- "each tick with a worker granted does at least one work or mug tick"
  pub used : 1 ≤ allotment h.state → t ≤ h.state.execution.counts.usage

pub data Phase (h : History) : Type 0 where
  between : h.state.quantum ≡ idle → h.current ≡ none → Phase h
  within : (t : ℕ) → Within h t → Phase h

pub phase_start : (plan : Plan) → Phase (beginning plan)
unfolding beginning fresh
phase_start plan = between refl refl

pub phase_noted : (h : History) (note : Note) → Phase h → Phase (history_noted note h)
phase_noted h note (between is_idle no_current) = between is_idle no_current
phase_noted h note (within t w) =
    within t (record { ticks_had = w.ticks_had; as_begun = w.as_begun; no_more = w.no_more; used = w.used })

pub phase_granted : (g : ℕ) (h : History) → GrantAccepted g h.state → Phase (history_grant g h)
unfolding history_grant grant
phase_granted g h asked =
    let there = grant_allotment g h.state in
    within 0
    (record {
      ticks_had = refl;
      as_begun = ap (begun_with h.state.wish) (sym there);
      no_more = omega arith;
      used = λ some. omega arith;
    })

module _ (plan : Plan) (choices : List ℕ) (h : History) (asked : TickAccepted choices h.state)
    (moves : Progressing plan.graph choices h.state.execution)
  where
    within_ticked : (t : ℕ) → Within h t → Within (history_ticked plan choices h) (suc t)
    unfolding ticked
    within_ticked t w =
        let counted = cycles_spend plan.graph 0 choices h.state.execution (omega (arith, asked.one_each)) in
        record {
          ticks_had = ap (λ q. opened (suc (ticks_of q))) w.ticks_had;
          as_begun = w.as_begun ∙ ap (begun_with h.state.wish) (sym counted.workers);
          no_more = omega arith;
          used =
              λ some.
              let had : 1 ≤ allotment h.state = omega arith in
              omega (arith, moves had, w.used had);
        }

    pub phase_ticked : Phase h → Phase (history_ticked plan choices h)
    phase_ticked (between is_idle no_current) =
        let opens : opened _ ≡ idle = sym asked.open_quantum ∙ is_idle in
        let z : ◌≡◌ {A = ℕ} 0 1 = cc in
        absurd (omega arith)
    phase_ticked (within t w) = within (suc t) (within_ticked t w)

pub phase_closed : (plan : Plan) (h : History) → Phase (history_closed plan h)
unfolding closed
phase_closed plan h = between refl refl

-- ---- the quantum that closes

pub record Closing (plan : Plan) (h : History) : Type 0 where
  -- what the history records of it, from the counts with which it began, is what the state shows at its end
  pub verdict_is : verdict plan h.current h.state.execution.counts.usage ≡ ending plan h.state ∷ []
  pub open_at_end : h.state.quantum ≡ opened plan.terms.quantum_length
  pub no_more : allotment h.state ≤ h.state.wish.desire
  pub used : 1 ≤ allotment h.state → plan.terms.quantum_length ≤ h.state.execution.counts.usage

last_tick : (plan : Plan) (s : State) → closes plan s ≡ true → ticks_of s.quantum ≡ plan.terms.quantum_length
unfolding closes
last_tick plan s closing = eqb-true _ _ (and_right (not (finished s.execution)) _ closing)

module _ (plan : Plan) (sound : SoundTerms plan.terms) (h : History) (closing : closes plan h.state ≡ true) where
  pub at_end : Phase h → Closing plan h
  at_end (between is_idle no_current) =
      let last = last_tick plan h.state closing in
      let none_had : ticks_of h.state.quantum ≡ 0 = ap ticks_of is_idle in
      absurd (omega (arith, sound.timed))
  at_end (within t w) =
      let last = last_tick plan h.state closing in
      let had : ticks_of h.state.quantum ≡ t = ap ticks_of w.ticks_had in
      record {
        verdict_is = ap (λ c. verdict plan c h.state.execution.counts.usage) w.as_begun;
        open_at_end = w.ticks_had ∙ ap opened (sym had ∙ last);
        no_more = w.no_more;
        used = λ some. omega (arith, w.used some);
      }

-- ---- what the end does to the desire

-- the three ways in which a quantum q of so much usage ends, by the power of the desire before and after it
pub data QuantumEnd (terms : Terms) (q : ClosedQuantum) (usage : ℕ) : ℕ → ℕ → Type 0 where
  lowers : {k : ℕ} → q.was_efficient ≡ false → 1 < q.wanted → QuantumEnd terms q usage (suc k) k
  raises : {k : ℕ} → q.was_efficient ≡ true → q.was_satisfied ≡ true → q.granted ≡ q.wanted →
      terms.utilization * terms.quantum_length * q.granted ≤ 100 * usage → QuantumEnd terms q usage k (suc k)
  stays : {k : ℕ} → q.was_efficient ≡ true → terms.utilization * terms.quantum_length * q.granted ≤ 100 * usage →
      QuantumEnd terms q usage k k

-- the desire is that of its power, and at most 64
pub record OnLadder (growth : Growth) (wish : Wish) : Type 0 where
  pub is_count : wish.desire ≡ desire_at growth wish.power
  pub at_most : wish.desire ≤ most_workers

-- "Wanted 1 is never met by an inefficient round."
one_efficient : (terms : Terms) → SoundTerms terms → (granted usage : ℕ) → granted ≤ 1 → (1 ≤ granted → terms.quantum_length ≤ usage) →
    terms.utilization * terms.quantum_length * granted ≤ 100 * usage
one_efficient terms sound zero usage few used = omega (arith, mul-zero (terms.utilization * terms.quantum_length))
one_efficient terms sound (suc zero) usage few used =
    let most = mul-le-mul_right terms.quantum_length sound.percent in
    omega (arith, mul-one (terms.utilization * terms.quantum_length), used (omega arith))
one_efficient terms sound (suc (suc more)) usage few used = absurd (omega arith)

-- a wish on the ladder is that of its power
on_rung : {growth : Growth} {wish : Wish} → OnLadder growth wish → wish ≡ wish_at growth wish.power
on_rung {growth} {wish} p = ap (λ (d : ℕ). record { power = wish.power; desire = d }) p.is_count

module _ (plan : Plan) (sound : SoundTerms plan.terms) (s : State)
    (no_more : allotment s ≤ s.wish.desire)
    (used : 1 ≤ allotment s → plan.terms.quantum_length ≤ s.execution.counts.usage)
    (p : OnLadder plan.terms.growth s.wish)
  where
    abbrev growth : Growth
    growth = plan.terms.growth

    abbrev k : ℕ
    k = s.wish.power

    ladder : Ladder growth
    ladder = ladder_of growth sound.responsive

    -- what is wanted after the end is on the ladder, and how the quantum ended
    pub record Ended (wish : Wish) : Type 0 where
      pub power : OnLadder growth wish
      pub end : QuantumEnd plan.terms (ending plan s) s.execution.counts.usage k wish.power

    enough : efficient_now plan s ≡ true →
        plan.terms.utilization * plan.terms.quantum_length * allotment s ≤ 100 * s.execution.counts.usage
    unfolding efficient
    enough is_efficient = leb-true _ _ is_efficient

    above_one : efficient_now plan s ≡ false → 1 < s.wish.desire
    unfolding efficient
    above_one inefficient = go (leb s.wish.desire 1) refl
      where
        go : (b : Bool) → leb s.wish.desire 1 ≡ b → 1 < s.wish.desire
        go true one =
            let few : s.wish.desire ≤ 1 = leb-true _ _ one in
            let short = leb-false _ (100 * s.execution.counts.usage) inefficient in
            absurd (omega (arith, one_efficient plan.terms sound (allotment s) s.execution.counts.usage (omega arith) used))
        go false more = leb-false _ _ more

    -- so k is above 0, and the end leads down by one
    lowered_end : efficient_now plan s ≡ false → (j : ℕ) → k ≡ j → Ended (lowered growth s.wish)
    lowered_end inefficient zero same =
        absurd (omega (arith, p.is_count, ap (desire_at growth) same, ladder.starts, above_one inefficient))
    lowered_end inefficient (suc j) same =
        let lower = ap (lowered growth) (on_rung p ∙ ap (wish_at growth) same) ∙ ladder.down j in
        rw lower
        (record {
          power = record { is_count = refl; at_most = omega (arith, p.at_most, p.is_count, ap (desire_at growth) same, ladder.rises j) };
          end = rw same (lowers inefficient (above_one inefficient));
        })

    raised_end : efficient_now plan s ≡ true → satisfied_now s ≡ true → Ended (raised growth s.wish)
    unfolding satisfied
    raised_end is_efficient is_satisfied =
        rw (ap (higher growth) (on_rung p) ∙ ladder.up k) (go (leb (desire_at growth (suc k)) most_workers) refl)
      where
        go : (b : Bool) → leb (desire_at growth (suc k)) most_workers ≡ b → Ended (cond b (wish_at growth (suc k)) s.wish)
        go true room =
            record {
              power = record { is_count = refl; at_most = leb-true _ _ room };
              end = raises is_efficient is_satisfied (eqb-true _ _ is_satisfied) (enough is_efficient);
            }
        go false above = record { power = p; end = stays is_efficient (enough is_efficient) }

    next_end : (eff sat : Bool) → efficient_now plan s ≡ eff → satisfied_now s ≡ sat → Ended (next_wish growth s.wish eff sat)
    unfolding next_wish
    next_end false sat e f = lowered_end e k refl
    next_end true true e f = raised_end e f
    next_end true false e f = record { power = p; end = stays e (enough e) }

    pub ended : Ended (closed plan s).wish
    unfolding closed
    ended = next_end (efficient_now plan s) (satisfied_now s) refl refl
