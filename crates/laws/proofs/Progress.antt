-- Progress: in an unfinished job every tick with a worker granted does a work or a mug cycle. The least unworked task is ready, so some
-- deque has a task; with a muggable deque the first worker works or mugs; without one, thieves leave every deque that has a task with a
-- task, until its worker acts. Assumes nothing.
use mathlib.Core.Path.{◌≡◌, refl, sym, ap, ◌∙◌}
use mathlib.Core.Bool.{Bool, true, false}
use mathlib.Core.List.{List, [], ◌∷◌}
use Prim.Native.Nat.{ℕ, suc, ◌+◌, ◌≤◌, ◌<◌}
use native.Mathlib.Nat.{not-suc-le-zero}
use native.Mathlib.Omega.{arith}
use lib.Dec.{eqb}
use lib.ListN.{length}
use borrow.Author.Tests.{eqb-true, eqb-false}
use Rattle.model.specs.Tests.{occurrences}
use Rattle.model.specs.Plan.{Plan, Graph}
use Rattle.model.specs.Machine.{worked, Execution, deque_of, finished, work_cycle, mug_cycle, successful_steal, failed_steal}
use Rattle.model.specs.Machine.{cycle, cycles, Call}
use Rattle.model.specs.History.{history_step, history_tick, run}
use Rattle.model.specs.Statements.{SoundPlan, SoundGraph, Progress}
use Rattle.laws.specs.Invariants.{in_deques, Placed}
use Rattle.lists.proofs.Lists.{first_unset}
use Rattle.laws.proofs.Deques.{which_deque, filled_within}
use Rattle.laws.proofs.Stealing.{left_filled, victim_after, others_after}
use Rattle.laws.proofs.Readiness.{Waits, is_ready, above}
use Rattle.laws.proofs.Placement.{flags_of, waiting_stands}
use Rattle.laws.proofs.Cycles.{cycle_cases, cycle_allotment, cycles_onward}
use Rattle.laws.proofs.Meaning.{cycles_counted}
use Rattle.laws.proofs.Histories.{arranged, workers_placed}
use Rattle.laws.proofs.Counting.{spent, Progressing}
use Rattle.laws.proofs.Accepted.{TickAccepted, tick_accepted, tick_execution}

-- ---- some task waits

-- the least unworked task is ready: what comes before it has a smaller number
pub some_task_waits : {graph : Graph} {e : Execution} → SoundGraph graph → Placed graph e → finished e ≡ false →
    (t : ℕ) × Waits graph (worked e) t
unfolding finished
some_task_waits {graph} {e} sound placed unfinished =
    let first = first_unset (worked e) unfinished in (
      first.0,
      record {
        of_plan = rw (flags_of placed) at first.1;
        is_ready = is_ready graph (worked e) first.0 (λ p l m. first.3 p (above sound p first.0 l m));
        unworked = first.2;
      },
    )

-- where a task stands the deque is not empty
has_length : (t : ℕ) (d : List ℕ) → 1 ≤ occurrences t d → 1 ≤ length d
unfolding occurrences
has_length t [] h = h
has_length t (x ∷ d) h = omega arith

-- ---- the workers act one after the other

-- what worker w's cycle does: it works or mugs, or it steals, with an empty deque, and leaves every deque that has a task with a task
data Did (w : ℕ) (e after : Execution) : Type 0 where
  spends : spent e < spent after → Did w e after
  stole : deque_of e w ≡ [] → e.muggable ≡ [] → finished after ≡ finished e → spent after ≡ spent e →
      ((v : ℕ) → 1 ≤ length (deque_of e v) → 1 ≤ length (deque_of after v)) → Did w e after

-- a robbed deque keeps a task, and the thief's was empty
steal_leaves : (e : Execution) (w choice : ℕ) → deque_of e w ≡ [] → 2 ≤ length (deque_of e choice) → (v : ℕ) → 1 ≤ length (deque_of e v) →
    1 ≤ length (deque_of (successful_steal w choice e) v)
steal_leaves e w choice own two v h = go (eqb v choice) refl
  where
    not_thief : v ≡ w → ⊥
    not_thief p = not-suc-le-zero (rw (p, own) at h)

    go : (b : Bool) → eqb v choice ≡ b → 1 ≤ length (deque_of (successful_steal w choice e) v)
    go true p = rw (eqb-true v choice p, victim_after e w choice own two) (left_filled (deque_of e choice) two)
    go false p = rw (others_after e w choice own two v not_thief (eqb-false v choice p)) h

did : (graph : Graph) (w choice : ℕ) (e : Execution) → Did w e (cycle graph w choice e)
unfolding work_cycle mug_cycle failed_steal
did graph w choice e =
    cycle_cases graph w choice e
    (λ c after. Did w e after)
    (record {
      working = λ t rest own. spends (omega arith);
      mugging = λ oldest others own waiting. spends (omega arith);
      stealing = λ own none two. unfold successful_steal finished in stole own none refl refl (steal_leaves e w choice own two);
      failing = λ own none few. unfold finished in stole own none refl refl (λ v h. h);
    })

spent_kept : (graph : Graph) (choices : List ℕ) (w : ℕ) (e : Execution) → w + length choices ≤ length e.deques →
    spent e ≤ spent (cycles graph w choices e)
spent_kept graph choices w e h = let c = cycles_counted graph w choices e h in omega arith

-- with a task in the deque of worker v, who has yet to act, one of the workers from w on works or mugs
reaches : (graph : Graph) (choices : List ℕ) (w v : ℕ) (e : Execution) → finished e ≡ false → w + length choices ≡ length e.deques →
    w ≤ v → 1 ≤ length (deque_of e v) → spent e < spent (cycles graph w choices e)
reaches graph [] w v e f all l h = let here = filled_within e.deques v h in absurd (omega arith)
reaches graph (choice ∷ choices) w v e f all l h =
    rw (cycles_onward graph w choice choices e f) (go (did graph w choice e) (reaches graph choices (suc w) v (cycle graph w choice e)))
  where
    same : length (cycle graph w choice e).deques ≡ length e.deques
    same = cycle_allotment graph w choice e

    onward : Execution
    onward = cycles graph (suc w) choices (cycle graph w choice e)

    go : Did w e (cycle graph w choice e) →
        (finished (cycle graph w choice e) ≡ false → suc w + length choices ≡ length (cycle graph w choice e).deques → suc w ≤ v →
        1 ≤ length (deque_of (cycle graph w choice e) v) → spent (cycle graph w choice e) < spent onward) →
        spent e < spent onward
    go (spends more) later = omega (arith, spent_kept graph choices (suc w) (cycle graph w choice e) (omega (arith, same)))
    go (stole own none still kept leaves) later =
        let past : v ≡ w → ⊥ = λ p. not-suc-le-zero (rw (p, own) at h) in
        omega (arith, later (still ∙ f) (omega (arith, same)) (omega (arith, past)) (leaves v h))

-- with a muggable deque the first worker works or mugs
mugs_first : (graph : Graph) (choice : ℕ) (choices : List ℕ) (e : Execution) → finished e ≡ false →
    suc (length choices) ≡ length e.deques → (e.muggable ≡ [] → ⊥) → spent e < spent (cycles graph 0 (choice ∷ choices) e)
mugs_first graph choice choices e f all some = rw (cycles_onward graph 0 choice choices e f) (go (did graph 0 choice e))
  where
    go : Did 0 e (cycle graph 0 choice e) → spent e < spent (cycles graph 1 choices (cycle graph 0 choice e))
    go (spends more) =
        omega (arith, spent_kept graph choices 1 (cycle graph 0 choice e) (omega (arith, cycle_allotment graph 0 choice e)))
    go (stole own none still kept leaves) = absurd (some none)

-- ---- a tick of a placed execution

pub cycles_progress : {graph : Graph} {e : Execution} → SoundGraph graph → Placed graph e → finished e ≡ false → (choices : List ℕ) →
    length choices ≡ length e.deques → Progressing graph choices e
unfolding in_deques
cycles_progress {graph} {e} sound placed f [] all some = absurd (omega arith)
cycles_progress {graph} {e} sound placed f (choice ∷ choices) all some = go e.muggable refl
  where
    task : (t : ℕ) × Waits graph (worked e) t
    task = some_task_waits sound placed f

    go : (ms : List (List ℕ)) → e.muggable ≡ ms → spent e < spent (cycles graph 0 (choice ∷ choices) e)
    go (oldest ∷ others) p =
        mugs_first graph choice choices e f all (λ q. let z : suc (length others) ≡ 0 = ap length (sym p ∙ q) in omega arith)
    go [] p =
        let none : in_deques task.0 e.muggable ≡ 0 = ap (in_deques task.0) p in
        let stands = waiting_stands placed task.0 task.1 in
        let where_it_is = which_deque task.0 e.deques (omega arith) in
        reaches graph (choice ∷ choices) 0 where_it_is.0 e f (omega arith) (omega arith)
        (has_length task.0 (deque_of e where_it_is.0) where_it_is.2)

-- ---- a history

pub tick_progress : {plan : Plan} → SoundPlan plan → (calls : List Call) (choices : List ℕ) → TickAccepted choices (run plan calls).state →
    Progressing plan.graph choices (run plan calls).state.execution
tick_progress sound calls choices asked some =
    cycles_progress sound.graph (workers_placed (arranged sound calls) some) asked.unfinished choices asked.one_each some

pub progress : {plan : Plan} → SoundPlan plan → (calls : List Call) → Progress plan (run plan calls)
unfolding history_step history_tick
progress {plan} sound calls choices answer some =
    let s = (run plan calls).state in
    rw (answer, tick_execution plan choices s) (tick_progress sound calls choices (tick_accepted choices s answer) some)
