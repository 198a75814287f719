-- Only a front task may be begun: a work tick is at a front task and leaves it in front until its last one, a thief leaves the front, and
-- mugging and withdrawal move whole deques. After every call, and after every worker's cycle.
-- Assumes nothing.
use mathlib.Core.Path.{◌≡◌, refl, sym, ap, ◌∙◌}
use mathlib.Core.Logic.{◌⊎◌, inl, inr}
use mathlib.Core.Bool.{Bool, true, false}
use mathlib.Core.List.Memᴰ
use mathlib.Core.List.{List, [], ◌∷◌, ◌++◌, tail, map, Memᴰ}
use Prim.Native.Nat.{ℕ, zero, suc, ◌-◌, ◌≤◌, ◌<◌}
use native.Mathlib.Nat.{le_of_suc-le-suc, not-suc-le-zero}
use native.Mathlib.Omega.{arith}
use lib.Dec.{eqb, ltb}
use lib.ListN.{length, get_or, take, set, replicate, length-take, length-set}
use lib.Seq.{get_or-set_same, get_or-set_other, lt-length-set}
use borrow.Author.Tests.{eqb-true, eqb-false, ltb-true, ltb-false}
use Rattle.model.specs.Plan.{Plan}
use Rattle.model.specs.Machine.{Execution, State, deque_of, one_tick_less, worked_deque, left_by_steal, work_cycle, mug_cycle}
use Rattle.model.specs.Machine.{successful_steal, failed_steal, cycle, cycles, kept_deques, withdrawn_deques, first_task_placed, grant}
use Rattle.model.specs.Machine.{fresh, Call}
use Rattle.model.specs.History.{beginning, history_grant, history_tick, run}
use Rattle.model.specs.Statements.{SoundPlan}
use Rattle.model.specs.Lasting.{FrontIn, FrontsBegun, OnlyFrontsBegun}
use Rattle.laws.specs.Reached.{Arranged}
use Rattle.laws.proofs.Stealing.{left_filled, left_then_taken, victim_after, others_after}
use Rattle.laws.proofs.Withdrawals.{highest_first}
use Rattle.laws.proofs.Cycles.{cycle_cases, cycles_keep}
use Rattle.laws.proofs.Histories.{arranged}
use Rattle.laws.proofs.Accepted.{tick_accepted, tick_execution}
use Rattle.laws.proofs.Runs.{run_keeps}

-- ---- a front by its place

place_in : (d : List ℕ) (ds : List (List ℕ)) → Memᴰ d ds → (v : ℕ) × (v < length ds) × (get_or ds v [] ≡ d)
place_in d [] x' = elim x' [ ]
place_in d (x ∷ ds) (Memᴰ.head e) = (zero, omega arith, sym e)
place_in d (x ∷ ds) (Memᴰ.tail m) = let r = place_in d ds m in (suc r.0, omega (arith, r.1), r.2)

at_its_place : (d : List ℕ) (ds : List (List ℕ)) (v : ℕ) → v < length ds → get_or ds v [] ≡ d → Memᴰ d ds
at_its_place d [] v l e = absurd (not-suc-le-zero l)
at_its_place d (x ∷ ds) zero l e = Memᴰ.head (sym e)
at_its_place d (x ∷ ds) (suc v) l e = Memᴰ.tail (at_its_place d ds v (le_of_suc-le-suc l) e)

front_at : (t : ℕ) (rest : List ℕ) (ds : List (List ℕ)) (v : ℕ) → v < length ds → get_or ds v [] ≡ t ∷ rest → FrontIn t ds
front_at t rest ds v l e = (rest, at_its_place (t ∷ rest) ds v l e)

not_empty : {t : ℕ} {rest : List ℕ} → t ∷ rest ≡ [] → ⊥
not_empty {t} {rest} e = let z : suc (length rest) ≡ 0 = ap length e in omega arith

mapped : (f : ℕ → List ℕ) (xs : List ℕ) (x : ℕ) → Memᴰ x xs → Memᴰ (f x) (map f xs)
mapped f [] x x3 = elim x3 [ ]
mapped f (y ∷ xs) x (Memᴰ.head e) = Memᴰ.head (ap f e)
mapped f (y ∷ xs) x (Memᴰ.tail m) = Memᴰ.tail (mapped f xs x m)

-- what a deque and one behind it begin with, where the first is not empty
same_front : (x : ℕ) (rest left taken : List ℕ) → 1 ≤ length left → left ++ taken ≡ x ∷ rest → (r : List ℕ) × (left ≡ x ∷ r)
same_front x rest [] taken some e = absurd (not-suc-le-zero some)
same_front x rest (y ∷ left) taken some e = (left, ap (λ (n : ℕ). n ∷ left) (ap (λ (d : List ℕ). get_or d 0 0) e))

-- ---- a cycle

module _ {plan : Plan} {e : Execution} (fronts : FrontsBegun plan e) (w : ℕ) (here : w < length e.deques) where
  -- where another deque than w's had it in front, it has it still
  set_front : (x : ℕ) (d : List ℕ) → FrontIn x e.deques → ((rest : List ℕ) → deque_of e w ≡ x ∷ rest → ⊥) →
      FrontIn x (set e.deques w d)
  set_front x d (rest, m) other =
      let r = place_in (x ∷ rest) e.deques m in
      front_at x rest (set e.deques w d) r.0 (lt-length-set e.deques w d r.1)
      (get_or-set_other e.deques w r.0 d [] (λ q. other rest (ap (λ (v : ℕ). get_or e.deques v []) (sym q) ∙ r.2)) ∙ r.2)

  work_fronts : (t : ℕ) (rest : List ℕ) → deque_of e w ≡ t ∷ rest → FrontsBegun plan (work_cycle plan.graph w t e)
  unfolding work_cycle worked_deque
  work_fronts t rest own x b = by_task (eqb x t) refl
    where
      left : List ℕ
      left = one_tick_less t e.left

      new : List ℕ
      new = worked_deque plan.graph left t (deque_of e w)

      -- the task itself stays in front as long as it has ticks left
      itself : x ≡ t → (c : Bool) → eqb (get_or left t 0) 0 ≡ c → FrontIn x (set e.deques w new)
      itself same true z =
          let none = eqb-true (get_or left t 0) 0 z in
          let some = b.some_left in
          absurd (omega (arith, rw same at some))
      itself same false z =
          let stays : new ≡ t ∷ rest = rw z own in
          front_at x rest (set e.deques w new) w (lt-length-set e.deques w new here)
          (get_or-set_same e.deques w new [] here ∙ rw same stays)

      another : eqb x t ≡ false → FrontIn x e.deques ⊎ FrontIn x e.muggable →
          FrontIn x (set e.deques w new) ⊎ FrontIn x e.muggable
      another q (inl f) = inl (set_front x new f (λ r p. eqb-false x t q (ap (λ (d : List ℕ). get_or d 0 0) (sym p ∙ own))))
      another q (inr f) = inr f

      by_task : (c : Bool) → eqb x t ≡ c → FrontIn x (set e.deques w new) ⊎ FrontIn x e.muggable
      by_task true q = inl (itself (eqb-true x t q) (eqb (get_or left t 0) 0) refl)
      by_task false q =
          let unchanged = get_or-set_other e.left t x (get_or e.left t 0 - 1) 0 (eqb-false x t q) in
          another q (fronts x (record { some_done = rw unchanged at b.some_done; some_left = rw unchanged at b.some_left }))

  mug_fronts : (oldest : List ℕ) (others : List (List ℕ)) → deque_of e w ≡ [] → e.muggable ≡ oldest ∷ others →
      FrontsBegun plan (mug_cycle w oldest e)
  unfolding mug_cycle
  mug_fronts oldest others own waiting x b = go (fronts x (record { some_done = b.some_done; some_left = b.some_left }))
    where
      picked : (rest : List ℕ) → (x ∷ rest ≡ oldest) ⊎ Memᴰ (x ∷ rest) others →
          FrontIn x (set e.deques w oldest) ⊎ FrontIn x (tail e.muggable)
      picked rest (inl q) =
          inl (front_at x rest (set e.deques w oldest) w (lt-length-set e.deques w oldest here)
          (get_or-set_same e.deques w oldest [] here ∙ sym q))
      picked rest (inr m) = inr (rest, rw waiting m)

      go : FrontIn x e.deques ⊎ FrontIn x e.muggable → FrontIn x (set e.deques w oldest) ⊎ FrontIn x (tail e.muggable)
      go (inl f) = inl (set_front x oldest f (λ r p. not_empty (sym p ∙ own)))
      go (inr (rest, m)) = picked rest (Memᴰ.cases_cons (rw waiting at m))

  steal_fronts : (choice : ℕ) → deque_of e w ≡ [] → 2 ≤ length (deque_of e choice) → FrontsBegun plan (successful_steal w choice e)
  unfolding successful_steal
  steal_fronts choice own two x b = go (fronts x (record { some_done = b.some_done; some_left = b.some_left }))
    where
      after : Execution
      after = successful_steal w choice e

      -- the robbed deque keeps its front, and the others are as they were
      still : (v : ℕ) (rest : List ℕ) → deque_of e v ≡ x ∷ rest → (r : List ℕ) × (deque_of after v ≡ x ∷ r)
      still v rest p = by_place (eqb v choice) refl
        where
          by_place : (c : Bool) → eqb v choice ≡ c → (r : List ℕ) × (deque_of after v ≡ x ∷ r)
          by_place true q =
              let same = eqb-true v choice q in
              let whole : deque_of e choice ≡ x ∷ rest = rw (← same) p in
              let front = same_front x rest (left_by_steal (deque_of e choice)) _ (left_filled (deque_of e choice) two)
              (left_then_taken (deque_of e choice) ∙ whole) in
              (front.0, ap (deque_of after) same ∙ victim_after e w choice own two ∙ front.1)
          by_place false q =
              (rest, others_after e w choice own two v (λ s. not_empty (sym p ∙ rw s own)) (eqb-false v choice q) ∙ p)

      go : FrontIn x e.deques ⊎ FrontIn x e.muggable → FrontIn x after.deques ⊎ FrontIn x after.muggable
      go (inl (rest, m)) =
          let p = place_in (x ∷ rest) e.deques m in
          let r = still p.0 rest p.2 in
          inl (front_at x r.0 after.deques p.0 (rw (length-set, length-set) p.1) r.1)
      go (inr f) = inr f

vain_fronts : {plan : Plan} {e : Execution} → FrontsBegun plan e → FrontsBegun plan (failed_steal e)
unfolding failed_steal
vain_fronts fronts x b = fronts x (record { some_done = b.some_done; some_left = b.some_left })

cycle_fronts : {plan : Plan} {e : Execution} → FrontsBegun plan e → (w choice : ℕ) → w < length e.deques →
    FrontsBegun plan (cycle plan.graph w choice e)
cycle_fronts {plan} {e} fronts w choice here =
    cycle_cases plan.graph w choice e
    (λ c after. FrontsBegun plan after)
    (record {
      working = work_fronts fronts w here;
      mugging = mug_fronts fronts w here;
      stealing = λ own none two. steal_fronts fronts w here choice own two;
      failing = λ own none few. vain_fronts fronts;
    })

cycles_fronts : {plan : Plan} {e : Execution} → FrontsBegun plan e → (choices : List ℕ) → length choices ≤ length e.deques →
    FrontsBegun plan (cycles plan.graph 0 choices e)
cycles_fronts {plan} {e} fronts choices h =
    cycles_keep plan.graph (FrontsBegun plan) (λ v c before l q. cycle_fronts q v c l) (λ before q. vain_fronts q) choices 0 e
    (omega arith) fronts

-- ---- a grant

-- before the start nothing is begun
unstarted_fronts : {plan : Plan} {e : Execution} → e.left ≡ plan.durations → FrontsBegun plan e
unstarted_fronts none x b = let some = b.some_done in absurd (omega (arith, rw none at some))

-- a deque below g is kept
kept_front : (g : ℕ) (ds : List (List ℕ)) (v : ℕ) → v < g → v < length ds → Memᴰ (get_or ds v []) (take g ds)
kept_front zero ds v up l = absurd (not-suc-le-zero up)
kept_front (suc g) [] v up l = absurd (not-suc-le-zero l)
kept_front (suc g) (d ∷ ds) zero up l = Memᴰ.head refl
kept_front (suc g) (d ∷ ds) (suc v) up l = Memᴰ.tail (kept_front g ds v (le_of_suc-le-suc up) (le_of_suc-le-suc l))

-- one from g on that is not empty is withdrawn
withdrawn_front : (g : ℕ) (ds : List (List ℕ)) (v x : ℕ) (rest : List ℕ) → g ≤ v → get_or ds v [] ≡ x ∷ rest →
    Memᴰ (x ∷ rest) (withdrawn_deques g ds)
withdrawn_front g ds v x rest up e =
    let h = highest_first g ds in
    let filled : 1 ≤ length (get_or ds v []) = rw e (omega arith) in
    rw (h.theirs, ← e) (mapped (λ w. get_or ds w []) h.workers v (h.all v up filled))

started_grant : {plan : Plan} (s : State) → s.started ≡ true → (g : ℕ) → FrontsBegun plan s.execution →
    FrontsBegun plan (grant g s).execution
unfolding grant first_task_placed kept_deques
started_grant {plan} s on g fronts x b = rw on (go (fronts x (record { some_done = b.some_done; some_left = b.some_left })))
  where
    ds : List (List ℕ)
    ds = s.execution.deques

    new : List (List ℕ)
    new = replicate (g - length ds) []

    by_place : (v : ℕ) (rest : List ℕ) → v < length ds → get_or ds v [] ≡ x ∷ rest → (c : Bool) → ltb v g ≡ c →
        FrontIn x (take g ds ++ new) ⊎ FrontIn x (s.execution.muggable ++ withdrawn_deques g ds)
    by_place v rest l e true c = inl (rest, Memᴰ.append_left new (rw e at (kept_front g ds v (ltb-true v g c) l)))
    by_place v rest l e false c =
        inr (rest, Memᴰ.append_right s.execution.muggable (withdrawn_front g ds v x rest (ltb-false v g c) e))

    go : FrontIn x ds ⊎ FrontIn x s.execution.muggable →
        FrontIn x (take g ds ++ new) ⊎ FrontIn x (s.execution.muggable ++ withdrawn_deques g ds)
    go (inl (rest, m)) = let p = place_in (x ∷ rest) ds m in by_place p.0 rest p.1 p.2 (ltb p.0 g) refl
    go (inr (rest, m)) = inr (rest, Memᴰ.append_left (withdrawn_deques g ds) m)

grant_fronts : {plan : Plan} (s : State) → Arranged plan s → (g : ℕ) → FrontsBegun plan s.execution →
    FrontsBegun plan (grant g s).execution
grant_fronts {plan} s a g fronts = go s.started refl
  where
    go : (b : Bool) → s.started ≡ b → FrontsBegun plan (grant g s).execution
    go true on = started_grant s on g fronts
    go false off = unstarted_fronts (unfold grant in (a.before off).none_begun)

-- ---- a history

module _ {plan : Plan} (sound : SoundPlan plan) where
  after_any : (calls : List Call) → FrontsBegun plan (run plan calls).state.execution
  unfolding beginning fresh history_grant history_tick
  after_any =
      run_keeps plan (λ h. FrontsBegun plan h.state.execution)
      (unstarted_fronts refl)
      (λ h note fronts. fronts)
      (λ done g t fronts. grant_fronts (run plan done).state (arranged sound done) g fronts)
      (λ done choices t fronts.
      rw (tick_execution plan choices (run plan done).state) (cycles_fronts fronts choices (omega (arith, t.one_each))))

  pub only_fronts_begun : (calls : List Call) → OnlyFrontsBegun plan (run plan calls)
  only_fronts_begun calls =
      record {
        after_calls = after_any calls;
        after_cycles = λ choices answer w.
            cycles_fronts (after_any calls) (take w choices)
            (omega (arith, length-take w choices, (tick_accepted choices (run plan calls).state answer).one_each));
      }
