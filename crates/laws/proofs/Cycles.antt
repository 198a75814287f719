-- A worker's cycle by its four kinds, with what is known of the execution in each (`cycle_cases`), and which kind it is by what the worker
-- sees (`works`, `mugs`, `robs`, `fails`); the allotment that a cycle keeps; a worker's turn in a tick, which is its cycle or, of a
-- finished job, a steal in vain (`turn_cases`); and what every such turn keeps is kept by a tick's cycles (`cycles_keep`, and
-- `cycles_made_keep` for what speaks of the cycles made too).
-- Assumes nothing.
use mathlib.Core.Path.{◌≡◌, refl, ap, ◌∙◌}
use mathlib.Core.Bool.{Bool, true, false, cond}
use mathlib.Core.List.{List, [], ◌∷◌, ◌++◌, append-nil, append_assoc}
use Prim.Native.Nat.{ℕ, suc, ◌+◌, ◌≤◌, ◌<◌}
use native.Mathlib.Omega.{arith}
use lib.Dec.{leb}
use lib.ListN.{length, length-set}
use borrow.Author.Tests.{leb-true, leb-false, le-leb, lt-leb}
use Rattle.model.specs.Plan.{Graph}
use Rattle.model.specs.Machine.{Execution, deque_of, Cycle, works_on, mugs_deque, steals_from, steals_nothing, decided, performed, cycle_of}
use Rattle.model.specs.Machine.{work_cycle, mug_cycle, successful_steal, failed_steal, cycle, turn_of, turn, cycles, cycles_made, finished}

-- what the four kinds of cycle have to show, to show P of every cycle and the execution after it
pub record Kinds (graph : Graph) (w choice : ℕ) (e : Execution) (P : Cycle → Execution → Type 0) : Type 0 where
  pub working : (t : ℕ) (rest : List ℕ) → deque_of e w ≡ t ∷ rest → P (works_on t) (work_cycle graph w t e)
  pub mugging : (oldest : List ℕ) (others : List (List ℕ)) → deque_of e w ≡ [] → e.muggable ≡ oldest ∷ others →
      P (mugs_deque oldest) (mug_cycle w oldest e)
  pub stealing : deque_of e w ≡ [] → e.muggable ≡ [] → 2 ≤ length (deque_of e choice) →
      P (steals_from choice) (successful_steal w choice e)
  pub failing : deque_of e w ≡ [] → e.muggable ≡ [] → length (deque_of e choice) < 2 → P steals_nothing (failed_steal e)

module _ (graph : Graph) (w choice : ℕ) (e : Execution) (P : Cycle → Execution → Type 0) (kinds : Kinds graph w choice e P) where
  abbrev Shown : Cycle → Type 0
  Shown c = P c (performed graph w c e)

  by_victim : deque_of e w ≡ [] → e.muggable ≡ [] → (b : Bool) → leb 2 (length (deque_of e choice)) ≡ b →
      Shown (cond b (steals_from choice) steals_nothing)
  by_victim p q true h = kinds.stealing p q (leb-true 2 (length (deque_of e choice)) h)
  by_victim p q false h = kinds.failing p q (leb-false 2 (length (deque_of e choice)) h)

  by_deques : (own : List ℕ) (muggable : List (List ℕ)) → deque_of e w ≡ own → e.muggable ≡ muggable →
      Shown (decided own muggable choice (deque_of e choice))
  by_deques (t ∷ rest) muggable p q = kinds.working t rest p
  by_deques [] (oldest ∷ others) p q = kinds.mugging oldest others p q
  by_deques [] [] p q = by_victim p q (leb 2 (length (deque_of e choice))) refl

  pub cycle_cases : P (cycle_of w choice e) (cycle graph w choice e)
  unfolding cycle cycle_of
  cycle_cases = by_deques (deque_of e w) e.muggable refl refl

-- ---- which kind it is, by what the worker sees

module _ (graph : Graph) (w choice : ℕ) (e : Execution) where
  pub works : (t : ℕ) (rest : List ℕ) → deque_of e w ≡ t ∷ rest → cycle graph w choice e ≡ work_cycle graph w t e
  unfolding cycle cycle_of
  works t rest own = rw own

  pub mugs : (oldest : List ℕ) (others : List (List ℕ)) → deque_of e w ≡ [] → e.muggable ≡ oldest ∷ others →
      cycle graph w choice e ≡ mug_cycle w oldest e
  unfolding cycle cycle_of
  mugs oldest others own waiting = rw (own, waiting)

  pub robs : deque_of e w ≡ [] → e.muggable ≡ [] → 2 ≤ length (deque_of e choice) →
      cycle graph w choice e ≡ successful_steal w choice e
  unfolding cycle cycle_of
  robs own none many = rw (own, none, le-leb 2 (length (deque_of e choice)) many)

  pub fails : deque_of e w ≡ [] → e.muggable ≡ [] → length (deque_of e choice) < 2 → cycle graph w choice e ≡ failed_steal e
  unfolding cycle cycle_of
  fails own none few = rw (own, none, lt-leb 2 (length (deque_of e choice)) few)

-- ---- the allotment

pub cycle_allotment : (graph : Graph) (w choice : ℕ) (e : Execution) → length (cycle graph w choice e).deques ≡ length e.deques
unfolding work_cycle mug_cycle successful_steal failed_steal
cycle_allotment graph w choice e =
    cycle_cases graph w choice e
    (λ c after. length after.deques ≡ length e.deques)
    (record {
      working = λ t rest p. simp length-set;
      mugging = λ oldest others p q. simp length-set;
      stealing = λ p q h. simp length-set;
      failing = λ p q h. refl;
    })

-- ---- a worker's turn in a tick

module _ (graph : Graph) (w choice : ℕ) (e : Execution) where
  pub turn_unfinished : finished e ≡ false → turn graph w choice e ≡ cycle graph w choice e
  unfolding turn turn_of cycle
  turn_unfinished f = rw f

  pub turn_finished : finished e ≡ true → turn graph w choice e ≡ failed_steal e
  unfolding turn turn_of
  turn_finished f = rw f

  -- what holds of the worker's own cycle and of a steal in vain
  pub turn_cases : (P : Cycle → Execution → Type 0) → P (cycle_of w choice e) (cycle graph w choice e) →
      P steals_nothing (failed_steal e) → P (turn_of w choice e) (turn graph w choice e)
  unfolding turn turn_of cycle
  turn_cases P own vain = go (finished e)
    where
      go : (b : Bool) → P (cond b steals_nothing (cycle_of w choice e)) (performed graph w (cond b steals_nothing (cycle_of w choice e)) e)
      go false = own
      go true = vain

turn_allotment : (graph : Graph) (w choice : ℕ) (e : Execution) → length (turn graph w choice e).deques ≡ length e.deques
unfolding failed_steal
turn_allotment graph w choice e =
    turn_cases graph w choice e (λ c after. length after.deques ≡ length e.deques) (cycle_allotment graph w choice e) refl

-- ---- a tick's cycles

-- of an unfinished job the first worker's cycle, and then the others' turns
pub cycles_onward : (graph : Graph) (w choice : ℕ) (choices : List ℕ) (e : Execution) → finished e ≡ false →
    cycles graph w (choice ∷ choices) e ≡ cycles graph (suc w) choices (cycle graph w choice e)
unfolding cycles
cycles_onward graph w choice choices e f = ap (cycles graph (suc w) choices) (turn_unfinished graph w choice e f)

-- what each cycle and each steal in vain keep, of the cycles made so far and the execution, is kept by the turns of workers w and up
module _ (graph : Graph) (P : List Cycle → Execution → Type 0)
    (one : (made : List Cycle) (w choice : ℕ) (e : Execution) → w < length e.deques → P made e →
    P (made ++ (cycle_of w choice e ∷ [])) (cycle graph w choice e))
    (vain : (made : List Cycle) (e : Execution) → P made e → P (made ++ (steals_nothing ∷ [])) (failed_steal e)) where
  pub cycles_made_keep : (choices : List ℕ) (made : List Cycle) (w : ℕ) (e : Execution) → w + length choices ≤ length e.deques →
      P made e → P (made ++ cycles_made graph w choices e) (cycles graph w choices e)
  unfolding cycles cycles_made
  cycles_made_keep [] made w e h p = rw append-nil p
  cycles_made_keep (choice ∷ choices) made w e h p =
      rw (append_assoc made (turn_of w choice e ∷ []) (cycles_made graph (suc w) choices (turn graph w choice e))) at
      (cycles_made_keep choices (made ++ (turn_of w choice e ∷ [])) (suc w) (turn graph w choice e)
      (omega (arith, turn_allotment graph w choice e))
      (turn_cases graph w choice e (λ c after. P (made ++ (c ∷ [])) after) (one made w choice e (omega arith) p) (vain made e p)))

module _ (graph : Graph) (P : Execution → Type 0)
    (one : (w choice : ℕ) (e : Execution) → w < length e.deques → P e → P (cycle graph w choice e))
    (vain : (e : Execution) → P e → P (failed_steal e)) where
  pub cycles_keep : (choices : List ℕ) (w : ℕ) (e : Execution) → w + length choices ≤ length e.deques → P e →
      P (cycles graph w choices e)
  cycles_keep choices w e h p =
      cycles_made_keep graph (λ made after. P after) (λ made w choice e l q. one w choice e l q) (λ made e q. vain e q) choices [] w e h p

module _ (graph : Graph) (choices : List ℕ) (w : ℕ) (e : Execution) (h : w + length choices ≤ length e.deques) where
  pub cycles_allotment : length (cycles graph w choices e).deques ≡ length e.deques
  unfolding failed_steal
  cycles_allotment =
      cycles_keep graph (λ after. length after.deques ≡ length e.deques)
      (λ v c before l q. cycle_allotment graph v c before ∙ q) (λ before q. q) choices w e h refl
