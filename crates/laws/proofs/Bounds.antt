-- How many deques and how many tasks there are: what a worker's cycle makes of the number of deques in use (`cycle_lines`); where that
-- number and the workers are at most some number, they stay so, because a steal happens only when no muggable deque waits
-- (`cycles_bounded`); and all deques of a placed execution together hold tasks of the plan, each at most once, and so at most N
-- (`tasks_held`).
-- Assumes nothing.
use mathlib.Core.Path.{◌≡◌, refl, ap, ◌∙◌}
use mathlib.Core.Bool.{Bool, true, false, cond}
use mathlib.Core.List.{List, [], ◌∷◌, ◌++◌, flat_map, tail, Memᴰ}
use Prim.Native.Nat.{ℕ, zero, suc, ◌+◌, ◌≤◌, ◌<◌}
use native.Mathlib.Nat.{not-suc-le-zero}
use native.Mathlib.Omega.{arith}
use lib.Dec.{eqb}
use lib.ListN.{length, get_or, set, length-set, length-append}
use lib.Seq.{get_or-set_same, get_or-set_other}
use borrow.Author.Tests.{eqb-false}
use Rattle.model.specs.Tests.{occurrences}
use Rattle.model.specs.Plan.{Graph, tasks}
use Rattle.model.specs.Machine.{Execution, deque_of, one_tick_less, worked_deque, left_by_steal, taken_by_steal, work_cycle, mug_cycle}
use Rattle.model.specs.Machine.{successful_steal, failed_steal, cycle_of, cycle, cycles}
use Rattle.model.specs.Lines.{LinesAfter, tasks_standing, TasksHeld}
use Rattle.laws.specs.Invariants.{in_deques, Placed, Bounded}
use Rattle.laws.proofs.Deques.{one_if_filled, filled_is_one, empty_or_filled, busy_set, busy_at_most}
use Rattle.laws.proofs.Deques.{occurrences_append, occurs, in_deques_append}
use Rattle.laws.proofs.Stealing.{left_filled, half_taken, apart, victim_within}
use Rattle.laws.proofs.Cycles.{cycle_cases, cycle_allotment, cycles_keep}
use Rattle.laws.proofs.Placement.{stands, standing_once}

-- ---- how many deques are in use

pub cycle_lines : (graph : Graph) (e : Execution) (w choice : ℕ) → w < length e.deques →
    LinesAfter e w (cycle_of w choice e) (cycle graph w choice e)
unfolding work_cycle mug_cycle successful_steal failed_steal
cycle_lines graph e w choice here =
    cycle_cases graph w choice e (LinesAfter e w)
    (record {
      working = λ t rest own.
          let new : List ℕ = worked_deque graph (one_tick_less t e.left) t (deque_of e w) in
          let left : one_if_filled (deque_of e w) ≡ 1 = ap one_if_filled own in
          rw (get_or-set_same e.deques w new [] here) (omega (arith, busy_set e.deques w new here, empty_or_filled new));
      mugging = λ oldest others own waiting.
          let empty : one_if_filled (deque_of e w) ≡ 0 = ap one_if_filled own in
          let more : length e.muggable ≡ suc (length others) = ap length waiting in
          let fewer : length (tail e.muggable) ≡ length others = ap (λ (ds : List (List ℕ)). length (tail ds)) waiting in
          omega (arith, busy_set e.deques w oldest here, empty_or_filled oldest);
      stealing = λ own none two.
          let victim : List ℕ = deque_of e choice in
          let robbed : List (List ℕ) = set e.deques choice (left_by_steal victim) in
          let there : w < length robbed = rw length-set here in
          let untouched : get_or robbed w [] ≡ [] =
          get_or-set_other e.deques choice w (left_by_steal victim) [] (apart e w choice own two) ∙ own in
          let empty : one_if_filled (get_or robbed w []) ≡ 0 = ap one_if_filled untouched in
          omega (
            arith,
            busy_set robbed w (taken_by_steal victim) there,
            busy_set e.deques choice (left_by_steal victim) (victim_within e w choice own two),
            filled_is_one victim (omega arith),
            filled_is_one (left_by_steal victim) (left_filled victim two),
            filled_is_one (taken_by_steal victim) (omega (arith, half_taken victim)),
          );
      failing = λ own none few. refl;
    })

-- ---- .. at most

pub bounded_more : {most more : ℕ} {e : Execution} → most ≤ more → Bounded most e → Bounded more e
bounded_more {most} {more} {e} h b = record { workers = omega arith; lines = omega arith }

-- a steal in vain moves nothing
vain_bounded : {most : ℕ} {e : Execution} → Bounded most e → Bounded most (failed_steal e)
unfolding failed_steal
vain_bounded b = record { workers = b.workers; lines = b.lines }

-- only a successful steal makes one more, and then no muggable deque waits: each deque in use is a worker's
pub cycle_bounded : {most : ℕ} {e : Execution} → (graph : Graph) → Bounded most e → (w choice : ℕ) → w < length e.deques →
    Bounded most (cycle graph w choice e)
unfolding successful_steal
cycle_bounded {most} {e} graph b w choice here =
    cycle_cases graph w choice e
    (λ c after. length after.deques ≡ length e.deques → LinesAfter e w c after → Bounded most after)
    (record {
      working = λ t rest own same lines. record { workers = omega (arith, b.workers); lines = omega (arith, b.lines) };
      mugging = λ oldest others own waiting same lines. record { workers = omega (arith, b.workers); lines = omega (arith, b.lines) };
      stealing = λ own none two same lines.
          let no_muggable : length e.muggable ≡ 0 = ap length none in
          record {
            workers = omega (arith, b.workers);
            lines = omega (arith, busy_at_most (successful_steal w choice e).deques, b.workers);
          };
      failing = λ own none few same lines. vain_bounded b;
    })
    (cycle_allotment graph w choice e)
    (cycle_lines graph e w choice here)

-- ---- a tick's cycles

pub cycles_bounded : {most : ℕ} {e : Execution} → (graph : Graph) → Bounded most e → (w : ℕ) (choices : List ℕ) →
    w + length choices ≤ length e.deques → Bounded most (cycles graph w choices e)
cycles_bounded {most} {e} graph b w choices h =
    cycles_keep graph (Bounded most) (λ v c before l q. cycle_bounded graph q v c l) (λ before q. vain_bounded q) choices w e h b

-- ---- tasks

-- the sum of f below n
sum_below : ℕ → (ℕ → ℕ) → ℕ
sum_below zero f = 0
sum_below (suc n) f = sum_below n f + f n

sum_of_ones : (n : ℕ) (f : ℕ → ℕ) → ((t : ℕ) → f t ≤ 1) → sum_below n f ≤ n
unfolding sum_below
sum_of_ones zero f h = omega arith
sum_of_ones (suc n) f h = omega (arith, sum_of_ones n f h, h n)

sum_more : (n : ℕ) (f g : ℕ → ℕ) → sum_below n (λ t. f t + g t) ≡ sum_below n f + sum_below n g
unfolding sum_below
sum_more zero f g = refl
sum_more (suc n) f g = omega (arith, sum_more n f g)

-- one number stands for 1 in the sum
sum_of_one : (n x : ℕ) → x < n → 1 ≤ sum_below n (λ t. cond (eqb t x) 1 0)
unfolding sum_below
sum_of_one zero x h = absurd (not-suc-le-zero h)
sum_of_one (suc n) x h = go (eqb n x) refl (sum_of_one n x)
  where
    go : (b : Bool) → eqb n x ≡ b → (x < n → 1 ≤ sum_below n (λ t. cond (eqb t x) 1 0)) →
        1 ≤ sum_below n (λ t. cond (eqb t x) 1 0) + cond b 1 0
    go true e onward = omega arith
    go false e onward = let ne = eqb-false n x e in omega (arith, onward (omega arith))

-- numbers below n are no more than the sum of how often each stands there
counted : (n : ℕ) (xs : List ℕ) → ((x : ℕ) → Memᴰ x xs → x < n) → length xs ≤ sum_below n (λ t. occurrences t xs)
unfolding occurrences
counted n [] h = omega arith
counted n (x ∷ xs) h =
    omega (
      arith,
      sum_more n (λ t. cond (eqb t x) 1 0) (λ t. occurrences t xs),
      sum_of_one n x (h x (Memᴰ.head refl)),
      counted n xs (λ y m. h y (Memᴰ.tail m)),
    )

occurrences_in : (t : ℕ) (ds : List (List ℕ)) → occurrences t (flat_map (λ d. d) ds) ≡ in_deques t ds
unfolding occurrences in_deques flat_map
occurrences_in t [] = refl
occurrences_in t (d ∷ ds) =
    occurrences_append t d (flat_map (λ d. d) ds) ∙ ap (λ (n : ℕ). occurrences t d + n) (occurrences_in t ds)

-- one of some deques, and others behind them
deque_within : (ds others : List (List ℕ)) (w : ℕ) → length (get_or ds w []) ≤ length (flat_map (λ d. d) (ds ++ others))
unfolding flat_map
deque_within [] others w = omega arith
deque_within (d ∷ ds) others zero = omega (arith, length-append d (flat_map (λ d. d) (ds ++ others)))
deque_within (d ∷ ds) others (suc w) = omega (arith, length-append d (flat_map (λ d. d) (ds ++ others)), deque_within ds others w)

module _ {graph : Graph} {e : Execution} (placed : Placed graph e) where
  times : (t : ℕ) → occurrences t (tasks_standing e) ≡ in_deques t e.deques + in_deques t e.muggable
  times t = occurrences_in t (e.deques ++ e.muggable) ∙ in_deques_append t e.deques e.muggable

  pub tasks_held : TasksHeld graph e
  tasks_held =
      let once : ((t : ℕ) → occurrences t (tasks_standing e) ≤ 1) = λ t. omega (arith, times t, standing_once placed t) in
      let of_plan : ((t : ℕ) → Memᴰ t (tasks_standing e) → t < tasks graph) =
      λ t m. (stands placed t (omega (arith, times t, occurs t (tasks_standing e) m))).of_plan in
      record {
        of_plan = of_plan;
        once = once;
        at_most =
            omega (
              arith,
              counted (tasks graph) (tasks_standing e) of_plan,
              sum_of_ones (tasks graph) (λ t. occurrences t (tasks_standing e)) once,
            );
      }

  pub worker_length : (w : ℕ) → length (deque_of e w) ≤ tasks graph
  worker_length w = omega (arith, deque_within e.deques e.muggable w, tasks_held.at_most)
