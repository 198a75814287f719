-- The demands as statements over a plan and a whole list of calls, refused ones included. They are proved in the crate `laws`.
-- Each is for any responsiveness R of 2 or more, or of 12 to 20 tenths, but for those on the table of top desires, which is for an R of 2
-- to 7.
use Rattle.std.specs.Prelude.{◌≡◌, true, false, ◌↔◌, ℕ, suc, ◌+◌, ◌*◌, ◌-◌, ◌≤◌, ◌<◌, length, get_or, take}
use mathlib.Core.List.{List, [], ◌∷◌, ◌++◌, Memᴰ}
use Rattle.model.specs.Tests.{occurrences}
use Rattle.model.specs.Questions.{accepted}
use Rattle.model.specs.Plan.{Growth, by_factor, by_tenths, Plan, Terms, Graph, tasks, successors_of, predecessors, duration_of}
use Rattle.model.specs.Plan.{most_tasks, longest_quantum, longest_duration}
use Rattle.model.specs.Machine.{worked, Wish, State, Call, ticks, call_answer, allotment, status, desire_at, most_workers}
use Rattle.model.specs.Machine.{ticked, closes, efficient_now, satisfied_now, next_wish, top_desire, row_of, last_power}
use Rattle.model.specs.History.{ClosedQuantum, History, run, history_step, work_count, mug_count, work_order}

-- ---- what an accepted plan is: the plan rules, as facts about the plan

-- question 3: "Is R at least 2?"; of form 3 "12 to 20 tenths"
abbrev pub Responsive : Growth → Type 0
Responsive (by_factor r) = 2 ≤ r
Responsive (by_tenths t) = (12 ≤ t) × (t ≤ 20)

pub record SoundTerms (terms : Terms) : Type 0 where
  pub responsive : Responsive terms.growth
  pub utilized : 1 ≤ terms.utilization
  pub percent : terms.utilization ≤ 100
  pub timed : 1 ≤ terms.quantum_length

pub record SoundGraph (graph : Graph) : Type 0 where
  pub some_task : 1 ≤ tasks graph
  -- at most two successors, each above its task's number and below N, and different
  pub two_at_most : (t : ℕ) → t < tasks graph → length (successors_of graph t) ≤ 2
  pub upward : (t s : ℕ) → t < tasks graph → Memᴰ s (successors_of graph t) → t < s
  pub inside : (t s : ℕ) → t < tasks graph → Memᴰ s (successors_of graph t) → s < tasks graph
  pub apart : (t a b : ℕ) → t < tasks graph → successors_of graph t ≡ a ∷ b ∷ [] → a ≡ b → ⊥
  -- every task from 1 up has one or two predecessors
  pub preceded : (t : ℕ) → 1 ≤ t → t < tasks graph → 1 ≤ length (predecessors graph t)
  pub preceded_twice : (t : ℕ) → 1 ≤ t → t < tasks graph → length (predecessors graph t) ≤ 2
  -- task N − 1 is the only one without successors
  pub exit_last : (t : ℕ) → t < tasks graph → (successors_of graph t ≡ []) ↔ (t + 1 ≡ tasks graph)

pub record SoundPlan (plan : Plan) : Type 0 where
  pub terms : SoundTerms plan.terms
  pub graph : SoundGraph plan.graph
  -- every task lasts a tick or more
  pub each_lasts : length plan.durations ≡ tasks plan.graph
  pub lasting : (t : ℕ) → t < tasks plan.graph → 1 ≤ duration_of plan t

-- R of 3 bits, or of 5 bits in tenths
abbrev pub GrowthMost : Growth → Type 0
GrowthMost (by_factor r) = r ≤ 7
GrowthMost (by_tenths t) = t ≤ 31

-- what the field widths bound
pub record WithinBounds (plan : Plan) : Type 0 where
  pub tasks_most : tasks plan.graph ≤ most_tasks
  pub quantum_most : plan.terms.quantum_length ≤ longest_quantum
  pub growth_most : GrowthMost plan.terms.growth
  pub durations_most : (t : ℕ) → duration_of plan t ≤ longest_duration

-- ---- demand 3

-- of M mugs and W + M work and mug ticks: M × L × D ≤ 100 × (1 + R) × (W + M). Request U14, of t tenths: "M × L × D × 10 is at most
-- 100 × (10 + 2 × t) × (W + M)"
abbrev pub Limit : Growth → (m l d both : ℕ) → Type 0
Limit (by_factor r) m l d both = m * l * d ≤ 100 * (1 + r) * both
Limit (by_tenths t) m l d both = m * l * d * 10 ≤ 100 * (10 + 2 * t) * both

abbrev pub MugLimit : Plan → History → Type 0
MugLimit plan h =
    Limit plan.terms.growth (mug_count h) plan.terms.quantum_length plan.terms.utilization (work_count h + mug_count h)

abbrev pub no_quantum : ClosedQuantum
no_quantum = record { power = 0; wanted = 0; granted = 0; was_efficient = true; was_satisfied = false }

-- the closed quantum of that number, counted from 0 in the order in which they began
abbrev pub nth : List ClosedQuantum → ℕ → ClosedQuantum
nth quanta i = get_or quanta i no_quantum

abbrev pub Inefficient : List ClosedQuantum → ℕ → Type 0
Inefficient quanta i = (i < length quanta) × ((nth quanta i).was_efficient ≡ false)

-- an earlier round's "wanted count times R is its own". Request U14, of form 3: "the paired earlier round is one power lower"
abbrev pub OneStepLower : Growth → ClosedQuantum → ClosedQuantum → Type 0
OneStepLower (by_factor r) earlier own = earlier.wanted * r ≡ own.wanted
OneStepLower (by_tenths t) earlier own = earlier.power + 1 ≡ own.power

-- "each closed inefficient round has an earlier closed, efficient and satisfied round whose wanted count times R is its own, and no two
-- share one"
pub record Pairing (plan : Plan) (quanta : List ClosedQuantum) : Type 0 where
  pub partner : ℕ → ℕ
  pub earlier : (i : ℕ) → Inefficient quanta i → partner i < i
  pub efficient : (i : ℕ) → Inefficient quanta i → (nth quanta (partner i)).was_efficient ≡ true
  pub satisfied : (i : ℕ) → Inefficient quanta i → (nth quanta (partner i)).was_satisfied ≡ true
  pub lower : (i : ℕ) → Inefficient quanta i → OneStepLower plan.terms.growth (nth quanta (partner i)) (nth quanta i)
  pub unshared : (i j : ℕ) → Inefficient quanta i → Inefficient quanta j → partner i ≡ partner j → i ≡ j

pub record Demand3 (plan : Plan) (calls : List Call) : Type 0 where
  pub limit : MugLimit plan (run plan calls)
  pub pairing : Pairing plan (run plan calls).closed_quanta

-- where L × D > 100 × (1 + R), and for t tenths where 10 × L × D > 100 × (10 + 2 × t), the limit bounds the mugs by the work alone
abbrev pub Bound : Growth → (m ld w : ℕ) → Type 0
Bound (by_factor r) m ld w = 100 * (1 + r) < ld → m * (ld - 100 * (1 + r)) ≤ 100 * (1 + r) * w
Bound (by_tenths t) m ld w = 100 * (10 + 2 * t) < ld * 10 → m * (ld * 10 - 100 * (10 + 2 * t)) ≤ 100 * (10 + 2 * t) * w

abbrev pub MugBound : Plan → History → Type 0
MugBound plan h = Bound plan.terms.growth (mug_count h) (plan.terms.quantum_length * plan.terms.utilization) (work_count h)

-- ---- its companions

-- of the work ticks in their order, the one at the place i completes its task: with it all ticks of the task are done
abbrev pub Completes : Plan → List ℕ → ℕ → Type 0
Completes plan order i = (i < length order) × (occurrences (get_or order i 0) (take (suc i) order) ≡ duration_of plan (get_or order i 0))

-- before the place i all ticks of the task p are done
abbrev pub CompletedBefore : Plan → List ℕ → ℕ → ℕ → Type 0
CompletedBefore plan order i p = occurrences p (take i order) ≡ duration_of plan p

-- "Each piece is worked at most once, after all before it", where worked means completed (request U9), and no tick of it is done before
pub record OnceAndInOrder (plan : Plan) (h : History) : Type 0 where
  -- no tick of a task comes after the one that completes it
  pub none_after : (i j : ℕ) → Completes plan (work_order h) i → j < length (work_order h) →
      get_or (work_order h) j 0 ≡ get_or (work_order h) i 0 → j ≤ i
  pub once : (i j : ℕ) → Completes plan (work_order h) i → Completes plan (work_order h) j →
      get_or (work_order h) i 0 ≡ get_or (work_order h) j 0 → i ≡ j
  -- before any tick of a task each of its predecessors is completed
  pub in_order : (i p : ℕ) → i < length (work_order h) → Memᴰ p (predecessors plan.graph (get_or (work_order h) i 0)) →
      CompletedBefore plan (work_order h) i p
  -- the tasks that the state shows as worked are those that the order completes
  pub marked : (t : ℕ) → (get_or (worked h.state.execution) t false ≡ true)
      ↔ ((i : ℕ) × Completes plan (work_order h) i × (get_or (work_order h) i 0 ≡ t))

-- "finished is shown when all pieces are worked and never otherwise"
abbrev pub FinishedExactly : Plan → History → Type 0
FinishedExactly plan h = (status h.state ≡ 3) ↔ ((t : ℕ) → t < tasks plan.graph → get_or (worked h.state.execution) t false ≡ true)

-- "While a job is unfinished, each tick with a worker granted does at least one work or mug tick."
abbrev pub Progress : Plan → History → Type 0
Progress plan h =
    (choices : List ℕ) → call_answer (ticks choices) h.state ≡ accepted → 1 ≤ allotment h.state →
    work_count h + mug_count h < work_count (history_step plan (ticks choices) h) + mug_count (history_step plan (ticks choices) h)

-- "Wanted 1 is never met by an inefficient round."
abbrev pub OneIsEfficient : List ClosedQuantum → Type 0
OneIsEfficient quanta = (i : ℕ) → Inefficient quanta i → 1 < (nth quanta i).wanted

-- k never falls below 0: an inefficient round has a power to fall from
abbrev pub FallsFromAbove : List ClosedQuantum → Type 0
FallsFromAbove quanta = (i : ℕ) → Inefficient quanta i → 1 ≤ (nth quanta i).power

-- the wanted count is that of its power, and at most 64: a power of R, so that the divisions are exact, or the whole part of one. "up to 23
-- of them": the power is at most 22. And so it was in every closed round
pub record DesireIsPower (plan : Plan) (h : History) : Type 0 where
  pub is_power : h.state.wish.desire ≡ desire_at plan.terms.growth h.state.wish.power
  pub at_most : h.state.wish.desire ≤ most_workers
  pub power_at_most : h.state.wish.power ≤ last_power
  pub was_power : (i : ℕ) → i < length h.closed_quanta →
      (nth h.closed_quanta i).wanted ≡ desire_at plan.terms.growth (nth h.closed_quanta i).power

-- ---- a quantum's end

-- the quantum that closes in a state, by what the state shows
abbrev pub ending : Plan → State → ClosedQuantum
ending plan s =
    record {
      power = s.wish.power;
      wanted = s.wish.desire;
      granted = allotment s;
      was_efficient = efficient_now plan s;
      was_satisfied = satisfied_now s;
    }

-- a history after a quantum's end: the quantum is the last of those closed, and what is wanted moved by its verdict
pub record Judged (plan : Plan) (before after : History) (q : ClosedQuantum) : Type 0 where
  pub recorded : after.closed_quanta ≡ before.closed_quanta ++ q ∷ []
  pub moved : after.state.wish
      ≡ next_wish plan.terms.growth (record { power = q.power; desire = q.wanted }) q.was_efficient q.was_satisfied

-- the history judges a quantum by the counts that it kept of it, the state by those that it shows when the quantum closes: they agree
abbrev pub EndsAsRecorded : Plan → History → Type 0
EndsAsRecorded plan h =
    (choices : List ℕ) → call_answer (ticks choices) h.state ≡ accepted → closes plan (ticked plan choices h.state) ≡ true →
    Judged plan h (history_step plan (ticks choices) h) (ending plan (ticked plan choices h.state))

-- ---- the table of the six top desires, and the nine rows of whole parts

-- "the largest powers of R up to 64": a power of R, at most 64, and R times it exceeds 64
pub record TopDesire (responsiveness top : ℕ) : Type 0 where
  pub power : ℕ
  pub is_power : top ≡ desire_at (by_factor responsiveness) power
  pub at_most : top ≤ most_workers
  pub largest : most_workers < top * responsiveness

-- a row of t tenths: the whole parts of the powers, in their order, at most 64 each; and the next one exceeds 64
pub record WholeParts (t : ℕ) (row : List ℕ) : Type 0 where
  pub is_whole_part : (k : ℕ) → k < length row → get_or row k 0 ≡ desire_at (by_tenths t) k
  pub at_most : (k : ℕ) → k < length row → get_or row k 0 ≤ most_workers
  pub up_to_64 : most_workers < desire_at (by_tenths t) (length row)

-- "So it stops at the largest powers of R up to 64, for R = 2 to 7": the wanted count never exceeds the table's entry; an efficient and
-- satisfied end multiplies it by R below the entry, and leaves it at the entry
pub record StopsAtTop (r : ℕ) (wish : Wish) : Type 0 where
  pub at_most : wish.desire ≤ top_desire r
  pub rises : wish.desire < top_desire r → (next_wish (by_factor r) wish true true).desire ≡ wish.desire * r
  pub stays : wish.desire ≡ top_desire r → next_wish (by_factor r) wish true true ≡ wish

-- of t tenths: k is a place of the row, and the wanted count its entry; an efficient and satisfied end goes to the next entry, and stays at
-- the last
pub record StopsAtRowEnd (t : ℕ) (wish : Wish) : Type 0 where
  pub inside : wish.power < length (row_of t)
  pub looked_up : wish.desire ≡ get_or (row_of t) wish.power 0
  pub rises : wish.power + 1 < length (row_of t) →
      next_wish (by_tenths t) wish true true ≡ record { power = wish.power + 1; desire = get_or (row_of t) (wish.power + 1) 0 }
  pub stays : wish.power + 1 ≡ length (row_of t) → next_wish (by_tenths t) wish true true ≡ wish

abbrev pub Stops : Growth → Wish → Type 0
Stops (by_factor r) wish = StopsAtTop r wish
Stops (by_tenths t) wish = StopsAtRowEnd t wish
