-- Every law of a history on one page, for every sound plan, of any responsiveness of 2 or more or of 12 to 20 tenths, and every list of
-- calls, refused ones included. The statements are those of model's specs/Statements.antt and of specs/ here. A stranger reads this first.
-- Assumes nothing.
use mathlib.Core.List.{List}
use mathlib.Core.Path.{◌≡◌}
use Prim.Native.Nat.{ℕ, ◌≤◌}
use native.Mathlib.Omega.{arith}
use Rattle.model.specs.Plan.{Growth, by_factor, by_tenths, Plan}
use Rattle.model.specs.Machine.{Call, desire_at, most_workers}
use Rattle.model.specs.History.{run}
use Rattle.model.specs.Statements.{Responsive, SoundPlan, Progress, Demand3, MugBound, OneIsEfficient, DesireIsPower, OnceAndInOrder}
use Rattle.model.specs.Statements.{FinishedExactly}
use Rattle.model.specs.Statements.{FallsFromAbove, GrowthMost, Stops, EndsAsRecorded, WithinBounds}
use Rattle.model.specs.Thefts.{StealsHalf}
use Rattle.model.specs.Muggings.{MuggedInTurn}
use Rattle.model.specs.WholeTicks.{WholeTicks}
use Rattle.model.specs.Lasting.{TicksAreWork, WorkIsTasks, OnlyFrontsBegun}
use Rattle.model.specs.Offers.{OfferThenOpen}
use Rattle.model.specs.Lines.{LinesBounded}
use Rattle.model.specs.Seeds.{SeededIsPlain, DayCall, after_calls, DayAsLog}
use Rattle.laws.specs.Reached.{Arranged, Measured, CountsFit}
use Rattle.laws.specs.Spent.{SpentOnly}
use Rattle.laws.specs.Meaning.{CountsMean, UsageMeans}
use Rattle.laws.proofs.PairingLaw.{pairing_of, falls_from_above}
use Rattle.laws.proofs.MugLimitLaw.{mug_limit_of, mug_bound_of}
use Rattle.laws.proofs.Accepted.{call_spent}
use Rattle.laws.proofs.SpentLaw.{spent_of}
use Rattle.laws.proofs.Carried.{Carried, carried}
use Rattle.laws.proofs.Carried as Carried
use Rattle.laws.proofs.Measures as Measures
use Rattle.laws.proofs.Tops as Tops
use Rattle.laws.proofs.Rows.{power_at_most, stops_at_row_end}
use Rattle.laws.proofs.Progress as Progress
use Rattle.laws.proofs.Order as Order
use Rattle.laws.proofs.Fronts as Fronts
use Rattle.laws.proofs.Histories as Histories
use Rattle.laws.proofs.Meaning as Meaning
use Rattle.laws.proofs.Thefts as Thefts
use Rattle.laws.proofs.Muggings as Muggings
use Rattle.laws.proofs.WholeTicks as WholeTicks
use Rattle.laws.proofs.Offers as Offers
use Rattle.laws.proofs.Lines as Lines
use Rattle.laws.proofs.Seeds as Seeds

module _ {plan : Plan} (sound : SoundPlan plan) (calls : List Call) where
  -- "While a job is unfinished, each tick with a worker granted does at least one work or mug tick."
  pub progress : Progress plan (run plan calls)
  progress = Progress.progress sound calls

  carries : Carried plan (run plan calls)
  carries = carried sound calls

  -- M × L × D ≤ 100 × (1 + R) × (W + M), of t tenths M × L × D × 10 ≤ 100 × (10 + 2 × t) × (W + M); and each closed inefficient quantum has
  -- an earlier closed, efficient and satisfied one whose desire times R is its own, of t tenths one power lower, and no two share one
  pub demand_three : Demand3 plan calls
  demand_three =
      let c = carries in
      record { limit = mug_limit_of plan (run plan calls) _ _ c.balance; pairing = pairing_of plan _ _ c.stack }

  -- where L × D > 100 × (1 + R): M × (L × D − 100 × (1 + R)) ≤ 100 × (1 + R) × W, so the work alone bounds the mugs; of t tenths likewise
  pub mug_bound : MugBound plan (run plan calls)
  mug_bound = mug_bound_of plan (run plan calls) demand_three.limit

  -- "Wanted 1 is never met by an inefficient round."
  pub one_is_efficient : OneIsEfficient (run plan calls).closed_quanta
  one_is_efficient = carries.stack.above_one

  -- k never falls below 0
  pub falls_above_zero : FallsFromAbove (run plan calls).closed_quanta
  falls_above_zero = falls_from_above plan _ _ carries.stack

  -- the desire is that of its power, at most 64, and was in every closed quantum: a power of R, so that no division leaves a remainder, or
  -- the whole part of one
  pub desire_is_power : DesireIsPower plan (run plan calls)
  desire_is_power =
      let c = carries in
      record {
        is_power = c.desire.is_count;
        at_most = c.desire.at_most;
        power_at_most =
            power_at_most plan.terms.growth sound.terms.responsive _ (omega (arith, c.desire.is_count, c.desire.at_most));
        was_power = c.stack.on_ladders;
      }

  -- "So it stops at the largest powers of R up to 64, for R = 2 to 7": the desire never exceeds the table's entry; an efficient and
  -- satisfied end multiplies it by R below the entry, and leaves it at the entry. Of 12 to 20 tenths k is a place of the row of whole
  -- parts, the desire its entry, and such an end goes to the next entry, and stays at the last
  pub stops_at_top : GrowthMost plan.terms.growth → Stops plan.terms.growth (run plan calls).state.wish
  stops_at_top widths =
      by_growth plan.terms.growth sound.terms.responsive widths desire_is_power.is_power desire_is_power.at_most
    where
      by_growth : (growth : Growth) → Responsive growth → GrowthMost growth →
          (run plan calls).state.wish.desire ≡ desire_at growth (run plan calls).state.wish.power →
          (run plan calls).state.wish.desire ≤ most_workers → Stops growth (run plan calls).state.wish
      by_growth (by_factor r) responsive three_bits is_power few = Tops.stops_at_top r responsive three_bits _ is_power few
      by_growth (by_tenths t) responsive five_bits is_power few =
          stops_at_row_end t responsive.0 responsive.1 _ is_power few

  -- what the history keeps of a quantum that closes is what the state shows, and the desire moves by the verdict kept
  pub ends_as_recorded : EndsAsRecorded plan (run plan calls)
  ends_as_recorded = Carried.ends_as_recorded sound calls

  -- "Each piece is worked at most once, after all before it", worked meaning completed, and no tick of it is done before; the state shows
  -- exactly those that the order completes
  pub once_and_in_order : OnceAndInOrder plan (run plan calls)
  once_and_in_order = Order.once_and_in_order sound calls

  -- a task's ticks done are at most its ticks, and the others are left; W is the sum over the tasks of the ticks done
  pub ticks_are_work : TicksAreWork plan (run plan calls)
  ticks_are_work = Order.ticks_are_work sound calls

  -- where each task lasts one tick, as in form 1, W is the number of tasks worked
  pub work_is_tasks : WorkIsTasks plan (run plan calls)
  work_is_tasks = Order.work_is_tasks sound calls

  -- "Only a front piece may be begun": after the calls, and inside a tick after each worker's cycle
  pub only_fronts_begun : OnlyFrontsBegun plan (run plan calls)
  only_fronts_begun = Fronts.only_fronts_begun sound calls

  -- "finished is shown when all pieces are worked and never otherwise"
  pub finished_exactly : FinishedExactly plan (run plan calls)
  finished_exactly = Order.finished_exactly sound calls

  -- once a worker was granted, the tasks in deques and muggable deques are exactly the ready unworked ones, each once; a muggable deque is
  -- never empty; work counts the ticks done
  pub arranged : Arranged plan (run plan calls).state
  arranged = Histories.arranged sound calls

  -- how large each count can be
  pub measured : Measured plan (run plan calls).state
  measured = Measures.measured sound calls

  -- the same in numbers, for fields of document 01's widths: no sum of the code can wrap
  pub counts_fit : WithinBounds plan → CountsFit (run plan calls).state
  counts_fit widths = Measures.counts_fit sound widths calls

  -- a call meets 13 only where every tick of every quantum that may begin is used up: in quanta without a worker, or each with a work or
  -- mug cycle
  pub spent_only : SpentOnly plan (run plan calls)
  spent_only call answer = spent_of plan (run plan calls) measured.quanta carries.pace (call_spent call _ answer)

  -- work, mug, steal and success count the cycles of their kind among all that the workers made
  pub counts_mean : CountsMean (run plan calls)
  counts_mean = Meaning.counts_mean plan calls

  -- usage is 0 when a quantum opens, and grows by the work and mug cycles of each tick
  pub usage_means : UsageMeans plan (run plan calls)
  usage_means = Meaning.usage_means plan (run plan calls)

  -- "A successful steal shall take the back half of the victim's line, rounded down, in its order, and it still needs two pieces there": in
  -- every execution, so also between two workers' cycles of one tick
  pub steals_half : StealsHalf plan.graph
  steals_half = Thefts.steals_half plan.graph

  -- "Among lines orphaned by the same grant, the highest worker number is now taken first. Lines of an earlier grant still come before
  -- them": what was mugged so far, and then what waits, is what all grants so far withdrew, each of them in falling worker order
  pub mugged_in_turn : MuggedInTurn plan calls
  mugged_in_turn = Muggings.mugged_in_turn plan calls

  -- "work, mug and steal ticks add up to the sum of the granted counts over all accepted ticks, a sum read from the history of calls"; and
  -- "In the tick that finishes a job, the workers after the one that finished it shall each count an unsuccessful steal"
  pub whole_ticks : WholeTicks plan calls
  whole_ticks = WholeTicks.whole_ticks plan calls

  -- "after every call, and after every worker's cycle inside a tick, non-empty lines and orphans together number at most the largest count
  -- granted so far. So 64 always suffices": and in them stand tasks of the plan, each at most once; a cycle or a grant changes the number
  -- by one or not at all, as said there
  pub lines_bounded : LinesBounded plan calls
  lines_bounded = Lines.lines_bounded sound calls

  -- "An offer of g meets the grant's questions and only notes g. Opening it takes a count up to g and then does what a grant does; opening
  -- and withdrawing both drop the note": opened it is a grant of the opened count, withdrawn it is nothing; and while it is noted nothing
  -- else moves the job
  pub offer_then_open : OfferThenOpen plan calls
  offer_then_open = Offers.offer_then_open plan calls

  -- "A seeded tick must equal a plain tick given the same choices": it has its answer, which 16 and 17 never are, and leaves what it
  -- leaves; the seed is then the state after as many draws as workers are granted, and stays where the tick is refused
  pub seeded_is_plain : (seed : ℕ) → SeededIsPlain plan (after_calls plan calls seed)
  seeded_is_plain seed = Seeds.seeded_is_plain plan (after_calls plan calls seed)

  -- "a seeded day of plain grants and seeded ticks, the refused ones left out, can be written as an ordinary log that ends in the same
  -- record": the log is whole and refuses nothing
  pub day_as_log : (seed : ℕ) (day : List DayCall) → DayAsLog plan calls seed day
  day_as_log seed day = Seeds.day_as_log sound calls seed day
