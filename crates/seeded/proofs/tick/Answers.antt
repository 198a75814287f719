-- `seeded::tick` meets its contract: a refused tick leaves the job and the seed, and an accepted one is the plain tick with the drawn
-- choices, with workers or without.
-- Assumes nothing.
use mathlib.Core.Path.{◌≡◌, refl, sym, ap}
use Prim.Native.Nat.{ℕ, ◌≤◌}
use native.Mathlib.Omega.{arith}
use Rattle.std.proofs.Common.{rules}
use Rattle.model.specs.Seeds.{seed_after}
use Rattle.memory.specs.Words.{numbers_in}
use Rattle.memory.proofs.Words.{same_tail}
use Rattle.engine.proofs.Ticking.{tick_turn, countable, worked_tick, idle_tick}
use Rattle.seeded.proofs.Seeding.{asked_plainly, seeded_answered, seeded_moves, seeded_stays}
use Rattle.seeded.proofs.tick.Goals as goal

pub returns-in_err-seeded_answer-clause-answered : goal.returns-in_err-seeded_answer-clause-answered
returns-in_err-seeded_answer-clause-answered c =
    let told = seeded_answered c.args.seed.now c.requires.2 c.in_err-seeded_answer.ensures in search rules

pub returns-in_err-seeded_answer-clause-ticks : goal.returns-in_err-seeded_answer-clause-ticks
returns-in_err-seeded_answer-clause-ticks c = seeded_stays _ c.requires.2 _ c.in_err-seeded_answer.ensures

-- ---- no worker is granted

pub end_tick-requires : goal.end_tick-requires
end_tick-requires c =
    let plainly = asked_plainly c.args.seed.now c.requires.2 (sym c.in_ok-seeded_answer.ensures) in
    countable _ c.requires.2 plainly (same_tail _) (omega arith) refl

pub returns-then-nobody : goal.returns-then-nobody
unfolding seed_after
returns-then-nobody c =
    let asked = sym c.in_ok-seeded_answer.ensures in
    let seed = c.args.seed.now in
    let nobody : (numbers_in c.args.words.now).workers ≡ 0 = omega (arith, c.if-nobody.true) in
    record {
      answered = seeded_answered seed c.requires.2 c.in_ok-seeded_answer.ensures;
      ticks =
          seeded_moves seed c.requires.2 asked
          (idle_tick _ c.requires.2 (asked_plainly seed c.requires.2 asked) nobody c.end_tick.ensures)
          (ap (λ (n : ℕ). seed_after n seed) (sym nobody));
    }

-- ---- some are

pub cycles-requires : goal.cycles-requires
cycles-requires c =
    let some : 1 ≤ (numbers_in c.args.words.now).workers = omega (arith, c.if-nobody.false) in
    let plainly = asked_plainly c.args.seed.now c.requires.2 (sym c.in_ok-seeded_answer.ensures) in
    record { some_worker = some; turn = tick_turn _ c.requires.2 plainly some }

pub end_tick-requires-2 : goal.end_tick-requires-2
end_tick-requires-2 c =
    let plainly = asked_plainly c.args.seed.now c.requires.2 (sym c.in_ok-seeded_answer.ensures) in
    let done = c.cycles.ensures.ticked in
    countable _ c.requires.2 plainly done.tail done.grown.usage_grew done.grown.same_workers

pub returns : goal.returns
returns c =
    let asked = sym c.in_ok-seeded_answer.ensures in
    let seed = c.args.seed.now in
    let done = c.cycles.ensures in
    record {
      answered = seeded_answered seed c.requires.2 c.in_ok-seeded_answer.ensures;
      ticks =
          seeded_moves seed c.requires.2 asked
          (worked_tick _ c.requires.2 (asked_plainly seed c.requires.2 asked) done.ticked c.end_tick-2.ensures)
          done.drawn_on;
    }
