-- What a tick's cycles spend: the allotment stays, the open quantum's usage grows by the work and mug cycles, and each mug cycle takes one
-- muggable deque away while nothing adds one.
-- Assumes nothing.
use mathlib.Core.Path.{◌≡◌, refl, ◌∙◌}
use mathlib.Core.List.{List}
use Prim.Native.Nat.{ℕ, ◌+◌, ◌≤◌, ◌<◌}
use native.Mathlib.Omega.{arith}
use lib.ListN.{length}
use Rattle.model.specs.Plan.{Graph}
use Rattle.model.specs.Machine.{Execution, work_cycle, mug_cycle, successful_steal, failed_steal, cycle, cycles}
use Rattle.laws.proofs.Cycles.{cycle_cases, cycles_keep, cycles_allotment}
use Rattle.laws.proofs.Meaning.{cycles_counted}

-- work and mug cycles so far: the nonsteal usage of all quanta
abbrev pub spent : Execution → ℕ
spent e = e.counts.works.work + e.counts.mugs.mug

-- progress: with a worker granted, a tick's cycles spend
abbrev pub Progressing : Graph → List ℕ → Execution → Type 0
Progressing graph choices e = 1 ≤ length e.deques → spent e < spent (cycles graph 0 choices e)

-- the mug cycles made, and the deques that may still be mugged
abbrev muggings : Execution → ℕ
muggings e = e.counts.mugs.mug + length e.muggable

cycle_mugs : (graph : Graph) (w choice : ℕ) (e : Execution) → muggings (cycle graph w choice e) ≡ muggings e
unfolding work_cycle mug_cycle successful_steal failed_steal
cycle_mugs graph w choice e =
    cycle_cases graph w choice e
    (λ c after. muggings after ≡ muggings e)
    (record {
      working = λ t rest own. refl;
      mugging = λ oldest others own waiting. rw waiting (omega arith);
      stealing = λ own none two. refl;
      failing = λ own none few. refl;
    })

-- what cycles that lead from e to e' spend
pub record Spends (e e' : Execution) : Type 0 where
  pub workers : length e'.deques ≡ length e.deques
  pub usage : e'.counts.usage + spent e ≡ e.counts.usage + spent e'
  pub mugs : muggings e' ≡ muggings e

pub cycles_spend : (graph : Graph) (w : ℕ) (choices : List ℕ) (e : Execution) → w + length choices ≤ length e.deques →
    Spends e (cycles graph w choices e)
unfolding failed_steal
cycles_spend graph w choices e h =
    let c = cycles_counted graph w choices e h in
    record {
      workers = cycles_allotment graph choices w e h;
      usage = omega (arith, c.work, c.mug, c.nonsteal_usage);
      mugs = cycles_keep graph (λ after. muggings after ≡ muggings e)
          (λ v c before l q. cycle_mugs graph v c before ∙ q) (λ before q. q) choices w e h refl;
    }
