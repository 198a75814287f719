-- `quantum::whole_part` meets its contract: each entry of the code's rows is that of model's, and 65 past the end of a row, by one test
-- over all entries of all rows.
use mathlib.Core.Path.{◌≡◌, refl}
use mathlib.Core.Bool.{Bool, true}
use mathlib.Core.List.{List, [], ◌∷◌}
use Prim.Native.Nat.{ℕ, ◌-◌, ◌<◌}
use native.Mathlib.Omega.{arith}
use lib.Dec.{eqb}
use lib.ListN.{get_or}
use borrow.Author.Tests.{eqb-true}
use Rattle.model.specs.Tests.{below, every}
use Rattle.model.specs.Machine.{whole_parts}
use Rattle.lists.proofs.Lists.{every_at, below_has}
use Rattle.quantum.proofs.whole_part.Goals as goal

rows : List (List ℕ)
rows =
    (1 ∷ 1 ∷ 1 ∷ 1 ∷ 2 ∷ 2 ∷ 2 ∷ 3 ∷ 4 ∷ 5 ∷ 6 ∷ 7 ∷ 8 ∷ 10 ∷ 12 ∷ 15 ∷ 18 ∷ 22 ∷ 26 ∷ 31 ∷ 38 ∷ 46 ∷ 55 ∷ [])
    ∷ (1 ∷ 1 ∷ 1 ∷ 2 ∷ 2 ∷ 3 ∷ 4 ∷ 6 ∷ 8 ∷ 10 ∷ 13 ∷ 17 ∷ 23 ∷ 30 ∷ 39 ∷ 51 ∷ 65 ∷ 65 ∷ 65 ∷ 65 ∷ 65 ∷ 65 ∷ 65 ∷ [])
    ∷ (1 ∷ 1 ∷ 1 ∷ 2 ∷ 3 ∷ 5 ∷ 7 ∷ 10 ∷ 14 ∷ 20 ∷ 28 ∷ 40 ∷ 56 ∷ 65 ∷ 65 ∷ 65 ∷ 65 ∷ 65 ∷ 65 ∷ 65 ∷ 65 ∷ 65 ∷ 65 ∷ [])
    ∷ (1 ∷ 1 ∷ 2 ∷ 3 ∷ 5 ∷ 7 ∷ 11 ∷ 17 ∷ 25 ∷ 38 ∷ 57 ∷ 65 ∷ 65 ∷ 65 ∷ 65 ∷ 65 ∷ 65 ∷ 65 ∷ 65 ∷ 65 ∷ 65 ∷ 65 ∷ 65 ∷ [])
    ∷ (1 ∷ 1 ∷ 2 ∷ 4 ∷ 6 ∷ 10 ∷ 16 ∷ 26 ∷ 42 ∷ 65 ∷ 65 ∷ 65 ∷ 65 ∷ 65 ∷ 65 ∷ 65 ∷ 65 ∷ 65 ∷ 65 ∷ 65 ∷ 65 ∷ 65 ∷ 65 ∷ [])
    ∷ (1 ∷ 1 ∷ 2 ∷ 4 ∷ 8 ∷ 14 ∷ 24 ∷ 41 ∷ 65 ∷ 65 ∷ 65 ∷ 65 ∷ 65 ∷ 65 ∷ 65 ∷ 65 ∷ 65 ∷ 65 ∷ 65 ∷ 65 ∷ 65 ∷ 65 ∷ 65 ∷ [])
    ∷ (1 ∷ 1 ∷ 3 ∷ 5 ∷ 10 ∷ 18 ∷ 34 ∷ 61 ∷ 65 ∷ 65 ∷ 65 ∷ 65 ∷ 65 ∷ 65 ∷ 65 ∷ 65 ∷ 65 ∷ 65 ∷ 65 ∷ 65 ∷ 65 ∷ 65 ∷ 65 ∷ [])
    ∷ (1 ∷ 1 ∷ 3 ∷ 6 ∷ 13 ∷ 24 ∷ 47 ∷ 65 ∷ 65 ∷ 65 ∷ 65 ∷ 65 ∷ 65 ∷ 65 ∷ 65 ∷ 65 ∷ 65 ∷ 65 ∷ 65 ∷ 65 ∷ 65 ∷ 65 ∷ 65 ∷ [])
    ∷ (1 ∷ 2 ∷ 4 ∷ 8 ∷ 16 ∷ 32 ∷ 64 ∷ 65 ∷ 65 ∷ 65 ∷ 65 ∷ 65 ∷ 65 ∷ 65 ∷ 65 ∷ 65 ∷ 65 ∷ 65 ∷ 65 ∷ 65 ∷ 65 ∷ 65 ∷ 65 ∷ [])
    ∷ []

-- the entry at the place k of row i is right
right : ℕ → ℕ → Bool
right i k = eqb (get_or (get_or rows i []) k 0) (get_or (get_or whole_parts i []) k 65)

all_right : every (λ i. every (right i) (below 23)) (below 9) ≡ true
unfolding rows right whole_parts below every
all_right = refl

rule : (i k : ℕ) → i < 9 → k < 23 → get_or (get_or rows i []) k 0 ≡ get_or (get_or whole_parts i []) k 65
unfolding right
rule i k hi hk =
    let row_right = every_at (λ i. every (right i) (below 23)) (below 9) all_right i (below_has 9 i hi) in
    eqb-true _ _ (every_at (right i) (below 23) row_right k (below_has 23 k hk))

pub returns : goal.returns
unfolding rows
returns c =
    rule (c.args.tenths - 12) c.args.power (omega arith) (omega arith)
