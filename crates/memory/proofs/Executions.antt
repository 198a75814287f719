-- Executions that agree in every part are the same, and the counts after each kind of cycle.
use mathlib.Core.Path.{◌≡◌}
use mathlib.Core.List.{List}
use Prim.Native.Nat.{ℕ}
use native.Mathlib.Numerals.{add-one}
use native.Mathlib.Nat.{add_comm}
use Rattle.model.specs.Machine.{Execution, Counts, counted_work, counted_mug, counted_steal}
use Rattle.memory.specs.Words.{Numbers}
use Rattle.memory.specs.View.{counts_view}
use Rattle.memory.specs.Cycles.{after_work, after_mug, after_steal}

pub same_execution : {left left' : List ℕ} {deques deques' muggable muggable' : List (List ℕ)} {counts counts' : Counts} →
    left ≡ left' → deques ≡ deques' → muggable ≡ muggable' → counts ≡ counts' →
    ◌≡◌ {A = Execution} (record { left = left; deques = deques; muggable = muggable; counts = counts })
    (record { left = left'; deques = deques'; muggable = muggable'; counts = counts' })
same_execution a b c d = λ i. record { left = a i; deques = b i; muggable = c i; counts = d i }

pub work_counted : (completed : ℕ) (m : Numbers) → counts_view (after_work completed m) ≡ counted_work (counts_view m)
work_counted completed m = simp add-one

pub mug_counted : (m : Numbers) → counts_view (after_mug m) ≡ counted_mug (counts_view m)
mug_counted m = simp add-one

pub steal_counted : (success : ℕ) (m : Numbers) → counts_view (after_steal success m) ≡ counted_steal success (counts_view m)
steal_counted success m = rw (add-one m.steals, add_comm m.successes success)
