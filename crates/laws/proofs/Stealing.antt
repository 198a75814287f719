-- What a steal takes of a deque, and what it leaves: half is taken, and so not all (`some_left`), which is all that the laws but `Thefts`
-- and the code's proofs know of the number of stolen tasks. Then every deque after a steal that succeeds. Assumes nothing.
use mathlib.Core.Path.{◌≡◌, sym, ◌∙◌}
use mathlib.Core.List.{List, [], ◌++◌}
use Prim.Native.Nat.{ℕ, ◌-◌, ◌/◌, ◌≤◌, ◌<◌}
use native.Mathlib.Nat.{not-suc-le-zero}
use native.Mathlib.Omega.{arith}
use lib.ListN.{length, set, length-set, length-take, length-drop, take-append-drop}
use lib.Seq.{get_or-set_same, get_or-set_other}
use Rattle.model.specs.Machine.{Execution, deque_of, stolen_count, left_by_steal, taken_by_steal, successful_steal}
use Rattle.laws.proofs.Deques.{filled_within}

-- of two or more tasks a steal does not take all
pub some_left : (n : ℕ) → 2 ≤ n → stolen_count n < n
unfolding stolen_count
some_left n two = omega arith

-- what is left and then what is taken are the deque
pub left_then_taken : (deque : List ℕ) → left_by_steal deque ++ taken_by_steal deque ≡ deque
unfolding left_by_steal taken_by_steal
left_then_taken deque = take-append-drop (length deque - stolen_count (length deque)) deque

pub left_filled : (deque : List ℕ) → 2 ≤ length deque → 1 ≤ length (left_by_steal deque)
unfolding left_by_steal
left_filled deque two = rw length-take (omega (arith, some_left (length deque) two))

pub half_taken : (deque : List ℕ) → length (taken_by_steal deque) ≡ length deque / 2
unfolding taken_by_steal stolen_count
half_taken deque = rw length-drop (omega arith)

-- ---- the deques after a steal that succeeds

module _ (e : Execution) (thief victim : ℕ) (own : deque_of e thief ≡ []) (two : 2 ≤ length (deque_of e victim)) where
  abbrev left : List ℕ
  left = left_by_steal (deque_of e victim)

  abbrev taken : List ℕ
  taken = taken_by_steal (deque_of e victim)

  -- nobody robs itself
  pub apart : thief ≡ victim → ⊥
  apart same = not-suc-le-zero (rw (← same, own) at two)

  pub victim_within : victim < length e.deques
  victim_within = filled_within e.deques victim (omega arith)

  pub victim_after : deque_of (successful_steal thief victim e) victim ≡ left
  unfolding successful_steal
  victim_after =
      get_or-set_other (set e.deques victim left) thief victim taken [] (λ same. apart (sym same))
      ∙ get_or-set_same e.deques victim left [] victim_within

  pub thief_after : thief < length e.deques → deque_of (successful_steal thief victim e) thief ≡ taken
  unfolding successful_steal
  thief_after here = get_or-set_same (set e.deques victim left) thief taken [] (rw length-set here)

  pub others_after : (w : ℕ) → (w ≡ thief → ⊥) → (w ≡ victim → ⊥) → deque_of (successful_steal thief victim e) w ≡ deque_of e w
  unfolding successful_steal
  others_after w not_thief not_victim =
      get_or-set_other (set e.deques victim left) thief w taken [] not_thief ∙ get_or-set_other e.deques victim w left [] not_victim
