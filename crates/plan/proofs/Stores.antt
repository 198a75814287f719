-- The memory's parts while the tasks are read: what storing one task's fields and noting its successors does.
use mathlib.Core.Path.{◌≡◌, refl, sym, ◌∙◌, ap}
use mathlib.Core.Bool.{Bool, true, false, cond, not, ◌&&◌, and_assoc}
use mathlib.Core.Logic.{⊎_elim}
use mathlib.Core.List.Memᴰ
use mathlib.Core.List.{List}
use Prim.Native.Nat.{ℕ, zero, suc, ◌+◌, ◌≤◌, ◌<◌}
use native.Mathlib.Nat.{add-zero, zero-add, eq-or-lt_of_le, le_of_suc-le-suc}
use native.Mathlib.Numerals.{add-one}
use native.Mathlib.Omega.{arith}
use borrow.Author.Tests.{eqb-true, eqb-false}
use lib.Dec.{leb, eqb}
use lib.ListN.{length, get_or, set, take, drop, length-set}
use Rattle.std.proofs.lemmas.List.{length-take, get_or-take, get_or-drop}
use lib.Seq.{get_or-set_same, get_or-set_other}
use Rattle.model.specs.Tests.{below, every, member}
use Rattle.model.specs.Plan.{used_fields}
use Rattle.memory.specs.Parts.{Parts, region, parts, with_pending, with_spans}
use Rattle.memory.proofs.Regions.{store_inside, store_above, store_below, store_pending, store_spans, first_at, pending_at}
use Rattle.plan.specs.Headings.{Ends}
use Rattle.plan.specs.Reads.{noted, one_or_two, followed}
use Rattle.lists.proofs.Lists.{stored_most}
use Rattle.lists.proofs.Ranges.{every_below, every_from_one}
use Rattle.plan.proofs.Facts.{FieldFacts, TargetFacts}

-- ---- the two fields of the task t and its span stored

abbrev with_two : Parts → ℕ → ℕ → ℕ → Parts
with_two p t first second =
    record {
      first = set p.first t first;
      second = set p.second t second;
      next = p.next;
      pending = p.pending;
      ends = p.ends;
      spans = p.spans;
    }

abbrev pub with_fields : Parts → ℕ → ℕ → ℕ → ℕ → Parts
with_fields p t first second its_span = with_spans (with_two p t first second) (set p.spans t its_span)

two_stored : (memory : List ℕ) (t first second : ℕ) → t < 1024 →
    parts (set (set memory t first) (1024 + t) second) ≡ with_two (parts memory) t first second
unfolding parts
two_stored memory t first second inside =
    let first_store : region 0 1024 (set memory t first) ≡ set (region 0 1024 memory) t first =
    ap (λ i. region 0 1024 (set memory i first)) (sym (zero-add t)) ∙ store_inside 0 1024 memory t first inside in
    let below_it = set memory t first in
    rw (
      store_above 0 1024 below_it (1024 + t) second (omega arith),
      store_inside 1024 1024 below_it t second inside,
      store_below 2048 1024 below_it (1024 + t) second (omega arith),
      store_below 3072 1024 below_it (1024 + t) second (omega arith),
      store_below 4096 256 below_it (1024 + t) second (omega arith),
      store_below 4352 1024 below_it (1024 + t) second (omega arith),
      first_store,
      store_below 1024 1024 memory t first (omega arith),
      store_below 2048 1024 memory t first (omega arith),
      store_below 3072 1024 memory t first (omega arith),
      store_below 4096 256 memory t first (omega arith),
      store_below 4352 1024 memory t first (omega arith),
    )

pub fields_stored : (memory : List ℕ) (t first second its_span : ℕ) → t < 1024 →
    parts (set (set (set memory t first) (1024 + t) second) (4352 + t) its_span) ≡ with_fields (parts memory) t first second its_span
fields_stored memory t first second its_span inside =
    store_spans (set (set memory t first) (1024 + t) second) t its_span inside ∙ rw (two_stored memory t first second inside)

-- ---- a field stored at t

module _ (f : ℕ → ℕ) (xs : List ℕ) (t : ℕ) (ends : Ends t xs) (small : t < 1024) where
  pub stored_held : ((u : ℕ) → u < t → get_or xs u 0 ≡ f u) → (u : ℕ) → u < suc t → get_or (set xs t (f t)) u 0 ≡ f u
  stored_held h u l = ⊎_elim at before (eq-or-lt_of_le (le_of_suc-le-suc l))
    where
      at : u ≡ t → get_or (set xs t (f t)) u 0 ≡ f u
      at e = rw e (get_or-set_same xs t (f t) 0 (omega (arith, ends.places)))

      before : u < t → get_or (set xs t (f t)) u 0 ≡ f u
      before b = get_or-set_other xs t u (f t) 0 (λ e. omega arith) ∙ h u b

  pub stored_ends : Ends (suc t) (set xs t (f t))
  stored_ends =
      record {
        places = length-set xs t (f t) ∙ ends.places;
        nothing_past = λ u l. get_or-set_other xs t u (f t) 0 (λ e. omega arith) ∙ ends.nothing_past u (omega arith);
      }

-- ---- a predecessor noted

module _ (counts : List ℕ) (s : ℕ) where
  noted_same : s < length counts → get_or (noted counts s) s 0 ≡ get_or counts s 0 + 1
  unfolding noted
  noted_same l = get_or-set_same counts s _ 0 l

  noted_other : (u : ℕ) → (u ≡ s → ⊥) → get_or (noted counts s) u 0 ≡ get_or counts u 0
  unfolding noted
  noted_other u ne = get_or-set_other counts s u _ 0 ne

  pub length_noted : length (noted counts s) ≡ length counts
  unfolding noted
  length_noted = length-set counts s _

  -- no count is more than one higher
  pub noted_most : (most : ℕ) → ((u : ℕ) → get_or counts u 0 ≤ most) → (u : ℕ) → get_or (noted counts s) u 0 ≤ most + 1
  unfolding noted
  noted_most most few = stored_most counts s (get_or counts s 0 + 1) (most + 1) (omega (arith, few s)) (λ v. omega (arith, few v))

pub noted_stored : (memory : List ℕ) (s : ℕ) → s < 1024 →
    parts (set memory (3072 + s) (get_or memory (3072 + s) 0 + 1)) ≡ with_pending (parts memory) (noted (parts memory).pending s)
unfolding noted
noted_stored memory s inside = store_pending memory s _ inside ∙ rw (pending_at memory s inside)

pub noted_ends : (n : ℕ) (counts : List ℕ) (s : ℕ) → s < n → Ends n counts → Ends n (noted counts s)
noted_ends n counts s l ends =
    record {
      places = length_noted counts s ∙ ends.places;
      nothing_past = λ u m. noted_other counts s u (λ e. omega arith) ∙ ends.nothing_past u m;
    }

-- one successor s more, and what is said of every task from 1
note_one : (old : ℕ → ℕ) (counts : List ℕ) (s : ℕ) → 0 < s → s < length counts → ((u : ℕ) → 1 ≤ u → get_or counts u 0 ≡ old u) →
    (u : ℕ) → 1 ≤ u → get_or (noted counts s) u 0 ≡ old u + cond (eqb u s) 1 0
note_one old counts s p l h u m = by (eqb u s) refl
  where
    by : (b : Bool) → eqb u s ≡ b → get_or (noted counts s) u 0 ≡ old u + cond b 1 0
    by true e = rw (eqb-true u s e) (noted_same counts s l ∙ ap (λ n. n + 1) (h s p))
    by false e = noted_other counts s u (eqb-false u s e) ∙ (h u m ∙ sym (add-zero (old u)))

-- an unused field is noted at task 0 alone
noted_unused : (counts : List ℕ) (s u : ℕ) → s ≡ 0 → 1 ≤ u → get_or (noted counts s) u 0 ≡ get_or counts u 0
noted_unused counts s u e m = noted_other counts s u (λ same. omega arith)

as_test : (b : Bool) → cond b true false ≡ b
as_test true = refl
as_test false = refl

-- two different successors are never the same task
either : (o u a b : ℕ) → (a ≡ b → ⊥) →
    o + cond (eqb u a) 1 0 + cond (eqb u b) 1 0 ≡ o + cond (cond (eqb u a) true (cond (eqb u b) true false)) 1 0
either o u a b ne = by (eqb u a) (eqb u b) refl refl
  where
    by : (p q : Bool) → eqb u a ≡ p → eqb u b ≡ q → o + cond p 1 0 + cond q 1 0 ≡ o + cond (cond p true (cond q true false)) 1 0
    by true true e f = absurd (ne (sym (eqb-true u a e) ∙ eqb-true u b f))
    by true false e f = omega arith
    by false true e f = omega arith
    by false false e f = omega arith

-- the successors of a task that 7 and 8 pass: each count is one more where the task is among them
pub note_successors : (old : ℕ → ℕ) (counts : List ℕ) (n t count first second : ℕ) → length counts ≡ 1024 → n ≤ 1024 →
    FieldFacts count first second → TargetFacts n t (used_fields count first second) →
    ((u : ℕ) → 1 ≤ u → get_or counts u 0 ≡ old u) → (u : ℕ) → 1 ≤ u →
    get_or (noted (noted counts first) second) u 0 ≡ old u + cond (member u (used_fields count first second)) 1 0
unfolding member
note_successors old counts n t zero first second size small f g h u m =
    noted_unused (noted counts first) second u (f.second_unused (omega arith)) m
    ∙ (noted_unused counts first u (f.first_unused refl) m ∙ (h u m ∙ sym (add-zero (old u))))
note_successors old counts n t (suc zero) first second size small f g h u m =
    let up : t < first = g.upward first (Memᴰ.head refl) in
    let low : first < n = g.inside first (Memᴰ.head refl) in
    noted_unused (noted counts first) second u (f.second_unused (omega arith)) m
    ∙ (note_one old counts first (omega arith) (omega arith) h u m ∙ ap (λ b. old u + cond b 1 0) (sym (as_test (eqb u first))))
note_successors old counts n t (suc (suc more)) first second size small f g h u m =
    let up : t < first = g.upward first (Memᴰ.head refl) in
    let low : first < n = g.inside first (Memᴰ.head refl) in
    let up_2 : t < second = g.upward second (Memᴰ.tail (Memᴰ.head refl)) in
    let low_2 : second < n = g.inside second (Memᴰ.tail (Memᴰ.head refl)) in
    note_one (λ v. old v + cond (eqb v first) 1 0) (noted counts first) second (omega arith) (omega (arith, length_noted counts first))
    (note_one old counts first (omega arith) (omega arith) h) u m
    ∙ either (old u) u first second (g.apart first second refl)

-- ---- the tests of questions 9 and 10, of one task more

-- the counts of the tasks from 1 up, k of them, are a part of the memory
pub more_preceded : (memory : List ℕ) (k i : ℕ) (all : Bool) → i < length (take k (drop 3073 memory)) → k ≤ 1023 →
    all ≡ every (one_or_two (parts memory).pending) (drop 1 (below (1 + i))) →
    (all && leb 1 (get_or (take k (drop 3073 memory)) i 0) && leb (get_or (take k (drop 3073 memory)) i 0) 2) ≡
    every (one_or_two (parts memory).pending) (drop 1 (below (1 + (i + 1))))
unfolding one_or_two
more_preceded memory k i all l small e =
    let counts = (parts memory).pending in
    let inside : i < k = omega (arith, length-take k (drop 3073 memory)) in
    let there : get_or (take k (drop 3073 memory)) i 0 ≡ get_or counts (1 + i) 0 =
    get_or-take k (drop 3073 memory) i 0 inside
    ∙ (get_or-drop 3073 memory i 0
    ∙ (ap (λ j. get_or memory j 0) (omega arith) ∙ pending_at memory (1 + i) (omega arith))) in
    rw there (and_assoc all (leb 1 (get_or counts (1 + i) 0)) (leb (get_or counts (1 + i) 0) 2))
    ∙ (ap (λ b. b && one_or_two counts (1 + i)) e
    ∙ sym
    (ap (λ n. every (one_or_two counts) (drop 1 (below n))) (omega arith) ∙ every_from_one (one_or_two counts) (1 + i) (omega arith)))

-- the first successors of the tasks but the last, k of them, are its first part
pub more_followed : (memory : List ℕ) (k i : ℕ) (all : Bool) → i < length (take k memory) → k ≤ 1023 →
    all ≡ every (followed (parts memory).first) (below i) →
    (all && not (eqb (get_or (take k memory) i 0) 0)) ≡ every (followed (parts memory).first) (below (i + 1))
unfolding followed
more_followed memory k i all l small e =
    let first = (parts memory).first in
    let inside : i < k = omega (arith, length-take k memory) in
    let there : get_or (take k memory) i 0 ≡ get_or first i 0 = get_or-take k memory i 0 inside ∙ first_at memory i (omega arith) in
    rw there (ap (λ b. b && followed first i) e)
    ∙ sym (ap (λ n. every (followed first) (below n)) (add-one i) ∙ every_below (followed first) i)
