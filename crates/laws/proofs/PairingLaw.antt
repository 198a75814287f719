-- Each inefficient quantum has an earlier efficient and satisfied partner, and no two share one. The induction carries a stack: for the
-- power k, one unused efficient and satisfied quantum for each power below k. An end that raises the desire puts its quantum on top; an
-- inefficient one takes the top as its partner; any other end leaves the stack.
-- Assumes nothing but how a quantum may end (QuantumEnd of Powers).
use mathlib.Core.Path.{◌≡◌, refl, sym, ap, ◌∙◌}
use mathlib.Core.Bool.{true, false, cond}
use mathlib.Core.Logic.{◌⊎◌, inl, inr}
use mathlib.Core.List.{List, [], ◌∷◌, ◌++◌}
use Prim.Native.Nat.{ℕ, suc, ◌<◌}
use native.Mathlib.Omega.{arith}
use native.Mathlib.Nat.{pow-suc, eq-or-lt_of_le, le_of_suc-le-suc}
use lib.Dec.{eqb}
use lib.ListN.{length, length-append, get_or-append}
use lib.Seq.{get_or-append_seam}
use borrow.Author.Tests.{eq-eqb, ne_eqb}
use Rattle.model.specs.Plan.{Growth, by_factor, by_tenths, Plan, Terms}
use Rattle.model.specs.Machine.{desire_at}
use Rattle.model.specs.History.{ClosedQuantum}
use Rattle.model.specs.Statements.{Pairing, OneStepLower, Inefficient, OneIsEfficient, FallsFromAbove, nth, no_quantum}
use Rattle.laws.proofs.Powers.{QuantumEnd, lowers, raises, stays}

-- ---- a function changed at one number

updated : (ℕ → ℕ) → ℕ → ℕ → ℕ → ℕ
updated f n v i = cond (eqb i n) v (f i)

updated_at : (f : ℕ → ℕ) (n v : ℕ) → updated f n v n ≡ v
unfolding updated
updated_at f n v = rw (eq-eqb n n refl)

updated_below : (f : ℕ → ℕ) (n v i : ℕ) → i < n → updated f n v i ≡ f i
unfolding updated
updated_below f n v i less = rw (ne_eqb i n (λ same. omega arith))

-- ---- what the induction carries, by the powers of the quanta

-- p is a partner of the inefficient quantum i: one power lower
pub record Paired (quanta : List ClosedQuantum) (i p : ℕ) : Type 0 where
  pub earlier : p < i
  pub efficient : (nth quanta p).was_efficient ≡ true
  pub satisfied : (nth quanta p).was_satisfied ≡ true
  pub lower : suc (nth quanta p).power ≡ (nth quanta i).power

-- the quantum l may stand on the stack for the power j
pub record Level (quanta : List ClosedQuantum) (j l : ℕ) : Type 0 where
  pub there : l < length quanta
  pub efficient : (nth quanta l).was_efficient ≡ true
  pub satisfied : (nth quanta l).was_satisfied ≡ true
  pub at_power : (nth quanta l).power ≡ j

-- each quantum's desire is that of its power
abbrev pub OnLadders : Growth → List ClosedQuantum → Type 0
OnLadders growth quanta = (i : ℕ) → i < length quanta → (nth quanta i).wanted ≡ desire_at growth (nth quanta i).power

pub record Stacked (growth : Growth) (quanta : List ClosedQuantum) (k : ℕ) : Type 0 where
  pub partner : ℕ → ℕ
  pub paired : (i : ℕ) → Inefficient quanta i → Paired quanta i (partner i)
  pub unshared : (i j : ℕ) → Inefficient quanta i → Inefficient quanta j → partner i ≡ partner j → i ≡ j
  pub above_one : OneIsEfficient quanta
  pub on_ladders : OnLadders growth quanta
  pub level : ℕ → ℕ
  pub levels : (j : ℕ) → j < k → Level quanta j (level j)
  pub apart : (i j : ℕ) → i < k → j < k → level i ≡ level j → i ≡ j
  pub unused : (i j : ℕ) → Inefficient quanta i → j < k → partner i ≡ level j → ⊥

-- one power lower, in each growth's words: where the desires are the powers of R, one power lower times R is the own desire
one_step_lower : (growth : Growth) (earlier own : ClosedQuantum) → earlier.wanted ≡ desire_at growth earlier.power →
    own.wanted ≡ desire_at growth own.power → suc earlier.power ≡ own.power → OneStepLower growth earlier own
one_step_lower (by_factor r) earlier own x y lower = rw (x, y, ← lower) (sym (pow-suc r earlier.power))
one_step_lower (by_tenths t) earlier own x y lower = omega arith

module _ (plan : Plan) (quanta : List ClosedQuantum) (k : ℕ) (s : Stacked plan.terms.growth quanta k) where
  pub pairing_of : Pairing plan quanta
  pairing_of =
      record {
        partner = s.partner;
        earlier = λ i bad. (s.paired i bad).earlier;
        efficient = λ i bad. (s.paired i bad).efficient;
        satisfied = λ i bad. (s.paired i bad).satisfied;
        lower =
            λ i bad.
            let p = s.paired i bad in
            one_step_lower plan.terms.growth _ _ (s.on_ladders (s.partner i) (omega (arith, p.earlier, bad.0)))
            (s.on_ladders i bad.0) p.lower;
        unshared = s.unshared;
      }

  -- one power lower is there, so the own power is above 0
  pub falls_from_above : FallsFromAbove quanta
  falls_from_above i bad = omega (arith, (s.paired i bad).lower)

no_inefficient : (i : ℕ) → Inefficient [] i → ⊥
no_inefficient i bad = omega (arith, bad.0)

pub stacked_none : (growth : Growth) → Stacked growth [] 0
stacked_none growth =
    record {
      partner = λ i. 0;
      paired = λ i bad. absurd (no_inefficient i bad);
      unshared = λ i j bad worse same. absurd (no_inefficient i bad);
      above_one = λ i bad. absurd (no_inefficient i bad);
      on_ladders = λ i less. absurd (omega arith);
      level = λ j. 0;
      levels = λ j less. absurd (omega arith);
      apart = λ i j less lesser same. absurd (omega arith);
      unused = λ i j bad less same. omega arith;
    }

-- ---- one quantum more

below_suc : {j k : ℕ} → j < suc k → (j ≡ k) ⊎ (j < k)
below_suc less = eq-or-lt_of_le (le_of_suc-le-suc less)

module _ (growth : Growth) (quanta : List ClosedQuantum) (q : ClosedQuantum)
    (its_wanted : q.wanted ≡ desire_at growth q.power)
  where
    abbrev more : List ClosedQuantum
    more = quanta ++ q ∷ []

    more_length : length more ≡ suc (length quanta)
    more_length = length-append quanta (q ∷ []) ∙ omega arith

    old : (i : ℕ) → i < length quanta → nth more i ≡ nth quanta i
    old i less = get_or-append quanta (q ∷ []) no_quantum i less

    new : nth more (length quanta) ≡ q
    new = get_or-append_seam quanta q [] no_quantum

    -- an inefficient quantum of the longer list is one of the shorter list, or q
    data Place (i : ℕ) : Type 0 where
      before : Inefficient quanta i → Place i
      last : i ≡ length quanta → q.was_efficient ≡ false → Place i

    place : (i : ℕ) → Inefficient more i → Place i
    place i bad = go (below_suc (omega (arith, bad.0, more_length)))
      where
        go : (i ≡ length quanta) ⊎ (i < length quanta) → Place i
        go (inl same) = last same (ap (λ c. c.was_efficient) (sym new ∙ ap (nth more) (sym same)) ∙ bad.1)
        go (inr less) = before (less, ap (λ c. c.was_efficient) (sym (old i less)) ∙ bad.1)

    paired_more : {i p : ℕ} → i < length quanta → Paired quanta i p → Paired more i p
    paired_more {i} {p} less s =
        let same = old i less in
        let same' = old p (omega (arith, s.earlier)) in
        record {
          earlier = s.earlier;
          efficient = rw same' s.efficient;
          satisfied = rw same' s.satisfied;
          lower = rw (same', same) s.lower;
        }

    level_more : {j l : ℕ} → Level quanta j l → Level more j l
    level_more {j} {l} s =
        let same = old l s.there in
        record {
          there = omega (arith, s.there, more_length);
          efficient = rw same s.efficient;
          satisfied = rw same s.satisfied;
          at_power = rw same s.at_power;
        }

    on_ladders_more : OnLadders growth quanta → OnLadders growth more
    on_ladders_more held i less = go (below_suc (omega (arith, more_length)))
      where
        go : (i ≡ length quanta) ⊎ (i < length quanta) → (nth more i).wanted ≡ desire_at growth (nth more i).power
        go (inl same) = rw (same, new) its_wanted
        go (inr under) = rw (old i under) (held i under)

    -- q is efficient: the partners stay, and no quantum of theirs or of the stack is q
    module _ (k : ℕ) (s : Stacked growth quanta k) where
      module _ (is_efficient : q.was_efficient ≡ true) where
        still : (i : ℕ) → Inefficient more i → Inefficient quanta i
        still i bad = go (place i bad)
          where
            go : Place i → Inefficient quanta i
            go (before was) = was
            go (last same inefficient) = absurd (let z : ◌≡◌ {A = ℕ} 0 1 = cc in omega arith)

        kept : Stacked growth more k
        kept =
            record {
              partner = s.partner;
              paired = λ i bad. let was = still i bad in paired_more was.0 (s.paired i was);
              unshared = λ i j bad worse. s.unshared i j (still i bad) (still j worse);
              above_one = λ i bad. let was = still i bad in rw (old i was.0) (s.above_one i was);
              on_ladders = on_ladders_more s.on_ladders;
              level = s.level;
              levels = λ j less. level_more (s.levels j less);
              apart = s.apart;
              unused = λ i j bad. s.unused i j (still i bad);
            }

        -- q is satisfied too, and the desire rises: q goes on top of the stack
        module _ (is_satisfied : q.was_satisfied ≡ true) (its_power : q.power ≡ k) where
          pushed_level : ℕ → ℕ
          pushed_level = updated s.level k (length quanta)

          top_level : Level more k (length quanta)
          top_level =
              record {
                there = omega (arith, more_length);
                efficient = rw new is_efficient;
                satisfied = rw new is_satisfied;
                at_power = rw new its_power;
              }

          pushed_levels : (j : ℕ) → (j ≡ k) ⊎ (j < k) → Level more j (pushed_level j)
          unfolding pushed_level
          pushed_levels j (inl same) = rw (same, updated_at) top_level
          pushed_levels j (inr less) = rw (updated_below s.level k (length quanta) j less) (level_more (s.levels j less))

          -- where the stack has q, and where not
          pushed_top : (j : ℕ) → j ≡ k → pushed_level j ≡ length quanta
          unfolding pushed_level
          pushed_top j same = rw (same, updated_at)

          pushed_under : (j : ℕ) → j < k → pushed_level j ≡ s.level j
          unfolding pushed_level
          pushed_under j less = updated_below s.level k (length quanta) j less

          pushed_apart : (i j : ℕ) → (i ≡ k) ⊎ (i < k) → (j ≡ k) ⊎ (j < k) → pushed_level i ≡ pushed_level j → i ≡ j
          pushed_apart i j (inl x) (inl y) same = omega arith
          pushed_apart i j (inl x) (inr y) same =
              absurd (omega (arith, pushed_top i x, pushed_under j y, (s.levels j y).there))
          pushed_apart i j (inr x) (inl y) same =
              absurd (omega (arith, pushed_under i x, pushed_top j y, (s.levels i x).there))
          pushed_apart i j (inr x) (inr y) same = s.apart i j x y (sym (pushed_under i x) ∙ same ∙ pushed_under j y)

          pushed_unused : (i j : ℕ) → Inefficient quanta i → (j ≡ k) ⊎ (j < k) → s.partner i ≡ pushed_level j → ⊥
          pushed_unused i j bad (inl y) same = omega (arith, bad.0, (s.paired i bad).earlier, pushed_top j y)
          pushed_unused i j bad (inr y) same = s.unused i j bad y (same ∙ pushed_under j y)

          pushed : Stacked growth more (suc k)
          unfolding kept
          pushed =
              record {
                partner = kept.partner;
                paired = kept.paired;
                unshared = kept.unshared;
                above_one = kept.above_one;
                on_ladders = kept.on_ladders;
                level = pushed_level;
                levels = λ j less. pushed_levels j (below_suc less);
                apart = λ i j x y. pushed_apart i j (below_suc x) (below_suc y);
                unused = λ i j bad y. pushed_unused i j (still i bad) (below_suc y);
              }

    -- q is inefficient: the top of the stack becomes its partner
    module _ (k : ℕ) (s : Stacked growth quanta (suc k)) (its_power : q.power ≡ suc k) (more_than_one : 1 < q.wanted)
      where
        top : Level quanta k (s.level k)
        top = s.levels k (omega arith)

        popped_partner : ℕ → ℕ
        popped_partner = updated s.partner (length quanta) (s.level k)

        popped_new : (i : ℕ) → i ≡ length quanta → popped_partner i ≡ s.level k
        unfolding popped_partner
        popped_new i same = rw (same, updated_at)

        popped_old : (i : ℕ) → i < length quanta → popped_partner i ≡ s.partner i
        unfolding popped_partner
        popped_old i less = updated_below s.partner (length quanta) (s.level k) i less

        newly_paired : Paired more (length quanta) (s.level k)
        newly_paired =
            let same = old (s.level k) top.there in
            record {
              earlier = top.there;
              efficient = rw same top.efficient;
              satisfied = rw same top.satisfied;
              lower = rw (same, new, top.at_power, its_power) (omega arith);
            }

        popped_paired : (i : ℕ) → Place i → Paired more i (popped_partner i)
        popped_paired i (before was) = rw (popped_old i was.0) (paired_more was.0 (s.paired i was))
        popped_paired i (last same inefficient) = rw (popped_new i same, same) newly_paired

        popped_unshared : (i j : ℕ) → Place i → Place j → popped_partner i ≡ popped_partner j → i ≡ j
        popped_unshared i j (before x) (before y) same =
            s.unshared i j x y (sym (popped_old i x.0) ∙ same ∙ popped_old j y.0)
        popped_unshared i j (before x) (last y e) same =
            absurd (s.unused i k x (omega arith) (sym (popped_old i x.0) ∙ same ∙ popped_new j y))
        popped_unshared i j (last x e) (before y) same =
            absurd (s.unused j k y (omega arith) (sym (popped_old j y.0) ∙ sym same ∙ popped_new i x))
        popped_unshared i j (last x e) (last y f) same = omega arith

        popped_above_one : (i : ℕ) → Place i → 1 < (nth more i).wanted
        popped_above_one i (before was) = rw (old i was.0) (s.above_one i was)
        popped_above_one i (last same e) = rw (same, new) more_than_one

        popped_unused : (i j : ℕ) → Place i → j < k → popped_partner i ≡ s.level j → ⊥
        popped_unused i j (before x) less same = s.unused i j x (omega arith) (sym (popped_old i x.0) ∙ same)
        popped_unused i j (last x e) less same =
            omega (arith, s.apart k j (omega arith) (omega arith) (sym (popped_new i x) ∙ same))

        popped : Stacked growth more k
        popped =
            record {
              partner = popped_partner;
              paired = λ i bad. popped_paired i (place i bad);
              unshared = λ i j bad worse. popped_unshared i j (place i bad) (place j worse);
              above_one = λ i bad. popped_above_one i (place i bad);
              on_ladders = on_ladders_more s.on_ladders;
              level = s.level;
              levels = λ j less. level_more (s.levels j (omega arith));
              apart = λ i j x y. s.apart i j (omega arith) (omega arith);
              unused = λ i j bad. popped_unused i j (place i bad);
            }

    -- the stack after any end of a quantum
    pub stacked_end : {terms : Terms} (usage k after : ℕ) → q.power ≡ k → QuantumEnd terms q usage k after → Stacked growth quanta k →
        Stacked growth more after
    stacked_end usage k after its_power (lowers {k = j} inefficient more_than_one) s = popped j s its_power more_than_one
    stacked_end usage k after its_power (raises {k = j} is_efficient is_satisfied all enough) s =
        pushed j s is_efficient is_satisfied its_power
    stacked_end usage k after its_power (stays {k = j} is_efficient enough) s = kept j s is_efficient
