-- Tables: what a function gives at each number below n, as a list.
use mathlib.Core.Path.{◌≡◌, refl, sym, ap, ◌∙◌}
use mathlib.Core.Bool.{Bool, true, false}
use mathlib.Core.List.{List, [], ◌∷◌, ◌++◌, map, map-append}
use Prim.Native.Nat.{ℕ, zero, suc, ◌<◌}
use native.Mathlib.Omega.{arith}
use lib.Dec.{eqb}
use lib.ListN.{length, get_or, set, length-append, length-set, get_or-append}
use lib.Seq.{ext_get_or, get_or_at, get_or-set_same, get_or-set_other}
use borrow.Author.Tests.{eqb-true, eqb-false}
use Rattle.model.specs.Tests.{below}

module _ {A : Type 0} where
  -- a table is a table, and one entry more at its end
  pub table_more : (f : ℕ → A) (n : ℕ) → map f (below (suc n)) ≡ map f (below n) ++ (f n ∷ [])
  unfolding below
  table_more f n = map-append f (below n) (n ∷ [])

  pub table_length : (f : ℕ → A) (n : ℕ) → length (map f (below n)) ≡ n
  unfolding below
  table_length f zero = refl
  table_length f (suc n) =
      ap length (table_more f n) ∙ length-append (map f (below n)) (f n ∷ []) ∙ rw (table_length f n) (omega arith)

  pub table_at : (f : ℕ → A) (n i : ℕ) (d : A) → i < n → get_or (map f (below n)) i d ≡ f i
  table_at f zero i d h = absurd (omega arith)
  table_at f (suc n) i d h = rw (table_more f n) (go (eqb i n) refl (table_at f n i d))
    where
      go : (b : Bool) → eqb i n ≡ b → (i < n → get_or (map f (below n)) i d ≡ f i) → get_or (map f (below n) ++ (f n ∷ [])) i d ≡ f i
      go true e onward = rw (eqb-true i n e) (get_or_at (map f (below n)) (f n) [] d n (table_length f n))
      go false e onward =
          let ne = eqb-false i n e in
          let less : i < n = omega arith in
          get_or-append (map f (below n)) (f n ∷ []) d i (rw (table_length f n) less) ∙ onward less

  -- a table with another entry at one place
  pub table_set : (f g : ℕ → A) (n w : ℕ) (x : A) → w < n → g w ≡ x → ((i : ℕ) → i < n → (i ≡ w → ⊥) → g i ≡ f i) →
      map g (below n) ≡ set (map f (below n)) w x
  table_set f g n w x h here others =
      ext_get_or x (map g (below n)) (set (map f (below n)) w x)
      (table_length g n ∙ sym (length-set (map f (below n)) w x ∙ table_length f n))
      (λ i l. at_each i (rw (table_length g n) at l) (eqb i w) refl)
    where
      at_each : (i : ℕ) → i < n → (b : Bool) → eqb i w ≡ b → get_or (map g (below n)) i x ≡ get_or (set (map f (below n)) w x) i x
      at_each i l true e =
          rw (eqb-true i w e) (table_at g n w x h ∙ here ∙ sym (get_or-set_same (map f (below n)) w x x (rw (table_length f n) h)))
      at_each i l false e =
          table_at g n i x l ∙ others i l (eqb-false i w e)
          ∙ sym (get_or-set_other (map f (below n)) w i x x (eqb-false i w e) ∙ table_at f n i x l)

  pub table_same : (f g : ℕ → A) (n : ℕ) → ((i : ℕ) → i < n → g i ≡ f i) → map g (below n) ≡ map f (below n)
  unfolding below
  table_same f g zero h = refl
  table_same f g (suc n) h =
      table_more g n ∙ rw (table_same f g n (λ i l. h i (omega arith)), h n (omega arith)) (sym (table_more f n))

  -- a table without its first entry
  pub table_tail : (f : ℕ → A) (n : ℕ) → map f (below (suc n)) ≡ f 0 ∷ map (λ i. f (suc i)) (below n)
  unfolding below
  table_tail f zero = refl
  table_tail f (suc n) =
      table_more f (suc n) ∙ rw (table_tail f n) (ap (λ (l : List A). f 0 ∷ l) (sym (table_more (λ i. f (suc i)) n)))
