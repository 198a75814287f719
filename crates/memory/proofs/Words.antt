-- A list of 21 words is its 21 words: what holds of every 21 numbers in a row holds of it. So a claim about stores at literal places is
-- computed.
use mathlib.Core.Path.{◌≡◌, refl, sym, ap, subst, ◌∙◌}
use mathlib.Core.List.{List, [], ◌∷◌, map}
use Prim.Native.Nat.{ℕ, ◌+◌, ◌-◌, ◌<◌}
use native.Mathlib.Omega.{arith}
use lib.ListN.{length, get_or, set, drop, length-set}
use lib.Seq.{ext_get_or, get_or-drop, get_or-set_other}
use Rattle.model.specs.Tests.{below}
use Rattle.lists.proofs.Tables.{table_length, table_at}
use Rattle.memory.specs.Words.{word, word_count, SameTail}

-- the list is the table of its words
tabled : (words : List ℕ) → length words ≡ word_count → map (word words) (below word_count) ≡ words
tabled words size =
    ext_get_or 0 (map (word words) (below word_count)) words (table_length (word words) word_count ∙ sym size)
    (λ i l. table_at (word words) word_count i 0 (rw (table_length (word words) word_count) at l))

-- so many numbers in a row
abbrev pub row_of : (ℕ → ℕ) → List ℕ
row_of w =
    w 0 ∷ w 1 ∷ w 2 ∷ w 3 ∷ w 4 ∷ w 5 ∷ w 6 ∷ w 7 ∷ w 8 ∷ w 9 ∷ w 10 ∷ w 11 ∷ w 12 ∷ w 13 ∷ w 14 ∷ w 15 ∷ w 16 ∷ w 17 ∷ w 18
    ∷ w 19 ∷ w 20 ∷ []

pub by_words : (P : List ℕ → Type 0) → ((w : ℕ → ℕ) → P (row_of w)) → (words : List ℕ) → length words ≡ word_count → P words
unfolding below
by_words P h words size = subst P (tabled words size) (h (word words))

-- ---- stores among the execution's numbers leave the rest

pub same_tail : (words : List ℕ) → SameTail words words
same_tail words = record { same_length = refl; same_from = λ i h. refl }

pub tail_then : {words words' words'' : List ℕ} → SameTail words words' → SameTail words' words'' → SameTail words words''
tail_then a b =
    record {
      same_length = b.same_length ∙ a.same_length;
      same_from = λ i h. b.same_from i h ∙ a.same_from i h;
    }

pub tail_store : (words : List ℕ) (place v : ℕ) → place < 10 → SameTail words (set words place v)
tail_store words place v few =
    record {
      same_length = length-set words place v;
      same_from = λ i h. get_or-set_other words place i v 0 (λ e. omega (arith, few, h, e));
    }

-- the first ten words may differ where the others as a list are the same
pub tail_from : {words words' : List ℕ} → length words' ≡ length words → drop 10 words' ≡ drop 10 words → SameTail words words'
tail_from {words} {words'} same rest =
    record {
      same_length = same;
      same_from = λ place h.
          let there : 10 + (place - 10) ≡ place = omega arith in
          rw there at (sym (get_or-drop 10 words' (place - 10) 0)
          ∙ ap (λ (l : List ℕ). get_or l (place - 10) 0) rest ∙ get_or-drop 10 words (place - 10) 0);
    }
