-- Tests and list functions that the definitions are said with. Nothing of document 01 is in here.
-- `cond b x y` is x where the test b holds and else y; `leb`, `ltb`, `eqb` are ≤, < and ≡ on numbers as tests; `get_or xs i d` is what
-- stands at i in xs, and d past its end; `set xs i x` is xs with x at i. All these are the library's.
use Rattle.std.specs.Prelude.{Bool, true, false, cond, ◌&&◌, List, [], ◌∷◌, ◌++◌, ℕ, zero, suc, ◌+◌, eqb}

-- the numbers 0, 1, .., n − 1
unfoldable pub below : ℕ → List ℕ
below zero = []
below (suc n) = below n ++ (n ∷ [])

module _ {A : Type 0} where
  -- the test holds of every element
  unfoldable pub every : (A → Bool) → List A → Bool
  every test [] = true
  every test (x ∷ xs) = test x && every test xs

  -- the elements of which the test holds, in their order
  unfoldable pub keep : (A → Bool) → List A → List A
  keep test [] = []
  keep test (x ∷ xs) = cond (test x) (x ∷ keep test xs) (keep test xs)

  abbrev pub is_empty : List A → Bool
  is_empty [] = true
  is_empty (x ∷ xs) = false

-- x is among the numbers
unfoldable pub member : ℕ → List ℕ → Bool
member x [] = false
member x (y ∷ ys) = cond (eqb x y) true (member x ys)

-- how many of the flags are set
unfoldable pub count_set : List Bool → ℕ
count_set [] = 0
count_set (true ∷ flags) = suc (count_set flags)
count_set (false ∷ flags) = count_set flags

-- every flag is set
unfoldable pub all_set : List Bool → Bool
all_set [] = true
all_set (flag ∷ flags) = flag && all_set flags

-- how often a number stands in a list
unfoldable pub occurrences : ℕ → List ℕ → ℕ
occurrences n [] = 0
occurrences n (x ∷ xs) = cond (eqb n x) 1 0 + occurrences n xs

-- the sum of the numbers
unfoldable pub total : List ℕ → ℕ
total [] = 0
total (n ∷ ns) = n + total ns

-- of each number: it is 0
unfoldable pub zeros : List ℕ → List Bool
zeros [] = []
zeros (n ∷ ns) = eqb n 0 ∷ zeros ns
