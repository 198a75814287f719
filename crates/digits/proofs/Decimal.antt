-- The decimal digits of a number: one, two, or those of its hundreds and its last two; and how many there are: its digit count, which is
-- the least whose power of ten is above it.
-- Assumes nothing.
use mathlib.Core.Path.{◌≡◌, refl, sym, ap, ◌∙◌}
use mathlib.Core.Bool.{Bool, true, false}
use mathlib.Core.List.{◌++◌, append_assoc}
use Prim.Native.Nat.{ℕ, zero, suc, ◌+◌, ◌/◌, ◌%◌, ◌^◌, ◌≤◌, ◌<◌}
use native.Mathlib.Nat.{pow-succ'}
use native.Mathlib.Numerals.{add-one}
use native.Mathlib.Omega.{arith}
use lib.Dec.{ltb}
use lib.ListN.{length, length-append}
use borrow.Author.Tests.{lt-ltb, le-ltb, ltb-true, ltb-false}
use Rattle.model.specs.Counters.{decimal, decimal_up_to}
use Rattle.model.specs.Digits.{first_above, digit_count}
use Rattle.digits.specs.Counted.{Counted}
use Rattle.digits.specs.Spelling.{digit, pair}

-- ---- which digits

-- more fuel than the number itself changes nothing
fuel : (f g n : ℕ) → n ≤ f → n ≤ g → decimal_up_to f n ≡ decimal_up_to g n
unfolding decimal_up_to
fuel zero zero n hf hg = refl
fuel zero (suc g) n hf hg = rw (lt-ltb n 10 (omega arith))
fuel (suc f) zero n hf hg = rw (lt-ltb n 10 (omega arith))
fuel (suc f) (suc g) n hf hg = rw (fuel f g (n / 10) (omega arith) (omega arith))

-- a number below 10 is one digit
pub one_digit : (n : ℕ) → n < 10 → decimal n ≡ digit n
unfolding decimal decimal_up_to
one_digit n h = fuel n (suc n) n (omega arith) (omega arith) ∙ rw (lt-ltb n 10 h)

-- any other is the digits of its tenth and then its last digit
more_digits : (n : ℕ) → 10 ≤ n → decimal n ≡ decimal (n / 10) ++ digit (n % 10)
unfolding decimal decimal_up_to
more_digits n h =
    fuel n (suc n) n (omega arith) (omega arith)
    ∙ rw (le-ltb n 10 h, fuel n (n / 10) (n / 10) (omega arith) (omega arith))

pub two_digits : (n : ℕ) → 10 ≤ n → n < 100 → decimal n ≡ pair n
two_digits n h most = more_digits n h ∙ rw (one_digit (n / 10) (omega arith))

pub last_two : (n : ℕ) → 100 ≤ n → decimal n ≡ decimal (n / 100) ++ pair (n % 100)
last_two n h =
    let hundredth : n / 10 / 10 ≡ n / 100 = omega arith in
    let tens : n / 10 % 10 ≡ n % 100 / 10 = omega arith in
    let ones : n % 10 ≡ n % 100 % 10 = omega arith in
    more_digits n (omega arith) ∙ rw (more_digits (n / 10) (omega arith), hundredth, tens, ones, append_assoc)

-- ---- how many

-- a fact, by which of two numbers is the greater
by_order : {P : Type 0} (n m : ℕ) → (n < m → P) → (m ≤ n → P) → P
by_order {P} n m less more = by_test (ltb n m) refl
  where
    by_test : (b : Bool) → ltb n m ≡ b → P
    by_test true e = less (ltb-true n m e)
    by_test false e = more (ltb-false n m e)

one_long : (n : ℕ) → n < 10 → length (decimal n) ≡ 1
one_long n h = ap length (one_digit n h)

more_long : (n : ℕ) → 10 ≤ n → length (decimal n) ≡ length (decimal (n / 10)) + 1
more_long n h = ap length (more_digits n h) ∙ length-append (decimal (n / 10)) (digit (n % 10))

-- a number below a power of ten has no more digits than its exponent
at_most : (k n : ℕ) → n < 10 ^ suc k → length (decimal n) ≤ suc k
at_most zero n h = omega (arith, one_long n h)
at_most (suc k) n h =
    by_order n 10
    (λ small. omega (arith, one_long n small))
    (λ big. omega (arith, more_long n big, at_most k (n / 10) (omega (arith, pow-succ' 10 (suc k)))))

-- the power of ten with so many digits is above the number
above : (f n : ℕ) → n ≤ f → n < 10 ^ length (decimal n)
above zero n h = rw (one_long n (omega arith)) (omega arith)
above (suc f) n h =
    by_order n 10
    (λ small. rw (one_long n small) small)
    (λ big. rw (more_long n big, add-one)
    (omega (arith, above f (n / 10) (omega arith), pow-succ' 10 (length (decimal (n / 10))))))

-- so the digits are as many as is asked of a count
spelt_counted : (n : ℕ) → Counted n (length (decimal n))
spelt_counted n =
    record {
      of_zero = λ none. one_long n (omega arith);
      above = λ positive. above n n (omega arith);
      least = no_lesser;
    }
  where
    no_lesser : 0 < n → (other : ℕ) → n < 10 ^ other → length (decimal n) ≤ other
    no_lesser positive zero h = absurd (omega arith)
    no_lesser positive (suc k) h = at_most k n h

-- of a number above 0 the search finds that count, where it begins below it and goes as far
found : (more count n d : ℕ) → 0 < n → Counted n d → count ≤ d → d ≤ count + more → first_above more count n ≡ d
unfolding first_above
found zero count n d positive is from to = omega arith
found (suc more) count n d positive is from to =
    by_order n (10 ^ count)
    (λ enough. rw (lt-ltb n (10 ^ count) enough) (omega (arith, is.least positive count enough)))
    (λ short.
    let before = by_order count d (λ less. less)
    (λ same. absurd (omega (arith, is.above positive, ap (λ (e : ℕ). 10 ^ e) (equal same)))) in
    rw (le-ltb n (10 ^ count) short) (found more (suc count) n d positive is before (omega arith)))
  where
    equal : d ≤ count → count ≡ d
    equal same = omega arith

power_above : (n : ℕ) → n < 10 ^ n
power_above zero = omega arith
power_above (suc n) = omega (arith, power_above n, pow-succ' 10 n)

-- a number has as many digits as its digit count says
pub decimal_length : (n : ℕ) → length (decimal n) ≡ digit_count n
unfolding digit_count
decimal_length zero = one_long 0 (omega arith)
decimal_length (suc m) =
    let positive : 0 < suc m = omega arith in
    let is = spelt_counted (suc m) in
    sym (found (suc m) 0 (suc m) _ positive is (omega arith) (omega (arith, is.least positive (suc m) (power_above (suc m)))))

-- "1 for 0, else the least count whose power of ten is above the number"
pub digits_counted : (n : ℕ) → Counted n (digit_count n)
digits_counted n = rw (← decimal_length n) (spelt_counted n)

-- a number below a power of ten has no more digits than that power's exponent, 0 among them
pub count_within : (k n : ℕ) → n < 10 ^ suc k → digit_count n ≤ suc k
count_within k n h = rw (← decimal_length n) (at_most k n h)
