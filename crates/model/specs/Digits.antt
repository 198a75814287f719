-- Request U2 of document 02, "Digits without the detour": how many digits a number has, and how long the counters line is.
use Rattle.std.specs.Prelude.{cond, List, [], ◌∷◌, ℕ, zero, suc, ◌+◌, ◌^◌, ltb}

-- the first count from `count` on whose power of ten is above n; so many as `more` are tried, and the next is taken without
unfoldable pub first_above : ℕ → ℕ → ℕ → ℕ
first_above zero count n = count
first_above (suc more) count n =
    let later = first_above more (suc count) n in
    cond (ltb n (10 ^ count)) count later

-- "1 for 0, else the least count whose power of ten is above the number"; 10 ^ n is above n, so the counts below n are enough to try
unfoldable pub digit_count : ℕ → ℕ
digit_count zero = 1
digit_count (suc less) =
    let n = suc less in
    first_above n 0 n

-- the counts of some numbers, added up
abbrev pub digit_counts : List ℕ → ℕ
digit_counts [] = 0
digit_counts (n ∷ ns) = digit_count n + digit_counts ns

-- "the line is as long as the ten counts plus 10"
abbrev pub line_size : List ℕ → ℕ
line_size ten = digit_counts ten + 10
