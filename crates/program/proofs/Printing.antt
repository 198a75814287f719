-- Bytes put at a place of the output: copied one by one, the line of a refusal, the counters line; and the output read back from its start.
-- Assumes nothing.
use mathlib.Core.Path.{◌≡◌, refl, sym, ap, ◌∙◌}
use mathlib.Core.List.{List, [], ◌∷◌, ◌++◌, append_assoc}
use Prim.Native.Nat.{ℕ, ◌+◌, ◌^◌, ◌≤◌, ◌<◌}
use native.Mathlib.Omega.{arith}
use lib.ListN.{length, take, drop, length-append}
use borrow.Rule.Slice.PartMut.{put_mid}
use lib.Seq.{drop-drop, sets, sets-eq, length-sets, take_at}
use borrow.Author.Tests.{le-leb}
use Rattle.std.specs.Prelude.{Result, Ok, Err}
use Rattle.std.specs.Result.{result_unwrap_or}
use Rattle.model.specs.Questions.{Answer, accepted, first_no, by_answer}
use Rattle.model.specs.Counters.{decimal, spaced, counters_answer, put_at_start}
use Rattle.model.specs.Digits.{digit_count, line_size}
use Rattle.model.specs.Program.{refused_line}
use Rattle.counters.specs.declared.Counters.{Counters}
use Rattle.counters.specs.declared.TooSmall.{TooSmall}
use Rattle.counters.specs.Line.{numbers_of, line_length, WritesLine}
use Rattle.digits.specs.Spelling.{field}
use Rattle.digits.proofs.Decimal.{count_within}
use Rattle.digits.proofs.Spelling.{field_length}
use Rattle.digits.proofs.Stores.{sets_append, sets_start}
use Rattle.counters.proofs.Line.{Wide, line_within, ten_length}
use Rattle.program.specs.declared.printed.Output.{Output}
use Rattle.program.specs.Output.{Prints, LinePut}

-- ---- copied at a place

pub copied : (at room : ℕ) (out bytes : List ℕ) → at + length bytes ≤ length out → room ≡ length bytes →
    put_mid at room out bytes ≡ sets out at bytes
copied at room out bytes there is =
    sym
    (sets-eq bytes out at there
    ∙ append_assoc (take at out) bytes (drop (at + length bytes) out)
    ∙ (rw (is, drop-drop (length bytes) at out) refl))

-- ---- the line of a refusal

-- "`refused `"
abbrev pub word : List ℕ
word = 114 ∷ 101 ∷ 102 ∷ 117 ∷ 115 ∷ 101 ∷ 100 ∷ 32 ∷ []

line_of : (n : ℕ) → refused_line n ≡ word ++ field n 10
unfolding refused_line
line_of n = append_assoc word (decimal n) (10 ∷ [])

pub refused_long : (n : ℕ) → length (refused_line n) ≡ 8 + (digit_count n + 1)
refused_long n = ap length (line_of n) ∙ length-append word (field n 10) ∙ ap (λ (k : ℕ). 8 + k) (field_length n 10)

-- a number of a byte has three digits at most
pub refused_short : (n : ℕ) → n < 2 ^ 8 → length (refused_line n) ≤ 12
refused_short n h = omega (arith, refused_long n, count_within 2 n (omega arith))

refusal_put : (at n : ℕ) (b : List ℕ) → sets (sets b at word) (at + 8) (field n 10) ≡ sets b at (refused_line n)
refusal_put at n b = sets_append b at word (field n 10) ∙ ap (sets b at) (sym (line_of n))

-- the word is copied, and the number put behind it
pub word_put : (at room n : ℕ) (out : List ℕ) → at + 8 ≤ length out → room ≡ 8 →
    sets (put_mid at room out word) (at + 8) (field n 10) ≡ sets out at (refused_line n)
word_put at room n out there is = ap (λ (l : List ℕ). sets l (at + 8) (field n 10)) (copied at room out word there is) ∙ refusal_put
    at n out

-- ---- the counters line

enough : (b : List ℕ) → 128 ≤ length b → counters_answer b ≡ accepted
unfolding counters_answer first_no
enough b h = rw (le-leb 128 (length b) h)

-- how many bytes the line has, 0 where there is none
pub length_or_0 : (answer : Result ℕ TooSmall) → line_length answer ≡ result_unwrap_or answer 0
length_or_0 (Ok size) = refl
length_or_0 (Err _) = refl

pub line_put : (k : Counters) → Wide k → {b exit : List ℕ} {answer : Result ℕ TooSmall} (size : ℕ) → 128 ≤ length b →
    WritesLine (numbers_of k) b exit answer → line_length answer ≡ size → LinePut k b exit size
line_put k w {b} size room written g =
    let counts : size ≡ line_size (numbers_of k) =
    sym g ∙ written.sized ∙ ap (λ (a : Answer). by_answer a (line_size (numbers_of k)) 0) (enough b room) in
    record {
      long = counts ∙ sym (ten_length k);
      short = omega (arith, counts, line_within k w);
      bytes = written.bytes ∙ ap (λ (a : Answer). by_answer a (put_at_start (spaced (numbers_of k)) b) b) (enough b room);
    }

-- ---- the output read back

pub read_back : (x b b' : List ℕ) (size : ℕ) → size ≡ length x → b' ≡ put_at_start x b → take size b' ≡ x
read_back x b b' size e f = ap (take size) f ∙ take_at x (drop (length x) b) size (sym e)

-- what was put at the start alone
pub prints_one : (x b : List ℕ) (r : Output) → r.size ≡ 0 + length x → r.bytes ≡ sets b 0 x → length x ≤ length b → Prints x r
prints_one x b r e f room =
    let same : length r.bytes ≡ length b = ap length f ∙ length-sets b 0 x in
    record { written = read_back x b r.bytes r.size (omega arith) (f ∙ sets_start x b room); fits = omega arith }
