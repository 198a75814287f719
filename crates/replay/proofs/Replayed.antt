-- What is written is what the program prints of the whole input: one that is cut to 65,537 bytes is refused as it is whole.
-- Assumes nothing.
use Rattle.std.proofs.Common.{◌≡◌, ℕ, ◌<◌, List, Option, None, Some, Result, Ok, Err, IfSome, refl, sym, ap, ◌∙◌, arith, length, take}
use Rattle.std.proofs.Common.{length-take-le, take_all, Bool, true, false, ltb}
use borrow.Author.Tests.{ltb-true, ltb-false}
use Rattle.std.specs.Prelude.{OnOk}
use Rattle.std.specs.Io.KnownBytes.{Appends}
use Rattle.model.specs.Program.{refused_line, program}
use Rattle.whole_input.specs.Whole.{AllThatFits}
use Rattle.program.proofs.Asked.{too_long}

refused_long : (bytes : List ℕ) → 65536 < length bytes → program bytes ≡ refused_line 21
unfolding program
refused_long bytes long = rw (too_long bytes long) refl

cut_same : (bytes : List ℕ) (n : ℕ) → n ≡ 65537 → program (take n bytes) ≡ program bytes
cut_same bytes n is = by (ltb (length bytes) n) refl
  where
    by : (short : Bool) → ltb (length bytes) n ≡ short → program (take n bytes) ≡ program bytes
    by true e = let short = ltb-true (length bytes) n e in ap program (take_all n bytes (omega (arith, short)))
    by false e =
        let long = ltb-false (length bytes) n e in
        let whole : length (take n bytes) ≡ n = length-take-le n bytes long in
        refused_long (take n bytes) (omega (arith, whole, is)) ∙ sym (refused_long bytes (omega (arith, long, is)))

pub replayed : (known old new : Option (List ℕ)) (n : ℕ) (buffer written : List ℕ) {E : Type 0} (result : Result (Unit {0}) E) →
    AllThatFits known n buffer → length buffer ≡ 65537 → written ≡ program (take n buffer) → OnOk result (Appends old new written) →
    OnOk result (IfSome known (λ bytes. Appends old new (program bytes)))
replayed None old new n buffer written (Ok done) fits room is wrote = tt
replayed (Some bytes) old new n buffer written (Ok done) fits room is wrote =
    rw (is ∙ ap program fits ∙ cut_same bytes (length buffer) room) at wrote
replayed known old new n buffer written (Err e) fits room is wrote = tt
