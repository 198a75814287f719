-- A read into the part of a buffer that is not filled. Assumes nothing.
use Rattle.std.proofs.Common.{◌≡◌, ℕ, ◌+◌, ◌≤◌, List, ◌++◌, append_assoc, drop, Option, None, Some, length, take, sym, ap, ◌∙◌, refl}
use Rattle.std.proofs.Common.{le_refl, drop_at, length-take-le}
use Rattle.std.proofs.lemmas.Slice.{take-put_mid_below}
use Rattle.std.specs.Io.KnownBytes.{Consumes, Keeps}
use borrow.Rule.Slice.PartMut.{put_mid, post_of}
use lib.Seq.{take-add, take-append-le}

-- the first n bytes of a part that was put behind the first `filled`
put_behind : (filled room n : ℕ) (buffer part : List ℕ) → filled ≤ length buffer → n ≤ length part →
    take (filled + n) (put_mid filled room buffer part) ≡ take filled buffer ++ take n part
put_behind filled room n buffer part within few =
    let after = post_of filled room buffer in
    let behind : drop filled (put_mid filled room buffer part) ≡ part ++ after =
    drop_at (take filled buffer) (part ++ after) filled (length-take-le filled buffer within) in
    take-add filled n (put_mid filled room buffer part)
    ∙ (rw (take-put_mid_below filled room buffer part filled (le_refl filled) within, behind, take-append-le n part after few) refl)

-- the bytes that were there, and those of one read more
pub one_read_more : (a b c : Option (List ℕ)) (filled room n : ℕ) (buffer part : List ℕ) → filled ≤ length buffer → n ≤ length part →
    Consumes a b (take filled buffer) → Consumes b c (take n part) → Consumes a c (take (filled + n) (put_mid filled room buffer part))
one_read_more None b c filled room n buffer part within few before more = tt
one_read_more (Some x) None c filled room n buffer part within few before more = absurd before
one_read_more (Some x) (Some y) None filled room n buffer part within few before more = absurd more
one_read_more (Some x) (Some y) (Some z) filled room n buffer part within few before more =
    rw (put_behind filled room n buffer part within few) (before ∙ ap (λ l. take filled buffer ++ l) more ∙ sym
    (append_assoc (take filled buffer) (take n part) z))

-- an interrupted read leaves what was there
pub no_read_more : (a b c : Option (List ℕ)) (filled room : ℕ) (buffer part : List ℕ) → filled ≤ length buffer →
    Consumes a b (take filled buffer) → Keeps b c → Consumes a c (take filled (put_mid filled room buffer part))
no_read_more None b c filled room buffer part within before kept = tt
no_read_more (Some x) None c filled room buffer part within before kept = absurd before
no_read_more (Some x) (Some y) None filled room buffer part within before kept = absurd kept
no_read_more (Some x) (Some y) (Some z) filled room buffer part within before kept =
    rw (take-put_mid_below filled room buffer part filled (le_refl filled) within) (before ∙ ap (λ l. take filled buffer ++ l) (sym kept))
