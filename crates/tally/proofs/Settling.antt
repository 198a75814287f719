-- The words take a tally, store by store: what each step reads, and what they hold at the end.
use mathlib.Core.Path.{◌≡◌, refl}
use mathlib.Core.List.{List}
use Prim.Native.Nat.{ℕ, ◌+◌, ◌-◌, ◌%◌, ◌^◌, ◌≤◌, ◌<◌}
use native.Mathlib.Omega.{arith}
use lib.ListN.{set}
use lib.Seq.{get_or-set_other}
use Rattle.cycle_counts.specs.declared.StealCycles.{StealCycles}
use Rattle.memory.specs.Words.{word}
use Rattle.memory.proofs.Words.{by_words, tail_from}
use Rattle.tally.specs.declared.Tally.{Tally}
use Rattle.tally.specs.Tallies.{Addable, Settled}

-- the ring's head is not the number of those that wait
head_aside : (words : List ℕ) (head : ℕ) → word (set words 8 head) 9 ≡ word words 9
head_aside words head = get_or-set_other words 8 9 head 0 (λ e. omega arith)

abbrev add_at : List ℕ → ℕ → ℕ → List ℕ
add_at words place n = set words place (word words place + n)

-- ---- the words after each step

abbrev with_done : Tally → List ℕ → List ℕ
with_done t words = add_at words 2 t.completed

abbrev with_usage : Tally → List ℕ → List ℕ
with_usage t words = add_at (with_done t words) 7 (t.works.0 + t.mugs.0)

abbrev pub with_works : Tally → List ℕ → List ℕ
with_works t words = add_at (with_usage t words) 3 t.works.0

-- with so many cycles in all
abbrev pub with_steals : ℕ → Tally → List ℕ → List ℕ
with_steals n t words = add_at (with_works t words) 5 (n - (t.works.0 + t.mugs.0))

abbrev pub with_mugs : ℕ → Tally → List ℕ → List ℕ
with_mugs n t words = add_at (with_steals n t words) 4 t.mugs.0

abbrev with_head : ℕ → Tally → List ℕ → List ℕ
with_head n t words = set (with_mugs n t words) 8 ((word (with_mugs n t words) 8 + t.mugs.0) % 64)

abbrev with_waiting : ℕ → Tally → List ℕ → List ℕ
with_waiting n t words = set (with_head n t words) 9 (word (with_head n t words) 9 - t.mugs.0)

-- each step reads a word that no step before wrote
record Reads (all : ℕ) (t : Tally) (words : List ℕ) : Type 0 where
  usage : word (with_done t words) 7 ≡ word words 7
  works : word (with_usage t words) 3 ≡ word words 3
  steals : word (with_works t words) 5 ≡ word words 5
  mugs : word (with_steals all t words) 4 ≡ word words 4
  head : word (with_mugs all t words) 8 ≡ word words 8
  waiting : word (with_mugs all t words) 9 ≡ word words 9

module _ (all : ℕ) (t : Tally) {words : List ℕ} (a : Addable words all t) where
  reads : Reads all t words
  reads =
      by_words (Reads all t)
      (λ w.
      record { usage = refl; works = refl; steals = refl; mugs = refl; head = refl; waiting = refl })
      words a.size

  -- ---- as the code comes to them: what is read fits with what is added

  -- the number of work and mug cycles
  module _ {u : ℕ} (usage : u ≡ t.works.0 + t.mugs.0) where
    abbrev done_stored : List ℕ
    done_stored = set words 2 (word words 2 + t.completed)

    abbrev usage_stored : List ℕ
    usage_stored = set done_stored 7 (word done_stored 7 + u)

    pub usage_fits : word done_stored 7 + u < 2 ^ 64
    usage_fits = rw (usage, reads.usage) (omega (arith, a.room.usage_fits))

    pub works_fit : word usage_stored 3 + t.works.0 < 2 ^ 64
    works_fit = rw (usage, reads.works) (omega (arith, a.room.works_fit))

    -- the words with the work cycles, and the number of the other cycles
    module _ {l : List ℕ} (works : l ≡ add_at usage_stored 3 t.works.0) {others : StealCycles}
        (rest : others ≡ record { 0 = all - (t.works.0 + t.mugs.0) }) where
      pub steals_fit : word l 5 + others.0 < 2 ^ 64
      steals_fit = rw (rest, works, usage, reads.steals) (omega (arith, a.room.steals_fit))

      -- the words with the steal cycles too, and the number of mug cycles
      module _ {l' : List ℕ} (steals : l' ≡ add_at l 5 others.0) {n : ℕ} (number : n ≡ t.mugs.0) where
        so_far : l' ≡ with_steals all t words
        so_far = rw (steals, rest, works, usage)

        -- where nobody mugged, nothing of the ring is written
        pub settled_unmugged : n ≡ 0 → Settled words all t l'
        settled_unmugged none =
            rw so_far
            (by_words
            (λ (w : List ℕ). word w 8 < 64 → Settled w all t (with_steals all t w))
            (λ w inside.
            let mugs : w 4 + t.mugs.0 ≡ w 4 = omega arith in
            let head : (w 8 + t.mugs.0) % 64 ≡ w 8 = omega arith in
            let waiting : w 9 - t.mugs.0 ≡ w 9 = omega arith in
            record { numbers = rw (mugs, head, waiting) refl; tail = tail_from refl refl })
            words a.size a.head_in_ring)

        pub mugs_fit : word l' 4 + t.mugs.0 < 2 ^ 64
        mugs_fit = rw (so_far, reads.mugs) (omega (arith, a.room.mugs_fit))

        -- the words with the mug cycles too
        module _ {l'' : List ℕ} (mugs : l'' ≡ add_at l' 4 t.mugs.0) where
          pub head_fits : word l'' 8 + n < 2 ^ 64
          head_fits = rw (mugs, so_far, reads.head, number) (omega (arith, a.head_in_ring, a.room.mugs_fit))

          pub enough_wait : n ≤ word (set l'' 8 ((word l'' 8 + n) % 64)) 9
          enough_wait = rw (head_aside, mugs, so_far, number, reads.waiting) a.waited

          pub settled_mugged : Settled words all t
              (set (set l'' 8 ((word l'' 8 + n) % 64)) 9 (word (set l'' 8 ((word l'' 8 + n) % 64)) 9 - n))
          settled_mugged =
              rw (mugs, so_far, number)
              (by_words
              (λ (w : List ℕ). Settled w all t (with_waiting all t w))
              (λ w. record { numbers = refl; tail = tail_from refl refl })
              words a.size)
