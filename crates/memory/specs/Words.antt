-- What each of a job's 21 words is.
use Rattle.std.specs.Prelude.{◌≡◌, Bool, not, List, ℕ, zero, suc, ◌+◌, ◌≤◌, eqb, length, get_or, set}
use Rattle.model.specs.Plan.{Growth, growth_with, Terms}
use Rattle.model.specs.Machine.{Wish, Note, no_offer, offered}

-- so many words has a job
abbrev pub word_count : ℕ
word_count = 21

abbrev pub word : List ℕ → ℕ → ℕ
word words place = get_or words place 0

-- the words with so much more in one of them
abbrev pub with_more : List ℕ → ℕ → ℕ → List ℕ
with_more words place more = set words place (word words place + more)

-- a flag is set where its word is not 0
abbrev pub flag : List ℕ → ℕ → Bool
flag words place = not (eqb (word words place) 0)

-- where the three counts of cycles stand
abbrev pub works_word : ℕ
works_word = 3

abbrev pub mugs_word : ℕ
mugs_word = 4

abbrev pub steals_word : ℕ
steals_word = 5

-- the numbers of the execution
pub record Numbers : Type 0 where
  pub tasks : ℕ
  pub workers : ℕ  -- the granted count
  pub done : ℕ  -- how many tasks are worked, that is, completed
  pub works : ℕ  -- work cycles
  pub mugs : ℕ  -- mug cycles
  pub steals : ℕ  -- steal cycles
  pub successes : ℕ  -- successful steals
  pub usage : ℕ  -- work and mug cycles of the quantum last opened
  pub head : ℕ  -- the ring's entry of the oldest muggable deque
  pub waiting : ℕ  -- how many muggable deques there are

abbrev pub numbers_in : List ℕ → Numbers
numbers_in words =
    record {
      tasks = word words 0;
      workers = word words 1;
      done = word words 2;
      works = word words works_word;
      mugs = word words mugs_word;
      steals = word words steals_word;
      successes = word words 6;
      usage = word words 7;
      head = word words 8;
      waiting = word words 9;
    }

-- the plan's terms: R, D and L. A flag tells whether R is in tenths
abbrev pub growth_in : List ℕ → Growth
growth_in words = growth_with (flag words 18) (word words 10)

abbrev pub terms_in : List ℕ → Terms
terms_in words = record { growth = growth_in words; utilization = word words 11; quantum_length = word words 12 }

-- what calls move beside the execution
abbrev pub desire_in : List ℕ → ℕ
desire_in words = word words 13

abbrev pub wish_in : List ℕ → Wish
wish_in words = record { power = word words 19; desire = desire_in words }

abbrev pub started_in : List ℕ → Bool
started_in words = flag words 14

abbrev pub open_in : List ℕ → Bool
open_in words = flag words 15

-- the ticks of the quantum that is open
abbrev pub ticks_in : List ℕ → ℕ
ticks_in words = word words 16

abbrev pub begun_in : List ℕ → ℕ
begun_in words = word words 17

-- a number's note: 0 for none, and else the offered count and 1
abbrev pub note_shown : ℕ → Note
note_shown zero = no_offer
note_shown (suc g) = offered g

abbrev pub note_word : ℕ
note_word = 20

abbrev pub note_in : List ℕ → Note
note_in words = note_shown (word words note_word)

-- only the numbers of the execution may differ
pub record SameTail (words words' : List ℕ) : Type 0 where
  pub same_length : length words' ≡ length words
  pub same_from : (place : ℕ) → 10 ≤ place → word words' place ≡ word words place
