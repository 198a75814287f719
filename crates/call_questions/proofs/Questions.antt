-- Questions one by one, and what a test on numbers tells: the lemmas by which each answer is found, question for question.
-- Assumes nothing.
use Rattle.std.proofs.Common.{Bool, true, false, ◌≡◌, refl, List, [], ◌∷◌, cond, rules}
use Rattle.std.specs.Prelude.{ℕ, eqb, length}
use Rattle.std.proofs.lemmas.Bool.Decides.{nat_tests}
use Rattle.model.specs.Questions.{Question, accepted, refused, ask, first_no}
use Rattle.memory.specs.Words.{numbers_in}
use Rattle.call_questions.specs.Asked.{tick_asked, seeded_asked, choices_below}

-- the first question answers, or those after it
pub asked_first : (holds : Bool) (number : ℕ) (more : List Question) →
    first_no (ask holds number ∷ more) ≡ cond holds (first_no more) (refused number)
unfolding first_no
asked_first holds number more = refl

pub none_asked : first_no [] ≡ accepted
unfolding first_no
none_asked = refl

-- two questions answer as those of a longer list that begins with them: a "no" is its answer, and after both the others are asked
module _ (more : List Question) where
  two_refuse : (a b : Bool) (m n : ℕ) {number : ℕ} → refused number ≡ first_no (ask a m ∷ ask b n ∷ []) →
      refused number ≡ first_no (ask a m ∷ ask b n ∷ more)
  unfolding first_no
  two_refuse true true m n told = search rules
  two_refuse true false m n told = told
  two_refuse false b m n told = told

  two_pass : (a b : Bool) (m n : ℕ) → accepted ≡ first_no (ask a m ∷ ask b n ∷ []) →
      first_no (ask a m ∷ ask b n ∷ more) ≡ first_no more
  unfolding first_no
  two_pass true true m n told = refl
  two_pass true false m n told = search rules
  two_pass false b m n told = search rules

-- the questions of a tick that its choices are asked, 16 and 17
abbrev pub choices_asked : List ℕ → List ℕ → List Question
choices_asked words choices =
    ask (eqb (length choices) (numbers_in words).workers) 16 ∷ ask (choices_below choices (numbers_in words).workers) 17 ∷ []

-- a seeded tick's questions are the first of a tick's
pub seeded_refused : (words choices : List ℕ) {number : ℕ} → refused number ≡ first_no (seeded_asked words) →
    refused number ≡ first_no (tick_asked words choices)
unfolding seeded_asked tick_asked
seeded_refused words choices told = two_refuse _ _ _ _ _ told

pub seeded_passed : (words choices : List ℕ) → accepted ≡ first_no (seeded_asked words) →
    first_no (tick_asked words choices) ≡ first_no (choices_asked words choices)
unfolding seeded_asked tick_asked
seeded_passed words choices told = two_pass _ _ _ _ _ told

pub ruleset questions = (nat_tests, asked_first, none_asked)
