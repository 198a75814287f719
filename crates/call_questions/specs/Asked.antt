-- The questions of each call as the code asks them, of a job's words.
use Rattle.std.specs.Prelude.{Bool, not, List, [], ◌∷◌, ℕ, leb, ltb, eqb, length}
use Rattle.model.specs.Tests.{every}
use Rattle.model.specs.Questions.{Question, ask}
use Rattle.model.specs.Machine.{quantum_limit}
use Rattle.memory.specs.Words.{word, numbers_in, desire_in, open_in, begun_in, note_word}

-- not all tasks are worked
abbrev pub unfinished : List ℕ → Bool
unfinished words = not (eqb (numbers_in words).done (numbers_in words).tasks)

-- no offer is noted
abbrev pub unnoted : List ℕ → Bool
unnoted words = eqb (word words note_word) 0

-- a grant or an offer, 11 to 13, 25 and 14
unfoldable pub grant_asked : List ℕ → ℕ → List Question
grant_asked words g =
    ask (unfinished words) 11 ∷ ask (not (open_in words)) 12
    ∷ ask (ltb (begun_in words) quantum_limit) 13
    ∷ ask (unnoted words) 25
    ∷ ask (leb g (desire_in words)) 14
    ∷ []

-- an opening, 24 and 14: the noted number is the offered count and 1
unfoldable pub open_asked : List ℕ → ℕ → List Question
open_asked words c = ask (not (unnoted words)) 24 ∷ ask (ltb c (word words note_word)) 14 ∷ []

-- a withdrawal, 24
unfoldable pub withdraw_asked : List ℕ → List Question
withdraw_asked words = ask (not (unnoted words)) 24 ∷ []

-- every choice is below the number of workers
abbrev pub choices_below : List ℕ → ℕ → Bool
choices_below choices workers = every (λ choice. ltb choice workers) choices

-- a tick, 11 and 15 to 17
unfoldable pub tick_asked : List ℕ → List ℕ → List Question
tick_asked words choices =
    ask (unfinished words) 11 ∷ ask (open_in words) 15
    ∷ ask (eqb (length choices) (numbers_in words).workers) 16
    ∷ ask (choices_below choices (numbers_in words).workers) 17
    ∷ []

-- a seeded tick, 11 and 15
unfoldable pub seeded_asked : List ℕ → List Question
seeded_asked words = ask (unfinished words) 11 ∷ ask (open_in words) 15 ∷ []
