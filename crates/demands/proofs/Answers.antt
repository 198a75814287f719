-- No question of a plan has the number 0, so a plan that is answered 0 is accepted.
-- Assumes nothing.
use mathlib.Core.Path.{◌≡◌, refl, sym, subst}
use mathlib.Core.Bool.{Bool, true, false}
use mathlib.Core.List.{List, [], ◌∷◌, ◌++◌, flat_map}
use Prim.Native.Nat.{ℕ, suc}
use native.Mathlib.Omega.{arith}
use Rattle.model.specs.Tests.{below}
use Rattle.model.specs.Questions.{Question, Answer, accepted, refused, ask, first_no, answer_number}
use Rattle.model.specs.Plan.{Graph, plan_of, task_count, header_questions, task_questions, graph_questions, plan_questions, plan_answer}
use Rattle.lists.proofs.Questions.{and_then, first_no_append}

-- the number 0 is acceptance
abbrev Telling : Answer → Type 0
Telling a = answer_number a ≡ 0 → a ≡ accepted

-- of one question with a number above 0 and others that tell
telling_ask : (b : Bool) (n : ℕ) (qs : List Question) → Telling (first_no qs) → Telling (first_no (ask b (suc n) ∷ qs))
unfolding first_no
telling_ask true n qs rest = rest
telling_ask false n qs rest = λ zero_told. absurd (omega (arith, zero_told))

telling_then : (a b : Answer) → Telling a → Telling b → Telling (and_then a b)
telling_then accepted b first second = second
telling_then (refused n) b first second = first

telling_append : (xs ys : List Question) → Telling (first_no xs) → Telling (first_no ys) → Telling (first_no (xs ++ ys))
telling_append xs ys first second =
    subst Telling (sym (first_no_append xs ys)) (telling_then (first_no xs) (first_no ys) first second)

telling_none : Telling (first_no [])
unfolding first_no
telling_none = λ told. refl

telling_task : (bytes : List ℕ) (t : ℕ) → Telling (first_no (task_questions bytes t))
unfolding task_questions
telling_task bytes t = telling_ask _ 6 _ (telling_ask _ 7 _ (telling_ask _ 27 _ telling_none))

telling_tasks : (bytes ts : List ℕ) → Telling (first_no (flat_map (task_questions bytes) ts))
unfolding flat_map
telling_tasks bytes [] = telling_none
telling_tasks bytes (t ∷ ts) =
    telling_append (task_questions bytes t) (flat_map (task_questions bytes) ts) (telling_task bytes t) (telling_tasks bytes ts)

telling_header : (bytes : List ℕ) → Telling (first_no (header_questions bytes))
unfolding header_questions
telling_header bytes =
    telling_ask _ 0 _
    (telling_ask _ 1 _ (telling_ask _ 2 _ (telling_ask _ 3 _ (telling_ask _ 4 _ (telling_ask _ 5 _ telling_none)))))

telling_graph : (graph : Graph) → Telling (first_no (graph_questions graph))
unfolding graph_questions
telling_graph graph = telling_ask _ 8 _ (telling_ask _ 9 _ telling_none)

pub zero_is_accepted : (bytes : List ℕ) → answer_number (plan_answer bytes) ≡ 0 → plan_answer bytes ≡ accepted
unfolding plan_answer plan_questions
zero_is_accepted bytes =
    let of_tasks = flat_map (task_questions bytes) (below (task_count bytes)) in
    telling_append (header_questions bytes ++ of_tasks) (graph_questions (plan_of bytes).graph)
    (telling_append (header_questions bytes) of_tasks (telling_header bytes) (telling_tasks bytes (below (task_count bytes))))
    (telling_graph (plan_of bytes).graph)
