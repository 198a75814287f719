-- An entry is written where its questions and the room allow it, and else nothing is. So where it was accepted, the bytes written so far
-- are those before and the entry (`so_far`); the buffer stays as long in either case (`same_length`).
-- Assumes nothing.
use mathlib.Core.Path.{◌≡◌, refl, sym, ap, ◌∙◌}
use mathlib.Core.Bool.{Bool, true, false, cond}
use mathlib.Core.List.{List, [], ◌∷◌, ◌++◌, append_assoc}
use Prim.Native.Nat.{ℕ, suc, ◌+◌, ◌-◌, ◌≤◌, ◌<◌}
use native.Mathlib.Numerals.{add-one}
use native.Mathlib.Omega.{arith}
use lib.Dec.{leb, ltb}
use lib.ListN.{length, take, drop, set, length-append, length-set}
use lib.Seq.{drop-drop, sets, sets-eq, length-sets, length-take-le, take_at}
use Rattle.std.proofs.lemmas.List.{length-drop}
use borrow.Rule.Slice.PartMut.{put_mid}
use borrow.Author.Tests.{le-leb, lt-leb, leb-true, ltb-true}
use Rattle.model.specs.Tests.{every}
use Rattle.model.specs.Questions.{Question, Answer, accepted, refused, ask, first_no, answer_number}
use Rattle.model.specs.Log.{append_answer, tick_sayable}
use Rattle.lists.proofs.Tests.{and_left, and_right}
use Rattle.lists.proofs.Lists.{every_append}
use Rattle.lists.proofs.Questions.{and_then, first_no_append, second_accepted, ask_accepted}
use Rattle.log_writer.specs.Writing.{Writes}

-- room for so many bytes, as it is asked
abbrev pub room_for : List ℕ → ℕ → ℕ → Answer
room_for buffer size more = first_no (ask (leb (size + more) (length buffer)) 20 ∷ [])

pub room_given : (buffer : List ℕ) (size more : ℕ) → accepted ≡ room_for buffer size more → size + more ≤ length buffer
room_given buffer size more there = leb-true _ _ (ask_accepted (leb (size + more) (length buffer)) 20 [] (sym there)).0

module _ (questions : List Question) (entry buffer : List ℕ) (size : ℕ) where
  abbrev room_answer : Answer
  room_answer = room_for buffer size (length entry)

  -- past its questions an entry is asked for room alone
  room_asked : first_no questions ≡ accepted → append_answer questions entry buffer size ≡ room_answer
  unfolding append_answer
  room_asked passed = first_no_append questions _ ∙ ap (λ (a : Answer). and_then a room_answer) passed

  -- a refusal leaves all as it was
  refusal : {n : ℕ} → append_answer questions entry buffer size ≡ refused n → Writes questions entry buffer size buffer size n
  refusal is = record { answered = rw is refl; left = rw is refl; counted = rw is refl }

  -- no room is told, where the entry has none
  pub no_room : {n : ℕ} → first_no questions ≡ accepted → refused n ≡ room_answer → Writes questions entry buffer size buffer size n
  no_room passed full = refusal (room_asked passed ∙ sym full)

  pub room_there : accepted ≡ room_answer → size + length entry ≤ length buffer
  room_there = room_given buffer size (length entry)

  has_room : append_answer questions entry buffer size ≡ accepted → size + length entry ≤ length buffer
  unfolding append_answer
  has_room is = room_there (sym (second_accepted (first_no questions) _ (sym (first_no_append questions _) ∙ is)))

  pub written : first_no questions ≡ accepted → accepted ≡ room_answer → {buffer' : List ℕ} {size' : ℕ} →
      buffer' ≡ sets buffer size entry → size' ≡ size + length entry → Writes questions entry buffer size buffer' size' 0
  written passed there stored counted =
      let is : append_answer questions entry buffer size ≡ accepted = room_asked passed ∙ sym there in
      record {
        answered = rw is refl;
        left = rw is (stored ∙ sets-eq entry buffer size (room_there there));
        counted = rw is counted;
      }

-- bytes that were copied behind one that was put
put_behind : (first : ℕ) (bytes buffer : List ℕ) (size room : ℕ) → size + 1 + length bytes ≤ length buffer → room ≡ length bytes →
    put_mid (size + 1) room (set buffer size first) bytes ≡ sets (set buffer size first) (size + 1) bytes
put_behind first bytes buffer size room there is =
    let b = set buffer size first in
    let long : length b ≡ length buffer = length-set buffer size first in
    sym
    (sets-eq bytes b (size + 1) (omega (arith, long))
    ∙ append_assoc (take (size + 1) b) bytes (drop (size + 1 + length bytes) b)
    ∙ (rw (is, drop-drop (length bytes) (size + 1) b) refl))

-- the places of so many bytes behind one that was put
pub behind_long : (first count : ℕ) (buffer : List ℕ) (size : ℕ) → size + suc count ≤ length buffer →
    length (take (size + 1 + count - (size + 1)) (drop (size + 1) (set buffer size first))) ≡ count
behind_long first count buffer size there =
    let b = set buffer size first in
    let long : length (drop (size + 1) b) ≡ length buffer - (size + 1) =
    length-drop (size + 1) b ∙ ap (λ (n : ℕ). n - (size + 1)) (length-set buffer size first) in
    length-take-le (size + 1 + count - (size + 1)) (drop (size + 1) b) (omega (arith, long, there)) ∙ omega arith

-- a tick's entry: its first byte is put, and the choices are put to the places after it
pub tick_written : (questions : List Question) (first : ℕ) (choices buffer : List ℕ) (size : ℕ) → first_no questions ≡ accepted →
    accepted ≡ room_answer questions (first ∷ choices) buffer size → {copied : List ℕ} {room size' : ℕ} → copied ≡ choices →
    room ≡ length choices → size' ≡ size + 1 + length choices →
    Writes questions (first ∷ choices) buffer size (put_mid (size + 1) room (set buffer size first) copied) size' 0
tick_written questions first choices buffer size passed there {copied} {room} copy is counted =
    let within = room_there questions (first ∷ choices) buffer size there in
    let stored : put_mid (size + 1) room (set buffer size first) copied ≡ sets buffer size (first ∷ choices) =
    ap (put_mid (size + 1) room (set buffer size first)) copy
    ∙ put_behind first choices buffer size room (omega (arith, within)) is
    ∙ (rw add-one refl) in
    written questions (first ∷ choices) buffer size passed there stored (omega (arith, counted))

-- a number that 7 bits cannot say is told first, and one that they can say is let pass
pub unsayable : (k n : ℕ) (entry buffer : List ℕ) (size : ℕ) → 127 < k → Writes (ask (leb k 127) n ∷ []) entry buffer size buffer size n
unfolding append_answer first_no
unsayable k n entry buffer size above = refusal (ask (leb k 127) n ∷ []) entry buffer size (rw (lt-leb k 127 above) refl)

pub sayable : (k n : ℕ) → k ≤ 127 → first_no (ask (leb k 127) n ∷ []) ≡ accepted
unfolding first_no
sayable k n within = rw (le-leb k 127 within) refl

-- a question that 7 bits always answer need not be asked
pub always_sayable : (choices entry : List ℕ) {buffer : List ℕ} {size : ℕ} {buffer' : List ℕ} {size' number : ℕ} → length choices ≤ 127 →
    Writes (tick_sayable choices) entry buffer size buffer' size' number → Writes [] entry buffer size buffer' size' number
unfolding append_answer first_no
always_sayable choices entry {buffer} {size} few w =
    let same : append_answer (tick_sayable choices) entry buffer size ≡ append_answer [] entry buffer size =
    rw (le-leb (length choices) 127 few) refl in
    record { answered = rw same at w.answered; left = rw same at w.left; counted = rw same at w.counted }

-- ---- what a reader has of it

zero_answer : (questions : List Question) → every (λ q. ltb 0 q.number) questions ≡ true → answer_number (first_no questions) ≡ 0 →
    first_no questions ≡ accepted
unfolding every first_no
zero_answer [] numbered none = refl
zero_answer (q ∷ questions) numbered none =
    by q.holds (zero_answer questions (and_right (ltb 0 q.number) (every (λ p. ltb 0 p.number) questions) numbered)) none
  where
    positive : 0 < q.number
    positive = ltb-true 0 q.number (and_left (ltb 0 q.number) (every (λ p. ltb 0 p.number) questions) numbered)

    by : (holds : Bool) → (answer_number (first_no questions) ≡ 0 → first_no questions ≡ accepted) →
        answer_number (cond holds (first_no questions) (refused q.number)) ≡ 0 →
        cond holds (first_no questions) (refused q.number) ≡ accepted
    by true rest none = rest none
    by false rest none = absurd (omega (arith, positive))

module _ {questions : List Question} {entry buffer : List ℕ} {size : ℕ} {buffer' : List ℕ} {size' number : ℕ}
    (w : Writes questions entry buffer size buffer' size' number) where
  -- where no question's number is 0, the number 0 tells that it was accepted
  pub zero_accepts : every (λ q. ltb 0 q.number) questions ≡ true → number ≡ 0 → append_answer questions entry buffer size ≡ accepted
  unfolding append_answer every
  zero_accepts numbered none =
      zero_answer (questions ++ (ask (leb (size + length entry) (length buffer)) 20 ∷ []))
      (every_append (λ q. ltb 0 q.number) questions _ numbered refl) (sym w.answered ∙ none)

  pub so_far : append_answer questions entry buffer size ≡ accepted → take size' buffer' ≡ take size buffer ++ entry
  so_far is =
      let room = has_room questions entry buffer size is in
      let left : buffer' ≡ take size buffer ++ entry ++ drop (size + length entry) buffer = rw is at w.left in
      let counted : size' ≡ size + length entry = rw is at w.counted in
      let before : length (take size buffer) ≡ size = length-take-le size buffer (omega arith) in
      rw (left, counted) (take_at _ _ _ (length-append (take size buffer) entry ∙ ap (λ (k : ℕ). k + length entry) before))

  pub same_length : length buffer' ≡ length buffer
  same_length = go (append_answer questions entry buffer size) refl
    where
      go : (a : Answer) → append_answer questions entry buffer size ≡ a → length buffer' ≡ length buffer
      go accepted is =
          ap length (rw is at w.left)
          ∙ ap length (sym (sets-eq entry buffer size (has_room questions entry buffer size is)))
          ∙ length-sets buffer size entry
      go (refused n) is = ap length (rw is at w.left)
