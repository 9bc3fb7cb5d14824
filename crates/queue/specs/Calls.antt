-- What a sequence of calls does to a queue. RULES, "Queue".
--
--     Call               a book of n records is added, the book in slot i is removed, a turn with budget b, and
--                        such a turn whose wake is cut after the place in the round was kept
--     cut_short q b      the queue after that: the round goes on behind the slot, and every count is as it was
--     after q x          the queue after the call x
--     slot_served a      the slot that a turn's answer names, as a list of one; none if it was refused
--     served_by q x      the slot whose turn x is, if it is one that isn't refused
--     servings q xs      the slots whose turns came among xs, in order, those that were cut included
--     after_all q xs     the queue after xs
--
-- Laws: proofs/CallsLaws.antt. Definitions only.
use Rattle.std.specs.Prelude.{ℕ, List, [], ◌∷◌, ◌++◌, Ok, Err}
use Rattle.queue.specs.declared.slots.Queue.{Queue}
use Rattle.queue.specs.Reply.{Turned}
use Rattle.queue.specs.Books.{added, removed}
use Rattle.queue.specs.Round.{turned}

pub data Call : Type 0 where
  add : ℕ → Call
  remove : ℕ → Call
  turn : ℕ → Call
  cut : ℕ → Call

unfoldable pub cut_short : Queue → ℕ → Queue
cut_short q b = record { slots = q.slots; last = (turned q b).queue.last }

abbrev pub after : Queue → Call → Queue
after q (add n) = (added q n).queue
after q (remove i) = (removed q i).queue
after q (turn b) = (turned q b).queue
after q (cut b) = cut_short q b

abbrev pub slot_served : Turned → List ℕ
slot_served (Err x) = []
slot_served (Ok s) = s.slot ∷ []

abbrev pub served_by : Queue → Call → List ℕ
served_by q (add n) = []
served_by q (remove i) = []
served_by q (turn b) = slot_served (turned q b).answer
served_by q (cut b) = slot_served (turned q b).answer

unfoldable pub servings : Queue → List Call → List ℕ
servings q [] = []
servings q (x ∷ xs) = served_by q x ++ servings (after q x) xs

unfoldable pub after_all : Queue → List Call → Queue
after_all q [] = q
after_all q (x ∷ xs) = after_all (after q x) xs
