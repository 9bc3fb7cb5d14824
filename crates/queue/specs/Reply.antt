-- What the calls answer. Replies in the numbers of RULES, "Queue": a number, 0 if the call was accepted, and its
-- values.
--
--     Added, Removed, Turned      what an add, a removal and a turn answer
--     serving i m                 a turn served slot i, and m of its records moved
--     Outcome A                   an answer, and the queue after it
--     queue_number x              the number of a refusal
--     add_reply a                 the reply that an add's answer stands for: the slot
--     remove_reply a              the reply that a removal's answer stands for
--     turn_reply a                the reply that a turn's answer stands for: the slot, and the records moved
--
-- Laws: proofs/ReplyLaws.antt. Definitions only.
use Rattle.std.specs.Prelude.{ℕ, [], ◌∷◌, Result, Ok, Err}
use Rattle.job.specs.Reply.{Reply, reply}
use Rattle.queue.specs.declared.reply.Refusal.{Refusal}
use Rattle.queue.specs.declared.reply.Refusal.TheVariants.{Full, Empty, NoBudget, NothingLeft}
use Rattle.queue.specs.declared.reply.Served.{Served}
use Rattle.queue.specs.declared.slots.Queue.{Queue}

abbrev pub Added : Type 0
Added = Result ℕ Refusal

abbrev pub Removed : Type 0
Removed = Result (Unit {0}) Refusal

abbrev pub Turned : Type 0
Turned = Result Served Refusal

abbrev pub serving : ℕ → ℕ → Served
serving i m = record { slot = i; moved = m }

pub record Outcome (A : Type 0) : Type 0 where
  pub answer : A
  pub queue : Queue

abbrev pub queue_number : Refusal → ℕ
queue_number Full = 50
queue_number Empty = 51
queue_number NoBudget = 52
queue_number NothingLeft = 53

unfoldable pub add_reply : Added → Reply
add_reply (Err x) = reply (queue_number x) []
add_reply (Ok i) = reply 0 (i ∷ [])

unfoldable pub remove_reply : Removed → Reply
remove_reply (Err x) = reply (queue_number x) []
remove_reply (Ok x) = reply 0 []

unfoldable pub turn_reply : Turned → Reply
turn_reply (Err x) = reply (queue_number x) []
turn_reply (Ok s) = reply 0 (s.slot ∷ s.moved ∷ [])
