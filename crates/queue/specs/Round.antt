-- What a turn does: it goes round the slots, from the one after the last served. RULES, "Queue".
--
--     onward q k          the slot k places on from the one after the last served, going round
--     due_at q k          the slot there has records left
--     passed_over q       how many places a turn passes over before one that has, or 16
--     next_up q           the slot that a turn serves
--     moved_at q i b      the records that a turn with budget b moves in slot i, as a wake does
--     served q i b        the answer of a turn with budget b that serves slot i, and the queue after it
--     turned q b          the answer to a turn with budget b, and the queue after it
--
-- Laws: proofs/RoundLaws.antt. Definitions only.
use Rattle.std.specs.Prelude.{ℕ, ◌+◌, ◌-◌, ◌%◌, min, Bool, nat_lt, nat_eq, Some, Ok, Err}
use Rattle.choice.specs.Tests.{choose}
use Rattle.queue.specs.declared.slots.Queue.{Queue}
use Rattle.queue.specs.declared.reply.Refusal.TheVariants.{NoBudget, NothingLeft}
use Rattle.queue.specs.Reply.{Turned, serving, Outcome}
use Rattle.queue.specs.Slots.{slot_count, slot_at, left_in, stored, lowest}

unfoldable pub onward : Queue → ℕ → ℕ
onward q k = (q.last + 1 + k) % slot_count

unfoldable pub due_at : Queue → ℕ → Bool
due_at q k = nat_lt 0 (left_in (slot_at q (onward q k)))

unfoldable pub passed_over : Queue → ℕ
passed_over q = lowest (due_at q) slot_count

unfoldable pub next_up : Queue → ℕ
next_up q = onward q (passed_over q)

unfoldable pub moved_at : Queue → ℕ → ℕ → ℕ
moved_at q i b = min b (left_in (slot_at q i))

unfoldable pub served : Queue → ℕ → ℕ → Outcome Turned
served q i b = record {
  answer = Ok (serving i (moved_at q i b));
  queue = record { slots = (stored q i (Some (left_in (slot_at q i) - moved_at q i b))).slots; last = i };
}

unfoldable pub turned : Queue → ℕ → Outcome Turned
turned q b =
    choose (nat_eq b 0) (record { answer = Err NoBudget; queue = q })
    (choose (nat_lt (passed_over q) slot_count) (served q (next_up q) b)
    (record { answer = Err NothingLeft; queue = q }))
