-- What adding and removing a book do. RULES, "Queue".
--
--     lowest_free q      the lowest free slot, or 16
--     added q n          the answer to adding a book of n records, and the queue after it
--     removed q i        the answer to removing the book in slot i, and the queue after it
--
-- Laws: proofs/BooksLaws.antt. Definitions only.
use Rattle.std.specs.Prelude.{ℕ, nat_lt, Some, None, Ok, Err}
use Rattle.choice.specs.Tests.{choose}
use Rattle.queue.specs.declared.slots.Queue.{Queue}
use Rattle.queue.specs.declared.reply.Refusal.TheVariants.{Full, Empty}
use Rattle.queue.specs.Reply.{Added, Removed, Outcome}
use Rattle.queue.specs.Slots.{slot_count, free_at, stored, lowest}

unfoldable pub lowest_free : Queue → ℕ
lowest_free q = lowest (free_at q) slot_count

unfoldable pub added : Queue → ℕ → Outcome Added
added q n =
    choose (nat_lt (lowest_free q) slot_count)
    (record { answer = Ok (lowest_free q); queue = stored q (lowest_free q) (Some n) })
    (record { answer = Err Full; queue = q })

unfoldable pub removed : Queue → ℕ → Outcome Removed
removed q i =
    choose (free_at q i)
    (record { answer = Err Empty; queue = q })
    (record { answer = Ok tt; queue = stored q i None })
