-- What a queue's slots hold. RULES, "Queue".
--
--     slot_count          16
--     empty_queue         the queue at the start: as if slot 15 had been served last
--     slot_at q i         what slot i holds: the records left of a book, or nothing; past 15, nothing
--     is_free s           s holds no book
--     left_in s           the records left of the book in s; 0 if there is none
--     free_at q i         slot i is free
--     stored q i s        q with s in slot i
--     lowest p n          the lowest number below n of which p holds; n if there is none
--
-- Laws: proofs/SlotsLaws.antt, proofs/LowestLaws.antt. Definitions only.
use Rattle.std.specs.Prelude.{ℕ, zero, suc, Bool, true, false, nat_lt, slice_index_or, slice_set, replicate, Option, Some, None}
use Rattle.choice.specs.Tests.{choose}
use Rattle.queue.specs.declared.slots.Queue.{Queue}

abbrev pub slot_count : ℕ
slot_count = 16

unfoldable pub empty_queue : Queue
empty_queue = record { slots = replicate slot_count None; last = 15 }

unfoldable pub slot_at : Queue → ℕ → Option ℕ
slot_at q i = choose (nat_lt i slot_count) (slice_index_or q.slots i None) None

abbrev pub is_free : Option ℕ → Bool
is_free None = true
is_free (Some n) = false

abbrev pub left_in : Option ℕ → ℕ
left_in None = 0
left_in (Some n) = n

unfoldable pub free_at : Queue → ℕ → Bool
free_at q i = is_free (slot_at q i)

unfoldable pub stored : Queue → ℕ → Option ℕ → Queue
stored q i s = record { slots = slice_set q.slots i s; last = q.last }

unfoldable pub lowest : (ℕ → Bool) → ℕ → ℕ
lowest p zero = 0
lowest p (suc n) = choose (p 0) 0 (suc (lowest (λ i. p (suc i)) n))
