-- One book's stay in a queue, beside its own job. RULES, "Queue".
--
--     Stay k n s q t c   the book k, added with n records, stands in slot s of q; t is the sum of the
--                        budgets of its turns, and c its latest saved checkpoint
--
-- Laws: proofs/StayLaws.antt. Definitions only.
use Rattle.std.specs.Prelude.{ℕ, ◌+◌, ◌≡◌, length, Ok}
use mathlib.Core.List.{List, Memᴰ}
use Rattle.job.specs.History.{Starts, Wakes}
use Rattle.queue.specs.declared.slots.Queue.{Queue}
use Rattle.queue.specs.Reply.{serving}
use Rattle.queue.specs.Slots.{slot_count}
use Rattle.queue.specs.Books.{added}
use Rattle.queue.specs.Round.{turned}
use Rattle.queue.specs.Calls.{Call, remove, cut_short, after, served_by}

pub data Stay (k : List ℕ) (n s : ℕ) : Queue → ℕ → List ℕ → Type 0 where
  -- After a fresh start the book is added with its n, to a queue of 16 slots, as all of the code's are.
  begun : {c : List ℕ} → Starts k c → (q : Queue) → length q.slots ≡ slot_count → (added q n).answer ≡ Ok s
      → Stay k n s (added q n).queue 0 c
  -- Its turn, matched by one saved wake with that turn's budget from its latest checkpoint.
  woken : {q : Queue} {t : ℕ} {c : List ℕ} {b m j : ℕ} {d : List ℕ}
      → Stay k n s q t c → (turned q b).answer ≡ Ok (serving s m) → Wakes k c b j d
      → Stay k n s (turned q b).queue (t + b) d
  -- A turn that is undone since its wake was cut, its own or another book's: the caller goes on from the
  -- queue before it.
  undone : {q : Queue} {t : ℕ} {c : List ℕ} → Stay k n s q t c → (b : ℕ) → Stay k n s q t c
  -- A turn that is cut after the place in the round was kept: the round goes on.
  cut : {q : Queue} {t : ℕ} {c : List ℕ} → Stay k n s q t c → (b : ℕ) → Stay k n s (cut_short q b) t c
  -- Any other call: it doesn't remove the book, and doesn't serve it.
  passed : {q : Queue} {t : ℕ} {c : List ℕ} → Stay k n s q t c
      → (x : Call) → (x ≡ remove s → ⊥) → (Memᴰ s (served_by q x) → ⊥)
      → Stay k n s (after q x) t c
