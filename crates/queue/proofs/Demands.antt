-- What the queue promises, as theorems. Read this file first.
--
-- q is a queue, n the records of a book, s and i slot numbers, b a budget. The code gives `empty_queue`,
-- `added q n`, `removed q i` and `turned q b`, each an answer beside the queue after it: those are its
-- contracts, taken over below with their proofs. So what is said here of these is said of the code.
--
-- Assumes nothing.
use Prim.Native.Nat.{ℕ, suc, ◌+◌, ◌-◌, ◌%◌, ◌<◌, ◌≤◌, min}
use mathlib.Core.Bool.{true, false}
use mathlib.Core.List.{List, [], ◌∷◌, Memᴰ}
use mathlib.Core.Logic.{◌↔◌}
use mathlib.Core.Path.{◌≡◌, ap, ◌∙◌}
use lib.ListN.{length, take}
use Rattle.rules.specs.declared.book.Head.{Head}
use Rattle.rules.specs.Book.{accepted, opened}
use Rattle.job.specs.Checkpoint.{done_in}
use Rattle.job.specs.Reply.{reply}
use Rattle.job.specs.History.{Wakes}
use Rattle.job.proofs.HistoryLaws.{past_in_turn}
use Rattle.job.proofs.Demands.{Demand3, demand3, demand3_done}
use Rattle.std.specs.Prelude.{Some, None, Ok}
use Rattle.queue.specs.declared.slots.Queue.{Queue}
use Rattle.queue.specs.Reply.{serving}
use Rattle.queue.specs.Slots.{empty_queue, slot_at, is_free, left_in}
use Rattle.queue.specs.Reply.{add_reply, remove_reply, turn_reply}
use Rattle.queue.specs.Books.{added, removed}
use Rattle.queue.specs.Round.{turned}
use Rattle.queue.specs.Calls.{Call, remove, turn, cut, after, servings, after_all}
use Rattle.queue.specs.Stay.{Stay}
use Rattle.queue.proofs.SlotsLaws.{length-empty_queue}
use Rattle.queue.proofs.BooksLaws.{add_reply-accepted, added-lowest, add_reply_50, added-kept}
use Rattle.queue.proofs.BooksLaws.{remove_reply-accepted, removed_free, remove_reply_51, removed-kept}
use Rattle.queue.proofs.RoundLaws.{turn_reply-accepted, turn_reply-lowest, turned_next, turned-before}
use Rattle.queue.proofs.RoundLaws.{turn_reply_52, turn_reply_53, turned-kept}
use Rattle.queue.proofs.CallsLaws.{last_after_all, length-after_all, servings_sixteen, slot_at-after_all}
use Rattle.queue.proofs.CallsLaws.{last_cut_short, slot_at-cut_short}
use Rattle.queue.proofs.StayLaws.{in_turn_stay, slot_at-done_in, moved_wakes}
-- The code meets its contracts.
pub use Rattle.queue.proofs.slots.Queue.new.Met.{met as new-meets-its-contract}
pub use Rattle.queue.proofs.slots.Queue.add.Met.{met as add-meets-its-contract}
pub use Rattle.queue.proofs.slots.Queue.remove.Met.{met as remove-meets-its-contract}
pub use Rattle.queue.proofs.slots.Queue.turn.Met.{met as turn-meets-its-contract}

-- ---- 1. Every call on every queue gets a defined answer.
pub record Refusals (q : Queue) : Type 0 where
  -- 50: no slot is free, exactly when 16 are taken.
  pub full_50 : (n : ℕ)
      → (add_reply (added q n).answer ≡ reply 50 []) ↔ ((i : ℕ) → i < 16 → is_free (slot_at q i) ≡ false)
  -- 51: the slot is free, or its number is past 15.
  pub empty_51 : (i : ℕ)
      → (remove_reply (removed q i).answer ≡ reply 51 []) ↔ (i < 16 → is_free (slot_at q i) ≡ true)
  -- 52: the budget is 0. It is told before 53.
  pub budget_52 : (b : ℕ) → (turn_reply (turned q b).answer ≡ reply 52 []) ↔ (b ≡ 0)
  -- 53: no slot has records left.
  pub nothing_53 : (b : ℕ)
      → (turn_reply (turned q b).answer ≡ reply 53 [])
      ↔ ((b ≡ 0 → ⊥) × ((i : ℕ) → i < 16 → left_in (slot_at q i) ≡ 0))
  -- Each changes nothing.
  pub kept_add : (n m : ℕ) (vs : List ℕ)
      → add_reply (added q n).answer ≡ reply (suc m) vs → (added q n).queue ≡ q
  pub kept_remove : (i m : ℕ) (vs : List ℕ)
      → remove_reply (removed q i).answer ≡ reply (suc m) vs → (removed q i).queue ≡ q
  pub kept_turn : (b m : ℕ) (vs : List ℕ)
      → turn_reply (turned q b).answer ≡ reply (suc m) vs → (turned q b).queue ≡ q

pub refusals : (q : Queue) → Refusals q
refusals q = record {
  full_50 = add_reply_50 q;
  empty_51 = remove_reply_51 q;
  budget_52 = turn_reply_52 q;
  nothing_53 = turn_reply_53 q;
  kept_add = added-kept q;
  kept_remove = removed-kept q;
  kept_turn = turned-kept q;
}

-- ---- 2. A call that no refusal meets is accepted, and does what it is for.
pub record Acceptances (q : Queue) : Type 0 where
  -- A book is added if some slot is free: if s is the lowest of them, the answer is s.
  pub add_accepted : (n s : ℕ) → s < 16 → is_free (slot_at q s) ≡ true
      → ((i : ℕ) → i < s → is_free (slot_at q i) ≡ false) → add_reply (added q n).answer ≡ reply 0 (s ∷ [])
  -- A new book takes the lowest free slot.
  pub add_free : (n s : ℕ) → (added q n).answer ≡ Ok s → is_free (slot_at q s) ≡ true
  pub add_lowest : (n s i : ℕ) → (added q n).answer ≡ Ok s → i < s → is_free (slot_at q i) ≡ false
  pub add_holds : (n s : ℕ) → length q.slots ≡ 16 → (added q n).answer ≡ Ok s
      → slot_at (added q n).queue s ≡ Some n
  -- A book is removed if the slot holds one.
  pub remove_accepted : (i : ℕ) → is_free (slot_at q i) ≡ false → remove_reply (removed q i).answer ≡ reply 0 []
  -- A removed book's slot is free, to be used again.
  pub remove_frees : (i : ℕ) → (removed q i).answer ≡ Ok tt → slot_at (removed q i).queue i ≡ None
  -- A turn with a budget of at least 1 serves a slot, if some slot i has records left.
  pub turn_accepted : (b i : ℕ) → 1 ≤ b → 0 < left_in (slot_at q i)
      → (s : ℕ) × (m : ℕ) × (turn_reply (turned q b).answer ≡ reply 0 (s ∷ m ∷ []))
  -- A turn goes to the next slot with records left, going round from the one after the last served: if that
  -- is d places on, no slot before it in the round has any.
  pub turn_left : (b s m : ℕ) → (turned q b).answer ≡ Ok (serving s m) → 0 < left_in (slot_at q s)
  pub turn_next : (b s m d j : ℕ) → (turned q b).answer ≡ Ok (serving s m) → s ≡ (q.last + 1 + d) % 16 → d < 16
      → j < d → left_in (slot_at q ((q.last + 1 + j) % 16)) ≡ 0
  pub turn_last : (b s m : ℕ) → (turned q b).answer ≡ Ok (serving s m) → (turned q b).queue.last ≡ s
  -- It lowers the count as a wake does, and says how many records moved.
  pub turn_moves : (b s m : ℕ) → (turned q b).answer ≡ Ok (serving s m) → m ≡ min b (left_in (slot_at q s))
  pub turn_lowers : (b s m : ℕ) → (turned q b).answer ≡ Ok (serving s m)
      → slot_at (turned q b).queue s ≡ Some (left_in (slot_at q s) - m)

pub acceptances : (q : Queue) → Acceptances q
acceptances q = record {
  add_accepted = add_reply-accepted q;
  add_free = λ n s a. (added-lowest q n s a).free;
  add_lowest = λ n s i a. (added-lowest q n s a).lowest i;
  add_holds = λ n s long a. (added-lowest q n s a).holds long;
  remove_accepted = remove_reply-accepted q;
  remove_frees = removed_free q;
  turn_accepted = turn_reply-accepted q;
  turn_left = λ b s m a. (turned_next q b s m a).left;
  turn_next = turned-before q;
  turn_last = λ b s m a. (turned_next q b s m a).last;
  turn_moves = λ b s m a. (turned_next q b s m a).moved;
  turn_lowers = λ b s m a. (turned_next q b s m a).holds;
}

-- Every queue that calls make of the first has 16 slots, as `add_holds` and a book's stay ask.
pub sixteen_slots : (xs : List Call) → length (after_all empty_queue xs).slots ≡ 16
sixteen_slots xs = length-after_all empty_queue xs ∙ length-empty_queue

-- The first round begins at slot 0: until a turn has come among the calls xs, the next serves the lowest slot
-- with records left.
pub first_round : (xs : List Call) → servings empty_queue xs ≡ []
    → let q = after_all empty_queue xs in
    (b s : ℕ) → 1 ≤ b → 0 < left_in (slot_at q s) → ((i : ℕ) → i < s → left_in (slot_at q i) ≡ 0)
    → turn_reply (turned q b).answer ≡ reply 0 (s ∷ min b (left_in (slot_at q s)) ∷ [])
first_round xs none =
    turn_reply-lowest (after_all empty_queue xs) (last_after_all empty_queue xs (ap length none))

-- ---- 3. Whatever calls xs come after q, the book in slot s not being removed among them. `cut b` is a turn
-- whose wake is cut after the place in the round was kept.
pub record Fairness (q : Queue) (s : ℕ) (xs : List Call) : Type 0 where
  -- If it has records left, its turn comes within 16, those that are cut included.
  pub served : 0 < left_in (slot_at q s) → 16 ≤ length (servings q xs) → Memᴰ s (take 16 (servings q xs))
  -- Until it is served it keeps its slot and its count, also with 0 left.
  pub kept : is_free (slot_at q s) ≡ false → (Memᴰ s (servings q xs) → ⊥)
      → slot_at (after_all q xs) s ≡ slot_at q s
  -- A cut costs the book whose turn it was that turn alone: the round goes on, and no count changes.
  pub cut_goes_on : (b : ℕ) → (after q (cut b)).last ≡ (after q (turn b)).last
  pub cut_keeps : (b : ℕ) → slot_at (after q (cut b)) s ≡ slot_at q s

pub fairness : (q : Queue) (s : ℕ) (xs : List Call) → (Memᴰ (remove s) xs → ⊥) → Fairness q s xs
fairness q s xs stays = record {
  served = λ some. servings_sixteen q s xs some stays;
  kept = λ taken. slot_at-after_all q s xs taken stays;
  cut_goes_on = last_cut_short q;
  cut_keeps = slot_at-cut_short q s;
}

-- ---- 4. An accepted book k with the head h, added with its n after a fresh start: it stands in slot s of
-- q, each of its turns was matched by one saved wake with that turn's budget from its latest checkpoint, c
-- is that checkpoint now, and t the sum of the budgets. Turns that were undone or cut are among what came
-- before.
pub record EachBook (k : List ℕ) (h : Head) (s : ℕ) (q : Queue) (t : ℕ) (c : List ℕ) : Type 0 where
  -- Its count is n less the records done.
  pub count : slot_at q s ≡ Some (h.n - done_in c)
  -- Demand 3 holds of it on its own, whatever else is in the queue,
  pub wakes : Demand3 k h c
  pub done : (done_in c ≡ h.n) ↔ (h.n ≤ t)
  -- and a turn moves as many records as the wake that matches it.
  pub moves : (b m j : ℕ) (d : List ℕ) → (turned q b).answer ≡ Ok (serving s m) → Wakes k c b j d → m ≡ j

pub each_book : (k : List ℕ) (h : Head) → opened k ≡ accepted h
    → (s : ℕ) (q : Queue) (t : ℕ) (c : List ℕ) → Stay k h.n s q t c → EachBook k h s q t c
each_book k h e s q t c stay =
    let turns = in_turn_stay k h.n s q t c stay in
    let past = past_in_turn k t c turns in
    record {
      count = slot_at-done_in k h e s q t c stay;
      wakes = demand3 k h e past.left c past.history past.among;
      done = demand3_done k h e t c turns;
      moves = moved_wakes k h e s q t c stay;
    }
