-- A book's count in the queue is its n less the records done in its latest checkpoint: a turn lowers the
-- one by what its wake adds to the other. Assumes nothing.
use Prim.Native.Nat.{ℕ, ◌+◌, ◌-◌, ◌≤◌, min}
use mathlib.Core.List.{List}
use mathlib.Core.Path.{◌≡◌, ap, sym, ◌∙◌}
use native.Mathlib.Omega.{arith}
use Rattle.rules.specs.declared.book.Head.{Head}
use Rattle.rules.specs.Book.{accepted, opened}
use Rattle.job.specs.Checkpoint.{done_in}
use Rattle.job.specs.History.{Wakes, InTurn}
use Rattle.job.proofs.HistoryLaws.{past_in_turn, done_in_in_turn, wakes_history}
use Rattle.std.specs.Prelude.{Some, Ok}
use Rattle.queue.specs.declared.slots.Queue.{Queue}
use Rattle.queue.specs.Reply.{serving}
use Rattle.queue.specs.Slots.{slot_at, is_free, left_in}
use Rattle.queue.specs.Round.{turned}
use Rattle.queue.specs.Stay.{Stay}
use Rattle.queue.proofs.BooksLaws.{added-lowest}
use Rattle.queue.proofs.RoundLaws.{TurnedAt, turned_next}
use Rattle.queue.proofs.CallsLaws.{slot_at-cut_short, slot_at-after}

module _ (k : List ℕ) (n s : ℕ) where
  -- The wakes that match its turns each used the latest checkpoint.
  pub in_turn_stay : (q : Queue) (t : ℕ) (c : List ℕ) → Stay k n s q t c → InTurn k t c
  in_turn_stay q t c (Stay.begun start q₀ long a) = InTurn.begun start
  in_turn_stay q t c (Stay.woken {q = q₀} {t = t₀} {c = from} stay a w) = InTurn.woken (in_turn_stay q₀ t₀ from stay) w
  in_turn_stay q t c (Stay.undone {q = q₀} stay b) = in_turn_stay q₀ t c stay
  in_turn_stay q t c (Stay.cut {q = q₀} stay b) = in_turn_stay q₀ t c stay
  in_turn_stay q t c (Stay.passed {q = q₀} stay x kept missed) = in_turn_stay q₀ t c stay

  -- A turn moves what a wake from place p goes through.
  slot_at-turn : (q : Queue) (p b m : ℕ) → p ≤ n → slot_at q s ≡ Some (n - p) → TurnedAt q b s m
      → (m ≡ min (p + b) n - p) × (slot_at (turned q b).queue s ≡ Some (n - min (p + b) n))
  slot_at-turn q p b m l count turn =
      let left : left_in (slot_at q s) ≡ n - p = ap left_in count in
      let moves : m ≡ min b (n - p) = turn.moved ∙ ap (min b) left in
      let rest : left_in (slot_at q s) - m ≡ n - min (p + b) n = ap (λ (x : ℕ). x - m) left ∙ rest-turn p b m l moves in
      (omega (arith, moves), turn.holds ∙ ap Some rest)
    where
      rest-turn : (p b m : ℕ) → p ≤ n → m ≡ min b (n - p) → n - p - m ≡ n - min (p + b) n
      rest-turn p b m l moves = omega arith

  slot_at_stay : (q : Queue) (t : ℕ) (c : List ℕ) → Stay k n s q t c → slot_at q s ≡ Some (n - min t n)
  slot_at_stay q t c (Stay.begun start q₀ long a) =
      let whole : n ≡ n - min 0 n = omega arith in
      (added-lowest q₀ n s a).holds long ∙ ap Some whole
  slot_at_stay q t c (Stay.woken {q = q₀} {t = t₀} {c = from} {b = b} {m = m} stay a w) =
      let more : min (min t₀ n + b) n ≡ min (t₀ + b) n = omega arith in
      (slot_at-turn q₀ (min t₀ n) b m (omega arith) (slot_at_stay q₀ t₀ from stay) (turned_next q₀ b s m a)).1
      ∙ ap (λ (d : ℕ). Some (n - d)) more
  slot_at_stay q t c (Stay.undone {q = q₀} stay b) = slot_at_stay q₀ t c stay
  slot_at_stay q t c (Stay.cut {q = q₀} stay b) = slot_at-cut_short q₀ s b ∙ slot_at_stay q₀ t c stay
  slot_at_stay q t c (Stay.passed {q = q₀} stay x kept missed) =
      let before = slot_at_stay q₀ t c stay in
      slot_at-after q₀ s x (ap is_free before) kept missed ∙ before

module _ (k : List ℕ) (h : Head) (e : opened k ≡ accepted h)
    (s : ℕ) (q : Queue) (t : ℕ) (c : List ℕ) (stay : Stay k h.n s q t c) where
  turns : InTurn k t c
  turns = in_turn_stay k h.n s q t c stay

  pub slot_at-done_in : slot_at q s ≡ Some (h.n - done_in c)
  slot_at-done_in =
      slot_at_stay k h.n s q t c stay
      ∙ ap (λ (d : ℕ). Some (h.n - d)) (sym (done_in_in_turn k h e t c turns))

  pub moved_wakes : (b m j : ℕ) (d : List ℕ) → (turned q b).answer ≡ Ok (serving s m) → Wakes k c b j d → m ≡ j
  moved_wakes b m j d a w =
      let past = past_in_turn k t c turns in
      let wake = (wakes_history k h e past.left c b j d past.history past.among w).0 in
      let few : done_in c ≤ h.n = omega (arith, done_in_in_turn k h e t c turns) in
      (slot_at-turn k h.n s q (done_in c) b m few slot_at-done_in (turned_next q b s m a)).0 ∙ sym wake
