-- What adding and removing come to in each of their cases, and what their answers say. Assumes nothing.
use Prim.Native.Nat.{ℕ, suc, ◌<◌, ◌≤◌, zero-le}
use mathlib.Core.Bool.{true, false}
use mathlib.Core.List.{List, [], ◌∷◌}
use mathlib.Core.Logic.{◌↔◌}
use mathlib.Core.Path.{◌≡◌, refl, ap, sym, ◌∙◌}
use native.Mathlib.Omega.{arith}
use lib.ListN.{length, set}
use borrow.Author.Tests.{lt-ltb, le-ltb}
use Rattle.choice.proofs.Splitting.{if_test, if_lt}
use Rattle.choice.proofs.TestsLaws.{choose_t, choose_f}
use Rattle.job.specs.Reply.{reply}
use Rattle.std.specs.Prelude.{Option, Some, None, Ok, Err, MatchOption, is_some}
use Rattle.std.specs.List.{AllWithin, HoldsAt}
use Rattle.queue.specs.declared.slots.Queue.{Queue}
use Rattle.queue.specs.declared.reply.Refusal.TheVariants.{Full, Empty}
use Rattle.queue.specs.Reply.{Added, Removed, Outcome}
use Rattle.queue.specs.Slots.{slot_count, slot_at, is_free, free_at, stored}
use Rattle.queue.specs.Reply.{add_reply, remove_reply}
use Rattle.queue.specs.Books.{lowest_free, added, removed}
use Rattle.queue.proofs.LowestLaws.{lowest_unique, lowest-none, lowest-true, lowest-false}
use Rattle.queue.proofs.SlotsLaws.{is_free_some, is_free_none, slot_at_within, slot_at-lt, slot_at_past, slot_at-stored, slot_at-stored_taken}
use Rattle.queue.proofs.ReplyLaws.{reply-apart}

-- What an answer `Ok s` says: the slot was the lowest free one, and holds the book now.
pub record AddedAt (q : Queue) (n s : ℕ) : Type 0 where
  pub free : is_free (slot_at q s) ≡ true
  pub lowest : (i : ℕ) → i < s → is_free (slot_at q i) ≡ false
  pub holds : length q.slots ≡ slot_count → slot_at (added q n).queue s ≡ Some n

module _ (q : Queue) where
  -- ---- the lowest free slot
  pub lowest_free_free : lowest_free q < slot_count → is_free (slot_at q (lowest_free q)) ≡ true
  unfolding lowest_free free_at
  lowest_free_free l = lowest-true (free_at q) slot_count l

  lowest_free_taken : (i : ℕ) → i < lowest_free q → is_free (slot_at q i) ≡ false
  unfolding lowest_free free_at
  lowest_free_taken i l = lowest-false (free_at q) slot_count i l

  lowest_free-none : ((i : ℕ) → i < slot_count → is_free (slot_at q i) ≡ false) → lowest_free q ≡ slot_count
  unfolding lowest_free free_at
  lowest_free-none taken = lowest-none (free_at q) slot_count taken

  lowest_free_unique : (s : ℕ) → s < slot_count → is_free (slot_at q s) ≡ true
      → ((i : ℕ) → i < s → is_free (slot_at q i) ≡ false) → lowest_free q ≡ s
  unfolding lowest_free free_at
  lowest_free_unique s l free taken = lowest_unique (free_at q) slot_count s l free taken

  -- What a search of the slots for a free one answers.
  pub lowest_free_found : (r : Option ℕ) → length q.slots ≡ slot_count
      → MatchOption r (AllWithin (λ s. is_free s ≡ false) q.slots 0 (length q.slots))
      (λ i. (i < length q.slots) × HoldsAt (λ s. is_free s ≡ true) q.slots i × AllWithin (λ s. is_free s ≡ false) q.slots 0 i)
      → MatchOption r (slot_count ≤ lowest_free q) (λ i. (i ≡ lowest_free q) × (i < slot_count))
  lowest_free_found None long taken =
      omega (arith, lowest_free-none (λ i l. ap is_free (slot_at_within q i l) ∙ taken i None zero-le (omega arith)))
  lowest_free_found (Some i) long (within, free, taken) =
      let l : i < slot_count = omega arith in (
        sym (lowest_free_unique i l (ap is_free (slot_at_within q i l) ∙ free None)
            (λ j m. ap is_free (slot_at_within q j (omega arith)) ∙ taken j None zero-le m)),
        l,
      )

  -- ---- adding, by cases
  pub added_at : (n : ℕ) → lowest_free q < slot_count
      → added q n ≡ record { answer = Ok (lowest_free q); queue = stored q (lowest_free q) (Some n) }
  unfolding added
  added_at n l = choose_t _ (lt-ltb (lowest_free q) slot_count l) refl

  pub added_full : (n : ℕ) → slot_count ≤ lowest_free q → added q n ≡ record { answer = Err Full; queue = q }
  unfolding added
  added_full n l = choose_f _ (le-ltb (lowest_free q) slot_count l) refl

  -- What the code gives for each, the book standing in slot i of the array.
  pub added_found : (n i : ℕ) → (i ≡ lowest_free q) × (i < slot_count)
      → (Ok i ≡ (added q n).answer) × (record { slots = set q.slots i (Some n); last = q.last } ≡ (added q n).queue)
  unfolding stored
  added_found n i (found, l) = rw (found, added_at n (rw found at l)) (refl, refl)

  pub added_none : (n : ℕ) → slot_count ≤ lowest_free q → (Err Full ≡ (added q n).answer) × (q ≡ (added q n).queue)
  added_none n l = rw (added_full n l) (refl, refl)

  add_reply_at : (n : ℕ) → lowest_free q < slot_count → add_reply (added q n).answer ≡ reply 0 (lowest_free q ∷ [])
  unfolding add_reply
  add_reply_at n l = ap (λ (r : Outcome Added). add_reply r.answer) (added_at n l)

  add_reply-full : (n : ℕ) → slot_count ≤ lowest_free q → add_reply (added q n).answer ≡ reply 50 []
  unfolding add_reply
  add_reply-full n l = ap (λ (r : Outcome Added). add_reply r.answer) (added_full n l)

  pub add_reply-accepted : (n s : ℕ) → s < slot_count → is_free (slot_at q s) ≡ true
      → ((i : ℕ) → i < s → is_free (slot_at q i) ≡ false) → add_reply (added q n).answer ≡ reply 0 (s ∷ [])
  add_reply-accepted n s l free taken =
      let here = lowest_free_unique s l free taken in
      add_reply_at n (omega arith) ∙ ap (λ (i : ℕ). reply 0 (i ∷ [])) here

  pub added-lowest : (n s : ℕ) → (added q n).answer ≡ Ok s → AddedAt q n s
  added-lowest n s a =
      if_lt (lowest_free q) slot_count
      (λ l.
      let e = added_at n l in
      let answer : Ok (lowest_free q) ≡ Ok s = sym (ap (λ (r : Outcome Added). r.answer) e) ∙ a in
      let here : lowest_free q ≡ s = cc in
      record {
        free = rw here at (lowest_free_free l);
        lowest = λ i m. lowest_free_taken i (omega arith);
        holds =
            λ long.
            ap (λ (r : Outcome Added). slot_at r.queue s) e
            ∙ ap (λ (i : ℕ). slot_at (stored q i (Some n)) s) here
            ∙ slot_at-stored q s (Some n) (omega arith) (omega arith);
      })
      (λ l.
      let answer : Err Full ≡ Ok s = sym (ap (λ (r : Outcome Added). r.answer) (added_full n l)) ∙ a in
      let never : ◌≡◌ {A = ℕ} 0 1 = cc in
      absurd (omega arith))

  pub add_reply_50 : (n : ℕ)
      → (add_reply (added q n).answer ≡ reply 50 []) ↔ ((i : ℕ) → i < slot_count → is_free (slot_at q i) ≡ false)
  add_reply_50 n = (
    λ e i l.
        if_lt (lowest_free q) slot_count
        (λ m. absurd (reply-apart (add_reply_at n m) e (λ z. omega arith)))
        (λ m. lowest_free_taken i (omega arith)),
    λ taken. add_reply-full n (omega (arith, lowest_free-none taken)),
  )

  pub added-kept : (n m : ℕ) (vs : List ℕ)
      → add_reply (added q n).answer ≡ reply (suc m) vs → (added q n).queue ≡ q
  added-kept n m vs e =
      if_lt (lowest_free q) slot_count
      (λ l. absurd (reply-apart (add_reply_at n l) e (λ z. omega arith)))
      (λ l. ap (λ (r : Outcome Added). r.queue) (added_full n l))

  -- ---- removing, by cases
  pub removed_empty : (i : ℕ) → free_at q i ≡ true → removed q i ≡ record { answer = Err Empty; queue = q }
  unfolding removed
  removed_empty i free = choose_t _ free refl

  pub removed_gone : (i : ℕ) → free_at q i ≡ false → removed q i ≡ record { answer = Ok tt; queue = stored q i None }
  unfolding removed
  removed_gone i taken = choose_f _ taken refl

  pub removed_found : (i : ℕ) {s : Option ℕ} → s ≡ slot_at q i → is_some s ≡ true
      → (i < slot_count)
      × (Ok tt ≡ (removed q i).answer)
      × (record { slots = set q.slots i None; last = q.last } ≡ (removed q i).queue)
  unfolding free_at stored
  removed_found i held some =
      let taken = is_free_some (slot_at q i) (rw held at some) in
      (slot_at-lt q i taken, rw (removed_gone i taken) refl, rw (removed_gone i taken) refl)

  pub removed_none : (i : ℕ) {s : Option ℕ} → s ≡ slot_at q i → is_some s ≡ false
      → (Err Empty ≡ (removed q i).answer) × (q ≡ (removed q i).queue)
  unfolding free_at
  removed_none i held none = rw (removed_empty i (is_free_none (slot_at q i) (rw held at none))) (refl, refl)

  remove_reply_empty : (i : ℕ) → free_at q i ≡ true → remove_reply (removed q i).answer ≡ reply 51 []
  unfolding remove_reply
  remove_reply_empty i free = ap (λ (r : Outcome Removed). remove_reply r.answer) (removed_empty i free)

  remove_reply_gone : (i : ℕ) → free_at q i ≡ false → remove_reply (removed q i).answer ≡ reply 0 []
  unfolding remove_reply
  remove_reply_gone i taken = ap (λ (r : Outcome Removed). remove_reply r.answer) (removed_gone i taken)

  pub remove_reply-accepted : (i : ℕ) → is_free (slot_at q i) ≡ false → remove_reply (removed q i).answer ≡ reply 0 []
  unfolding free_at
  remove_reply-accepted = remove_reply_gone

  -- What an answer `Ok` says: the slot is free.
  pub removed_free : (i : ℕ) → (removed q i).answer ≡ Ok tt → slot_at (removed q i).queue i ≡ None
  unfolding free_at
  removed_free i a =
      if_test (free_at q i)
      (λ free.
      let answer : Err Empty ≡ Ok tt = sym (ap (λ (r : Outcome Removed). r.answer) (removed_empty i free)) ∙ a in
      let never : ◌≡◌ {A = ℕ} 0 1 = cc in
      absurd (omega arith))
      (λ taken.
      ap (λ (r : Outcome Removed). slot_at r.queue i) (removed_gone i taken)
      ∙ slot_at-stored_taken q i None taken)

  pub remove_reply_51 : (i : ℕ)
      → (remove_reply (removed q i).answer ≡ reply 51 []) ↔ (i < slot_count → is_free (slot_at q i) ≡ true)
  unfolding free_at
  remove_reply_51 i = (
    λ e l.
        if_test (is_free (slot_at q i))
        (λ free. free)
        (λ taken. absurd (reply-apart (remove_reply_gone i taken) e (λ z. omega arith))),
    λ free.
        if_lt i slot_count
        (λ l. remove_reply_empty i (free l))
        (λ l. remove_reply_empty i (ap is_free (slot_at_past q i l))),
  )

  pub removed-kept : (i m : ℕ) (vs : List ℕ)
      → remove_reply (removed q i).answer ≡ reply (suc m) vs → (removed q i).queue ≡ q
  removed-kept i m vs e =
      if_test (free_at q i)
      (λ free. ap (λ (r : Outcome Removed). r.queue) (removed_empty i free))
      (λ taken. absurd (reply-apart (remove_reply_gone i taken) e (λ z. omega arith)))
