-- What a turn comes to in each of its cases, and what its answer says. Assumes nothing.
use Prim.Native.Nat.{ℕ, suc, ◌+◌, ◌-◌, ◌*◌, ◌%◌, ◌<◌, ◌≤◌, min, zero-le}
use lib.ListN.{get_or, set, length-map}
use Rattle.std.proofs.lemmas.List.FromFn.{length-range_with_len, get_or-map-range_with_len}
use mathlib.Core.Bool.{false}
use mathlib.Core.List.{List, [], ◌∷◌}
use mathlib.Core.Logic.{◌↔◌}
use mathlib.Core.Path.{◌≡◌, refl, ap, sym, ◌∙◌}
use native.Mathlib.Omega.{arith}
use borrow.Author.Tests.{lt-ltb, le-ltb, eq-eqb, ne_eqb, ltb-true, ltb-false}
use Rattle.choice.proofs.Splitting.{if_lt, if_eq}
use Rattle.choice.proofs.TestsLaws.{choose_t, choose_f}
use Rattle.job.specs.Reply.{reply}
use Rattle.std.specs.Prelude.{Option, Some, None, Ok, Err, MatchOption, map, length}
use Rattle.std.specs.List.{AllWithin, HoldsAt, range_with_len}
use Rattle.queue.specs.declared.slots.Queue.{Queue}
use Rattle.queue.specs.declared.reply.Refusal.TheVariants.{NoBudget, NothingLeft}
use Rattle.queue.specs.declared.reply.Served.{Served}
use Rattle.queue.specs.Reply.{Turned, serving, Outcome}
use Rattle.queue.specs.Slots.{slot_count, empty_queue, slot_at, left_in, stored}
use Rattle.queue.specs.Reply.{turn_reply}
use Rattle.queue.specs.Round.{onward, due_at, passed_over, next_up, moved_at, served, turned}
use Rattle.queue.proofs.LowestLaws.{lowest_unique, lowest-none, lowest-true, lowest-false, lowest-le}
use Rattle.queue.proofs.SlotsLaws.{is_free_left, slot_at-lt, slot_at-stored_taken}
use Rattle.queue.proofs.ReplyLaws.{reply-apart}

-- What an answer `Ok (serving s m)` says: s is the first in the round with records left, and m of them moved.
pub record TurnedAt (q : Queue) (b s m : ℕ) : Type 0 where
  pub place : ℕ
  pub place_lt : place < slot_count
  pub there : s ≡ onward q place
  pub none_before : (j : ℕ) → j < place → left_in (slot_at q (onward q j)) ≡ 0
  pub left : 0 < left_in (slot_at q s)
  pub moved : m ≡ min b (left_in (slot_at q s))
  pub holds : slot_at (turned q b).queue s ≡ Some (left_in (slot_at q s) - m)
  pub last : (turned q b).queue.last ≡ s

module _ (q : Queue) where
  -- ---- places in the round
  pub onward-lt : (k : ℕ) → onward q k < slot_count
  unfolding onward
  onward-lt k = omega arith

  -- How far on slot i is in the round.
  abbrev pub away_of : ℕ → ℕ
  away_of i = (i + 15 * (q.last + 1)) % 16

  pub onward_away_of : (i : ℕ) → i < slot_count → onward q (away_of i) ≡ i
  unfolding onward
  onward_away_of i l = omega arith

  -- As long as the round stands as at the start, a slot's place is its number.
  onward-start : q.last ≡ empty_queue.last → (i : ℕ) → i < slot_count → onward q i ≡ i
  unfolding onward empty_queue
  onward-start start i l = omega arith

  -- ---- the slot that a turn serves
  pub next_up-onward : next_up q ≡ onward q (passed_over q)
  unfolding next_up
  next_up-onward = refl

  due_at-none : (k : ℕ) → due_at q k ≡ false → left_in (slot_at q (onward q k)) ≡ 0
  unfolding due_at
  due_at-none k e = omega (arith, ltb-false 0 (left_in (slot_at q (onward q k))) e)

  passed_over_left : passed_over q < slot_count → 0 < left_in (slot_at q (next_up q))
  unfolding passed_over next_up due_at
  passed_over_left l = ltb-true _ _ (lowest-true (due_at q) slot_count l)

  passed_over-before : (k : ℕ) → k < passed_over q → left_in (slot_at q (onward q k)) ≡ 0
  unfolding passed_over
  passed_over-before k l = due_at-none k (lowest-false (due_at q) slot_count k l)

  -- A turn goes no further than a place with records left.
  pub passed_over-le : (k : ℕ) → 0 < left_in (slot_at q (onward q k)) → passed_over q ≤ k
  unfolding passed_over due_at
  passed_over-le k some = lowest-le (due_at q) slot_count k (lt-ltb _ _ some)

  passed_over-none : ((i : ℕ) → i < slot_count → left_in (slot_at q i) ≡ 0) → passed_over q ≡ slot_count
  unfolding passed_over due_at
  passed_over-none none =
      lowest-none (due_at q) slot_count (λ k l. omega (arith, le-ltb, none (onward q k) (onward-lt k)))

  -- Every slot has its place in the round.
  passed_over-all : slot_count ≤ passed_over q → (i : ℕ) → i < slot_count → left_in (slot_at q i) ≡ 0
  passed_over-all l i m = let none = passed_over-before (away_of i) (omega arith) in rw (onward_away_of i m) at none

  passed_over_some : (i : ℕ) → 0 < left_in (slot_at q i) → passed_over q < slot_count
  passed_over_some i some =
      let l = slot_at-lt q i (is_free_left (slot_at q i) some) in
      omega (arith, passed_over-le (away_of i) (rw (onward_away_of i l) some))

  passed_over_unique : (d : ℕ) → d < slot_count → 0 < left_in (slot_at q (onward q d))
      → ((j : ℕ) → j < d → left_in (slot_at q (onward q j)) ≡ 0) → passed_over q ≡ d
  unfolding passed_over due_at
  passed_over_unique d l some none =
      lowest_unique (due_at q) slot_count d l (lt-ltb _ _ some) (λ j m. omega (arith, le-ltb, none j m))

  -- ---- a turn, by cases
  pub turned_no_budget : (b : ℕ) → b ≡ 0 → turned q b ≡ record { answer = Err NoBudget; queue = q }
  unfolding turned
  turned_no_budget b none = choose_t _ (eq-eqb b 0 none) refl

  pub turned_nothing_left : (b : ℕ) → (b ≡ 0 → ⊥) → slot_count ≤ passed_over q
      → turned q b ≡ record { answer = Err NothingLeft; queue = q }
  unfolding turned
  turned_nothing_left b some l = choose_f _ (ne_eqb b 0 some) (choose_f _ (le-ltb (passed_over q) slot_count l) refl)

  pub turned-served : (b : ℕ) → (b ≡ 0 → ⊥) → passed_over q < slot_count → turned q b ≡ served q (next_up q) b
  unfolding turned
  turned-served b some l = choose_f _ (ne_eqb b 0 some) (choose_t _ (lt-ltb (passed_over q) slot_count l) refl)

  -- ---- what the code gives in each case
  pub turned-zero : (b : ℕ) → b ≡ 0 → (Err NoBudget ≡ (turned q b).answer) × (q ≡ (turned q b).queue)
  turned-zero b none = rw (turned_no_budget b none) (refl, refl)

  pub turned_none : (b : ℕ) → (b ≡ 0 → ⊥) → slot_count ≤ passed_over q
      → (Err NothingLeft ≡ (turned q b).answer) × (q ≡ (turned q b).queue)
  turned_none b some l = rw (turned_nothing_left b some l) (refl, refl)

  -- In the slot i that was found so many records are left, and m of them move.
  module _ (b i : ℕ) (some : b ≡ 0 → ⊥) (found : (i ≡ next_up q) × (passed_over q < slot_count)) where
    pub found-lt : i < slot_count
    found-lt = rw (found.0, next_up-onward) (onward-lt (passed_over q))

    pub turned_found : (left m : ℕ) → left ≡ left_in (slot_at q i) → m ≡ min b left
        → (Ok (serving i m) ≡ (turned q b).answer)
        × (record { slots = set q.slots i (Some (left - m)); last = i } ≡ (turned q b).queue)
    unfolding served moved_at stored
    turned_found left m e d = rw (turned-served b some found.1, d, e, found.0) (refl, refl)

  -- ---- the places of the round, as the code goes through them
  abbrev pub places : List ℕ
  places = map (λ i. i % 16) (range_with_len (q.last + 1) 16)

  length-places : length places ≡ slot_count
  length-places = length-map (range_with_len (q.last + 1) 16) (λ i. i % 16) ∙ length-range_with_len (q.last + 1) 16

  get_or-places : (k d : ℕ) → k < slot_count → get_or places k d ≡ onward q k
  unfolding onward
  get_or-places k d l = get_or-map-range_with_len (λ i. i % 16) (q.last + 1) 16 k (q.last + 1 + k) d l refl

  -- What a search of them answers.
  abbrev NoneLeft : ℕ → Type 0
  NoneLeft k = AllWithin (λ i. left_in (slot_at q i) ≡ 0) places 0 k

  none-left : (n k : ℕ) → n ≤ slot_count → NoneLeft n → k < n → left_in (slot_at q (onward q k)) ≡ 0
  none-left n k few none l = rw (get_or-places k 0 (omega arith)) at (none k 0 zero-le l)

  passed_over-full : ((k : ℕ) → k < slot_count → left_in (slot_at q (onward q k)) ≡ 0) → passed_over q ≡ slot_count
  unfolding passed_over due_at
  passed_over-full none = lowest-none (due_at q) slot_count (λ k l. omega (arith, le-ltb, none k l))

  pub passed_over_found : (r : Option ℕ)
      → MatchOption r (NoneLeft (length places))
      (λ x. (0 < left_in (slot_at q x)) × (k : ℕ) × (k < length places) × HoldsAt (λ y. y ≡ x) places k × NoneLeft k)
      → MatchOption r (slot_count ≤ passed_over q) (λ i. (i ≡ next_up q) × (passed_over q < slot_count))
  passed_over_found None none =
      let long = length-places in
      omega (arith, passed_over-full (λ k l. none-left (length places) k (omega arith) none (omega arith)))
  passed_over_found (Some x) (some, k, within, at, none) =
      let long = length-places in
      let few : k < slot_count = omega arith in
      let here : onward q k ≡ x = sym (get_or-places k 0 few) ∙ at 0 in
      let found = passed_over_unique k few (rw (sym here) at some) (λ j m. none-left k j (omega arith) none m) in
      (sym (next_up-onward ∙ ap (onward q) found ∙ here), omega arith)

  turn_reply_no_budget : (b : ℕ) → b ≡ 0 → turn_reply (turned q b).answer ≡ reply 52 []
  unfolding turn_reply
  turn_reply_no_budget b none = ap (λ (r : Outcome Turned). turn_reply r.answer) (turned_no_budget b none)

  turn_reply_nothing_left : (b : ℕ) → (b ≡ 0 → ⊥) → slot_count ≤ passed_over q
      → turn_reply (turned q b).answer ≡ reply 53 []
  unfolding turn_reply
  turn_reply_nothing_left b some l = ap (λ (r : Outcome Turned). turn_reply r.answer) (turned_nothing_left b some l)

  turn_reply-served : (b : ℕ) → (b ≡ 0 → ⊥) → passed_over q < slot_count
      → turn_reply (turned q b).answer ≡ reply 0 (next_up q ∷ moved_at q (next_up q) b ∷ [])
  unfolding turn_reply served
  turn_reply-served b some l = ap (λ (r : Outcome Turned). turn_reply r.answer) (turned-served b some l)

  -- ---- a turn that no refusal meets
  pub turn_reply-accepted : (b i : ℕ) → 1 ≤ b → 0 < left_in (slot_at q i)
      → (s : ℕ) × (m : ℕ) × (turn_reply (turned q b).answer ≡ reply 0 (s ∷ m ∷ []))
  turn_reply-accepted b i some left =
      (next_up q, moved_at q (next_up q) b, turn_reply-served b (λ none. omega arith) (passed_over_some i left))

  -- In the first round it goes to the lowest slot with records left.
  pub turn_reply-lowest : q.last ≡ empty_queue.last → (b s : ℕ) → 1 ≤ b → 0 < left_in (slot_at q s)
      → ((i : ℕ) → i < s → left_in (slot_at q i) ≡ 0)
      → turn_reply (turned q b).answer ≡ reply 0 (s ∷ min b (left_in (slot_at q s)) ∷ [])
  unfolding moved_at
  turn_reply-lowest start b s some left none =
      let l = slot_at-lt q s (is_free_left (slot_at q s) left) in
      let here : next_up q ≡ s =
      next_up-onward
      ∙ ap (onward q) (passed_over_unique s l (rw (onward-start start s l) left)
      (λ i m. rw (onward-start start i (omega arith)) (none i m)))
      ∙ onward-start start s l in
      turn_reply-served b (λ none. omega arith) (passed_over_some s left)
      ∙ ap (λ (i : ℕ). reply 0 (i ∷ min b (left_in (slot_at q i)) ∷ [])) here

  -- ---- what a turn answers
  -- Only a turn that goes to the next one up names a slot.
  turned_goes : (b s m : ℕ) → (turned q b).answer ≡ Ok (serving s m)
      → (passed_over q < slot_count) × (turned q b ≡ served q (next_up q) b)
  turned_goes b s m a =
      if_eq b 0
      (λ none. never (Err NoBudget) (turned_no_budget b none) (λ e. cc))
      (λ some.
      if_lt (passed_over q) slot_count
      (λ l. (l, turned-served b some l))
      (λ l. never (Err NothingLeft) (turned_nothing_left b some l) (λ e. cc)))
    where
      never : (x : Turned) → turned q b ≡ record { answer = x; queue = q } → (x ≡ Ok (serving s m) → ◌≡◌ {A = ℕ} 0 1)
          → (passed_over q < slot_count) × (turned q b ≡ served q (next_up q) b)
      never x e other = absurd (let z = other (sym (ap (λ (r : Outcome Turned). r.answer) e) ∙ a) in omega arith)

  slot_at-served : (i b : ℕ) → 0 < left_in (slot_at q i)
      → slot_at (served q i b).queue i ≡ Some (left_in (slot_at q i) - moved_at q i b)
  unfolding slot_at served
  slot_at-served i b some = slot_at-stored_taken q i _ (is_free_left (slot_at q i) some)

  pub turned_next : (b s m : ℕ) → (turned q b).answer ≡ Ok (serving s m) → TurnedAt q b s m
  unfolding served moved_at
  turned_next b s m a =
      let goes = turned_goes b s m a in
      let answer : Ok (serving (next_up q) (moved_at q (next_up q) b)) ≡ Ok (serving s m) =
      sym (ap (λ (r : Outcome Turned). r.answer) goes.1) ∙ a in
      let same : serving (next_up q) (moved_at q (next_up q) b) ≡ serving s m = cc in
      let here : next_up q ≡ s = ap (λ (x : Served). x.slot) same in
      let moves : moved_at q (next_up q) b ≡ m = ap (λ (x : Served). x.moved) same in
      let some = passed_over_left goes.0 in
      let after = ap (λ (r : Outcome Turned). slot_at r.queue (next_up q)) goes.1 ∙ slot_at-served (next_up q) b some in
      record {
        place = passed_over q;
        place_lt = goes.0;
        there = sym here ∙ next_up-onward;
        none_before = passed_over-before;
        left = rw here at some;
        moved = sym moves ∙ ap (λ (i : ℕ). min b (left_in (slot_at q i))) here;
        holds = rw (moves, here) at after;
        last = ap (λ (r : Outcome Turned). r.queue.last) goes.1 ∙ here;
      }

  -- Wherever in the round s is, no slot before it has records left.
  pub turned-before : (b s m d j : ℕ) → (turned q b).answer ≡ Ok (serving s m) → s ≡ (q.last + 1 + d) % slot_count
      → d < slot_count → j < d → left_in (slot_at q ((q.last + 1 + j) % slot_count)) ≡ 0
  unfolding onward
  turned-before b s m d j a at l before =
      let goes = turned_next b s m a in
      let there = goes.there in
      let few = goes.place_lt in
      goes.none_before j (omega arith)

  pub turn_reply_52 : (b : ℕ) → (turn_reply (turned q b).answer ≡ reply 52 []) ↔ (b ≡ 0)
  turn_reply_52 b = (
    λ e.
        if_eq b 0
        (λ none. none)
        (λ some.
        if_lt (passed_over q) slot_count
        (λ l. absurd (reply-apart (turn_reply-served b some l) e (λ z. omega arith)))
        (λ l. absurd (reply-apart (turn_reply_nothing_left b some l) e (λ z. omega arith)))),
    turn_reply_no_budget b,
  )

  pub turn_reply_53 : (b : ℕ)
      → (turn_reply (turned q b).answer ≡ reply 53 [])
      ↔ ((b ≡ 0 → ⊥) × ((i : ℕ) → i < slot_count → left_in (slot_at q i) ≡ 0))
  turn_reply_53 b = (
    λ e.
        if_eq b 0
        (λ none. absurd (reply-apart (turn_reply_no_budget b none) e (λ z. omega arith)))
        (λ some.
        if_lt (passed_over q) slot_count
        (λ l. absurd (reply-apart (turn_reply-served b some l) e (λ z. omega arith)))
        (λ l. (some, passed_over-all l))),
    λ h. turn_reply_nothing_left b h.0 (omega (arith, passed_over-none h.1)),
  )

  pub turned-kept : (b m : ℕ) (vs : List ℕ)
      → turn_reply (turned q b).answer ≡ reply (suc m) vs → (turned q b).queue ≡ q
  turned-kept b m vs e =
      if_eq b 0
      (λ none. ap (λ (r : Outcome Turned). r.queue) (turned_no_budget b none))
      (λ some.
      if_lt (passed_over q) slot_count
      (λ l. absurd (reply-apart (turn_reply-served b some l) e (λ z. omega arith)))
      (λ l. ap (λ (r : Outcome Turned). r.queue) (turned_nothing_left b some l)))
