-- What a slot holds after a store; a slot that is taken is one of the 16. Assumes nothing.
use Prim.Native.Nat.{ℕ, ◌<◌, ◌≤◌}
use mathlib.Core.Bool.{true, false, true≢false}
use mathlib.Core.Path.{◌≡◌, refl, ap, sym, ◌∙◌}
use native.Mathlib.Omega.{arith}
use lib.Dec.{ltb}
use lib.ListN.{length, get_or, length-set, length-replicate, get_or-eq_default}
use lib.Seq.{get_or-set_same, get_or-set_other}
use borrow.Author.Tests.{lt-ltb, le-ltb}
use Rattle.choice.specs.Tests.{choose}
use Rattle.choice.proofs.Splitting.{if_lt}
use Rattle.choice.proofs.TestsLaws.{choose_t, choose_f}
use Rattle.std.specs.Prelude.{Option, Some, None, is_some}
use Rattle.queue.specs.declared.slots.Queue.{Queue}
use Rattle.queue.specs.Slots.{slot_count, empty_queue, slot_at, is_free, left_in, stored}

-- ---- one slot
pub is_free_left : (s : Option ℕ) → 0 < left_in s → is_free s ≡ false
is_free_left None some = absurd (omega arith)
is_free_left (Some n) some = refl

pub is_free_some : (s : Option ℕ) → is_some s ≡ true → is_free s ≡ false
is_free_some None some = sym some
is_free_some (Some n) some = refl

pub is_free_none : (s : Option ℕ) → is_some s ≡ false → is_free s ≡ true
is_free_none None none = refl
is_free_none (Some n) none = sym none

pub slot_at_within : (q : Queue) (i : ℕ) → i < slot_count
    → slot_at q i ≡ get_or q.slots i None
unfolding slot_at
slot_at_within q i l = choose_t None (lt-ltb i slot_count l) refl

pub slot_at_past : (q : Queue) (i : ℕ) → slot_count ≤ i → slot_at q i ≡ None
unfolding slot_at
slot_at_past q i l = choose_f (get_or q.slots i None) (le-ltb i slot_count l) refl

pub slot_at_beyond : (q : Queue) (i : ℕ) → length q.slots ≤ i → slot_at q i ≡ None
slot_at_beyond q i m =
    if_lt i slot_count
    (λ l. slot_at_within q i l ∙ get_or-eq_default q.slots None m)
    (λ l. slot_at_past q i l)

-- ---- a slot that is taken
pub slot_at-lt : (q : Queue) (i : ℕ) → is_free (slot_at q i) ≡ false → i < slot_count
slot_at-lt q i taken =
    if_lt i slot_count (λ l. l) (λ l. absurd (true≢false (sym (ap is_free (slot_at_past q i l)) ∙ taken)))

slot_at-length : (q : Queue) (i : ℕ) → is_free (slot_at q i) ≡ false → i < length q.slots
slot_at-length q i taken =
    if_lt i (length q.slots)
    (λ l. l)
    (λ l.
    let none = ap is_free (get_or-eq_default q.slots None l) in
    absurd (true≢false (sym none ∙ sym (ap is_free (slot_at_within q i (slot_at-lt q i taken))) ∙ taken)))

-- ---- the queue at the start
pub length-empty_queue : length empty_queue.slots ≡ slot_count
unfolding empty_queue
length-empty_queue = length-replicate {A = Option ℕ} slot_count None

-- ---- a store
pub length-stored : (q : Queue) (i : ℕ) (s : Option ℕ) → length (stored q i s).slots ≡ length q.slots
unfolding stored
length-stored q i s = length-set q.slots i s

pub slot_at-stored_other : (q : Queue) (i j : ℕ) (s : Option ℕ) → (j ≡ i → ⊥)
    → slot_at (stored q i s) j ≡ slot_at q j
unfolding slot_at stored
slot_at-stored_other q i j s apart =
    ap (λ (s : Option ℕ). choose (ltb j slot_count) s None)
    (get_or-set_other q.slots i j s None apart)

pub slot_at-stored : (q : Queue) (i : ℕ) (s : Option ℕ) → i < slot_count → i < length q.slots
    → slot_at (stored q i s) i ≡ s
unfolding stored
slot_at-stored q i s l m =
    slot_at_within (stored q i s) i l
    ∙ get_or-set_same q.slots i s None m

pub slot_at-stored_taken : (q : Queue) (i : ℕ) (s : Option ℕ) → is_free (slot_at q i) ≡ false
    → slot_at (stored q i s) i ≡ s
slot_at-stored_taken q i s taken = slot_at-stored q i s (slot_at-lt q i taken) (slot_at-length q i taken)
