-- The turn of a book with records left that isn't removed comes within 16: each turn that passes it by, cut
-- or not, brings the round nearer to its slot. Assumes nothing.
use Prim.Native.Nat.{ℕ, zero, suc, ◌-◌, ◌<◌, ◌≤◌}
use mathlib.Core.Bool.{false, true≢false}
use mathlib.Core.List.{List, [], ◌∷◌, ◌++◌}
use mathlib.Core.List.Memᴰ
use mathlib.Core.List.{Memᴰ}
use mathlib.Core.Path.{◌≡◌, refl, ap, sym, ◌∙◌}
use native.Mathlib.Omega.{arith}
use lib.ListN.{length, take, length-append}
use Rattle.choice.proofs.Splitting.{if_test, if_lt, if_eq}
use Rattle.std.specs.Prelude.{Some, None, Err}
use Rattle.queue.specs.declared.slots.Queue.{Queue}
use Rattle.queue.specs.declared.reply.Refusal.{Refusal}
use Rattle.queue.specs.declared.reply.Refusal.TheVariants.{NoBudget, NothingLeft}
use Rattle.queue.specs.Reply.{Added, Removed, Turned, Outcome}
use Rattle.queue.specs.Slots.{slot_count, slot_at, is_free, left_in, free_at, stored}
use Rattle.queue.specs.Books.{lowest_free, added, removed}
use Rattle.queue.specs.Round.{onward, passed_over, next_up, moved_at, served, turned}
use Rattle.queue.specs.Calls.{Call, add, remove, turn, cut, cut_short, after, slot_served, served_by, servings, after_all}
use Rattle.queue.proofs.SlotsLaws.{is_free_left, slot_at-lt, length-stored, slot_at-stored_other}
use Rattle.queue.proofs.BooksLaws.{lowest_free_free, added_at, added_full, removed_empty, removed_gone}
use Rattle.queue.proofs.RoundLaws.{away_of, onward_away_of, next_up-onward, passed_over-le}
use Rattle.queue.proofs.RoundLaws.{turned_no_budget, turned_nothing_left, turned-served}

-- ---- one call
-- A call that doesn't remove the book in slot s serves no slot, or it is a turn that serves the next up.
data Step (q : Queue) (s : ℕ) (x : Call) : Type 0 where
  still : served_by q x ≡ [] → (after q x).last ≡ q.last → slot_at (after q x) s ≡ slot_at q s → Step q s x
  serves : served_by q x ≡ next_up q ∷ [] → (after q x).last ≡ next_up q
      → ((s ≡ next_up q → ⊥) → slot_at (after q x) s ≡ slot_at q s) → Step q s x

last_added : (q : Queue) (n : ℕ) → (added q n).queue.last ≡ q.last
unfolding stored
last_added q n =
    if_lt (lowest_free q) slot_count
    (λ l. ap (λ (r : Outcome Added). r.queue.last) (added_at q n l))
    (λ l. ap (λ (r : Outcome Added). r.queue.last) (added_full q n l))

last_removed : (q : Queue) (i : ℕ) → (removed q i).queue.last ≡ q.last
unfolding stored
last_removed q i =
    if_test (free_at q i)
    (λ free. ap (λ (r : Outcome Removed). r.queue.last) (removed_empty q i free))
    (λ taken. ap (λ (r : Outcome Removed). r.queue.last) (removed_gone q i taken))

step_add : (q : Queue) (s n : ℕ) → is_free (slot_at q s) ≡ false → Step q s (add n)
step_add q s n taken =
    still refl (last_added q n)
    (if_lt (lowest_free q) slot_count
    (λ l.
    let apart : s ≡ lowest_free q → ⊥ =
    λ same. true≢false (sym (ap (λ (i : ℕ). is_free (slot_at q i)) same ∙ lowest_free_free q l) ∙ taken) in
    ap (λ (r : Outcome Added). slot_at r.queue s) (added_at q n l)
    ∙ slot_at-stored_other q (lowest_free q) s (Some n) apart)
    (λ l. ap (λ (r : Outcome Added). slot_at r.queue s) (added_full q n l)))

step_remove : (q : Queue) (s i : ℕ) → (remove i ≡ remove s → ⊥) → Step q s (remove i)
step_remove q s i apart =
    still refl (last_removed q i)
    (if_test (free_at q i)
    (λ free. ap (λ (r : Outcome Removed). slot_at r.queue s) (removed_empty q i free))
    (λ taken.
    ap (λ (r : Outcome Removed). slot_at r.queue s) (removed_gone q i taken)
    ∙ slot_at-stored_other q i s None (λ same. apart (ap remove (sym same)))))

step_turn : (q : Queue) (s b : ℕ) → Step q s (turn b)
unfolding slot_at served
step_turn q s b =
    if_eq b 0
    (λ none. refused NoBudget (turned_no_budget q b none))
    (λ some.
    if_lt (passed_over q) slot_count
    (λ l.
    let e = turned-served q b some l in
    serves
    (ap (λ (r : Outcome Turned). slot_served r.answer) e)
    (ap (λ (r : Outcome Turned). r.queue.last) e)
    (λ apart. ap (λ (r : Outcome Turned). slot_at r.queue s) e ∙ slot_at-stored_other q (next_up q) s _ apart))
    (λ l. refused NothingLeft (turned_nothing_left q b some l)))
  where
    refused : (x : Refusal) → turned q b ≡ record { answer = Err x; queue = q } → Step q s (turn b)
    refused x e =
        still (ap (λ (r : Outcome Turned). slot_served r.answer) e)
        (ap (λ (r : Outcome Turned). r.queue.last) e)
        (ap (λ (r : Outcome Turned). slot_at r.queue s) e)

-- A turn that is cut passes the round on as the turn does, and leaves every slot.
pub slot_at-cut_short : (q : Queue) (s b : ℕ) → slot_at (cut_short q b) s ≡ slot_at q s
unfolding slot_at cut_short
slot_at-cut_short q s b = refl

pub last_cut_short : (q : Queue) (b : ℕ) → (cut_short q b).last ≡ (turned q b).queue.last
unfolding cut_short
last_cut_short q b = refl

step_cut : (q : Queue) (s b : ℕ) → Step q s (turn b) → Step q s (cut b)
step_cut q s b (still none last slot) = still none (last_cut_short q b ∙ last) (slot_at-cut_short q s b)
step_cut q s b (serves one last slot) = serves one (last_cut_short q b ∙ last) (λ apart. slot_at-cut_short q s b)

step : (q : Queue) (s : ℕ) (x : Call) → is_free (slot_at q s) ≡ false → (x ≡ remove s → ⊥) → Step q s x
step q s (add n) taken apart = step_add q s n taken
step q s (remove i) taken apart = step_remove q s i apart
step q s (turn b) taken apart = step_turn q s b
step q s (cut b) taken apart = step_cut q s b (step_turn q s b)

-- ---- the round comes nearer
onward-same : (q p : Queue) (d : ℕ) → p.last ≡ q.last → onward p d ≡ onward q d
unfolding onward
onward-same q p d e = omega arith

onward_nearer : (q p : Queue) (k d : ℕ) → p.last ≡ onward q k → k < d → onward p (d - k - 1) ≡ onward q d
unfolding onward
onward_nearer q p k d e l = omega arith

-- A turn that serves another slot stops before that of s.
passed_over-lt : (q : Queue) (s d : ℕ) → onward q d ≡ s → 0 < left_in (slot_at q s) → (s ≡ next_up q → ⊥)
    → passed_over q < d
passed_over-lt q s d at some apart =
    if_lt (passed_over q) d
    (λ l. l)
    (λ l.
    let same : d ≡ passed_over q = omega (arith, passed_over-le q d (rw at some)) in
    absurd (apart (sym at ∙ ap (onward q) same ∙ sym (next_up-onward q))))

-- Among m servings there is that of slot s, wherever the round stands less than m places before it.
abbrev Within : ℕ → List Call → Type 0
Within s xs =
    (q : Queue) (d m : ℕ) → d < m → onward q d ≡ s → 0 < left_in (slot_at q s) → m ≤ length (servings q xs)
    → Memᴰ s (take m (servings q xs))

one_more : (q : Queue) (s d m : ℕ) (x : Call) (xs : List Call)
    → Within s xs → Step q s x → d < m → onward q d ≡ s → 0 < left_in (slot_at q s)
    → m ≤ length (served_by q x ++ servings (after q x) xs)
    → Memᴰ s (take m (served_by q x ++ servings (after q x) xs))
one_more q s d m x xs rest (still none last slot) near at some enough =
    let more = rw none at enough in
    rw none (rest (after q x) d m near (onward-same q (after q x) d last ∙ at) (rw slot some) more)
one_more q s d zero x xs rest (serves one last slot) near at some enough = absurd (omega arith)
one_more q s d (suc m) x xs rest (serves one last slot) near at some enough =
    let more = rw one at enough in
    rw one
    (if_eq s (next_up q)
    (λ own. Memᴰ.head own)
    (λ apart.
    let short : passed_over q < d = passed_over-lt q s d at some apart in
    let nearer = onward_nearer q (after q x) (passed_over q) d (last ∙ next_up-onward q) short ∙ at in
    Memᴰ.tail
    (rest (after q x) (d - passed_over q - 1) m (omega arith) nearer (rw (slot apart) some) (omega arith))))

servings_within : (s : ℕ) (xs : List Call) → (Memᴰ (remove s) xs → ⊥) → Within s xs
unfolding servings
servings_within s [] stays q d m near at some enough = absurd (omega arith)
servings_within s (x ∷ xs) stays q d m near at some enough =
    one_more q s d m x xs
    (servings_within s xs (λ i. stays (Memᴰ.tail i)))
    (step q s x (is_free_left (slot_at q s) some) (λ e. stays (Memᴰ.head (sym e))))
    near at some enough

-- Every slot is less than 16 places on.
pub servings_sixteen : (q : Queue) (s : ℕ) (xs : List Call)
    → 0 < left_in (slot_at q s) → (Memᴰ (remove s) xs → ⊥)
    → slot_count ≤ length (servings q xs) → Memᴰ s (take slot_count (servings q xs))
servings_sixteen q s xs some stays enough =
    let l = slot_at-lt q s (is_free_left (slot_at q s) some) in
    servings_within s xs stays q (away_of q s) slot_count (omega arith) (onward_away_of q s l) some enough

-- ---- a book that is neither removed nor served stays as it is, also with 0 left
slot_at_still : (q : Queue) (s : ℕ) (x : Call) → Step q s x → (Memᴰ s (served_by q x) → ⊥)
    → slot_at (after q x) s ≡ slot_at q s
slot_at_still q s x (still none last slot) missed = slot
slot_at_still q s x (serves one last slot) missed = slot (λ own. missed (rw one (Memᴰ.head own)))

pub slot_at-after : (q : Queue) (s : ℕ) (x : Call) → is_free (slot_at q s) ≡ false → (x ≡ remove s → ⊥)
    → (Memᴰ s (served_by q x) → ⊥) → slot_at (after q x) s ≡ slot_at q s
slot_at-after q s x taken apart missed = slot_at_still q s x (step q s x taken apart) missed

pub slot_at-after_all : (q : Queue) (s : ℕ) (xs : List Call) → is_free (slot_at q s) ≡ false
    → (Memᴰ (remove s) xs → ⊥) → (Memᴰ s (servings q xs) → ⊥) → slot_at (after_all q xs) s ≡ slot_at q s
unfolding servings after_all
slot_at-after_all q s [] taken stays missed = refl
slot_at-after_all q s (x ∷ xs) taken stays missed =
    let same =
    slot_at-after q s x taken (λ e. stays (Memᴰ.head (sym e)))
    (λ i. missed (Memᴰ.append_left (servings (after q x) xs) i)) in
    slot_at-after_all (after q x) s xs (ap is_free same ∙ taken) (λ i. stays (Memᴰ.tail i))
    (λ i. missed (Memᴰ.append_right (served_by q x) i))
    ∙ same

-- ---- until a turn has come, the round stands as it did
last_still : (q : Queue) (s : ℕ) (x : Call) → Step q s x → length (served_by q x) ≡ 0 → (after q x).last ≡ q.last
last_still q s x (still none last slot) few = last
last_still q s x (serves one last slot) few = let some = ap length one in absurd (omega arith)

last_after : (q : Queue) (x : Call) → length (served_by q x) ≡ 0 → (after q x).last ≡ q.last
last_after q (add n) few = last_added q n
last_after q (remove i) few = last_removed q i
last_after q (turn b) few = last_still q 0 (turn b) (step_turn q 0 b) few
last_after q (cut b) few = last_still q 0 (cut b) (step_cut q 0 b (step_turn q 0 b)) few

pub last_after_all : (q : Queue) (xs : List Call) → length (servings q xs) ≡ 0 → (after_all q xs).last ≡ q.last
unfolding servings after_all
last_after_all q [] few = refl
last_after_all q (x ∷ xs) few =
    let both = length-append (served_by q x) (servings (after q x) xs) in
    last_after_all (after q x) xs (omega arith) ∙ last_after q x (omega arith)

-- ---- no call changes how many slots there are
length-served : (q : Queue) (i b : ℕ) → length (served q i b).queue.slots ≡ length q.slots
unfolding served
length-served q i b = length-stored q i (Some (left_in (slot_at q i) - moved_at q i b))

length-cut_short : (q : Queue) (b : ℕ) → length (cut_short q b).slots ≡ length q.slots
unfolding cut_short
length-cut_short q b = refl

length-after : (q : Queue) (x : Call) → length (after q x).slots ≡ length q.slots
length-after q (add n) =
    if_lt (lowest_free q) slot_count
    (λ l. ap (λ (r : Outcome Added). length r.queue.slots) (added_at q n l) ∙ length-stored q (lowest_free q) (Some n))
    (λ l. ap (λ (r : Outcome Added). length r.queue.slots) (added_full q n l))
length-after q (remove i) =
    if_test (free_at q i)
    (λ free. ap (λ (r : Outcome Removed). length r.queue.slots) (removed_empty q i free))
    (λ taken. ap (λ (r : Outcome Removed). length r.queue.slots) (removed_gone q i taken) ∙ length-stored q i None)
length-after q (turn b) =
    if_eq b 0
    (λ none. ap (λ (r : Outcome Turned). length r.queue.slots) (turned_no_budget q b none))
    (λ some.
    if_lt (passed_over q) slot_count
    (λ l. ap (λ (r : Outcome Turned). length r.queue.slots) (turned-served q b some l) ∙ length-served q (next_up q) b)
    (λ l. ap (λ (r : Outcome Turned). length r.queue.slots) (turned_nothing_left q b some l)))
length-after q (cut b) = length-cut_short q b

pub length-after_all : (q : Queue) (xs : List Call) → length (after_all q xs).slots ≡ length q.slots
unfolding after_all
length-after_all q [] = refl
length-after_all q (x ∷ xs) = length-after_all (after q x) xs ∙ length-after q x
