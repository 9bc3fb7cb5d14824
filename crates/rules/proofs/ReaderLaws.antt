-- The sight of each answer and of each record, that it is of one answer only, and that a way through
-- a book by steps ends, with a table that follows it. Assumes nothing.
use Rattle.std.proofs.Common.{◌≡◌, ℕ, ◌+◌, ◌-◌, ◌<◌, ◌≤◌, eqb, ltb, List, length, replicate, sym, refl, ap, ◌∙◌, subst, arith, ltb-false, lt-ltb, Option, Some, None, Result, Ok, Err}
use Rattle.choice.specs.Tests.{choose}
use Rattle.choice.proofs.Splitting.{if_test}
use Rattle.choice.proofs.TestsLaws.{choose_t, choose_f, if_choose, worked-out}
use Rattle.rules.specs.declared.book.Head.{Head}
use Rattle.rules.specs.declared.book.Fault.{Fault}
use Rattle.rules.specs.declared.book.Fault.TheVariants.{Length, Trailer, Units, Fuels}
use Rattle.rules.specs.declared.entry.Entry.{Entry}
use Rattle.rules.specs.Outcome.{reason_number, Outcome}
use Rattle.rules.specs.Bytes.{line, lines}
use Rattle.rules.specs.Book.{unit_lines, Answer, refused, accepted, opened, fault_number}
use Rattle.rules.specs.Record.{last_reason, outcome_at}
use Rattle.rules.specs.Bounds.{Bounded}
use Rattle.rules.specs.Reader.{Shown, numbered, Sight, turned_away, missing, shown, sight_by, sight_at, sight, left_by, left_from, place_after}
use Rattle.rules.specs.Table.{noting, noting_by, noting_at, Known, KnownAt}
use Rattle.rules.proofs.BookLaws.{Accepted, accepted_facts}
use Rattle.rules.proofs.NumberLaws.{opened-number}
use Rattle.rules.proofs.TableLaws.{known-blank, known_next}
use Rattle.rules.proofs.RecordLaws.{bounded_outcome_at}

-- ---- the sight of each answer
pub sight-refused : (x : Fault) → sight (Err x) ≡ turned_away (fault_number x)
unfolding sight
sight-refused x = refl

pub sight-missing : sight (Ok None) ≡ missing
unfolding sight
sight-missing = refl

pub sight_record : (o : Shown) → sight (Ok (Some o)) ≡ shown o
unfolding sight
sight_record o = refl

-- What is seen of a sound book, by what is known of it.
pub seen_known : {r : Result (Option Shown) Fault} {x y : Option Shown} → r ≡ Ok x → x ≡ y → r ≡ Ok y
seen_known e d = e ∙ ap Ok d

-- ---- a record of an accepted book
pub sight_at-shown : (s : List ℕ) (h : Head) (i : ℕ) → opened s ≡ accepted h → i < h.n
    → sight_at s i ≡ shown (numbered (outcome_at h s i))
unfolding sight_at sight_by
sight_at-shown s h i e l =
    ap (λ (a : Answer). sight_by a s i) e ∙ choose_t missing (lt-ltb i h.n l) refl

-- ---- what holds of every refusal, of no record, and of every outcome holds of every sight
module _ (P : Sight → Type 0) (s : List ℕ) (i : ℕ) where
  pub sight_at-each : ((n : ℕ) → 20 ≤ n → n ≤ 23 → P (turned_away n)) → P missing
      → ((k : ℕ) → 1 ≤ k → k ≤ last_reason → P (shown (Err k))) → ((e : Entry) → Bounded (Ok e) → P (shown (Ok e)))
      → P (sight_at s i)
  unfolding sight_at sight_by numbered
  sight_at-each refuse none aside count = at (opened s) refl
    where
      show : (o : Outcome) → Bounded o → P (shown (numbered o))
      show (Err k) w = aside (reason_number k) w.0 w.1
      show (Ok e) w = count e w

      at : (a : Answer) → opened s ≡ a → P (sight_by a s i)
      at (refused n) e = let range = opened-number s n e in refuse n range.0 range.1
      at (accepted h) e =
          if_choose P (ltb i h.n) (λ l. show (outcome_at h s i) (bounded_outcome_at h s i e)) (λ l. none)

-- ---- one answer only
-- What `look` gave, from the sight that it stands for.
gave : Sight → Result (Option Shown) Fault
gave (turned_away n) =
    choose (eqb n 20) (Err Length)
    (choose (eqb n 21) (Err Trailer)
    (choose (eqb n 22) (Err Units)
    (Err Fuels)))
gave missing = Ok None
gave (shown o) = Ok (Some o)

gave_sight : (r : Result (Option Shown) Fault) → gave (sight r) ≡ r
unfolding gave sight
gave_sight (Err Length) = simp worked-out
gave_sight (Err Trailer) = simp worked-out
gave_sight (Err Units) = simp worked-out
gave_sight (Err Fuels) = simp worked-out
gave_sight (Ok None) = refl
gave_sight (Ok (Some o)) = refl

pub sight_inj : (r s : Result (Option Shown) Fault) → sight r ≡ sight s → r ≡ s
sight_inj r s e = sym (gave_sight r) ∙ ap gave e ∙ gave_sight s

-- ---- a way through a book by steps
-- While a record is left after a step, the place has moved on: a book is longer than it has records.
falls : (s : List ℕ) (i : ℕ) (a : Answer) → opened s ≡ a → 0 < left_by a (place_after s i)
    → left_by a (place_after s i) < left_by a i
unfolding left_by place_after
falls s i (refused x) e = λ some. omega (arith, some)
falls s i (accepted h) e =
    let facts : Accepted s h = accepted_facts s h e in
    if_choose (λ (j : ℕ). 0 < h.n - j → h.n - j < h.n - i) (ltb i (length s))
    (λ _ some. omega (arith, some))
    (λ past some.
    omega (arith, some, ltb-false i (length s) past, facts.length_is, facts.n_is, facts.units_le, facts.fuels_le))

pub left_from-place_after-lt : (s : List ℕ) (i : ℕ) {j k : ℕ} → j ≡ place_after s i → k ≡ left_from s j → (k ≡ 0 → ⊥)
    → left_from s j < left_from s i
unfolding left_from
left_from-place_after-lt s i {j} after left some =
    subst (λ (x : ℕ). 0 < left_from s x → left_from s x < left_from s i) (sym after) (falls s i (opened s) refl)
    (omega (arith, left, some))

-- ---- a table that follows a reader
pub known_at_blank : (s : List ℕ) (n : ℕ) → KnownAt s 0 (replicate n 0)
known_at_blank s n = record { of_book = λ h e l. known-blank s (unit_lines h s) n }

-- Noted at i, it is known at the place after.
pub known_at_place_after : {j : ℕ} {t' : List ℕ} (s : List ℕ) (i : ℕ) (t : List ℕ) → j ≡ place_after s i
    → t' ≡ noting_at s i t → KnownAt s i t → KnownAt s j t'
unfolding place_after noting_at noting_by
known_at_place_after {j} {t'} s i t after noted so_far = record { of_book = λ h e l. of_book h e l (accepted_facts s h e) }
  where
    of_book : (h : Head) → opened s ≡ accepted h → j ≤ h.n → Accepted s h → Known (lines j s) (unit_lines h s) t'
    of_book h e l facts =
        if_test (ltb i (length s))
        (λ on.
        let next : j ≡ i + 1 = after ∙ choose_t _ on refl in
        let there : i < h.n = omega arith in
        let told : t' ≡ noting (line i s) (unit_lines h s) t =
        noted ∙ ap (λ (a : Answer). noting_by a s i t) e ∙ choose_t _ (lt-ltb i h.n there) refl in
        subst (λ (x : List ℕ). Known (lines j s) (unit_lines h s) x) (sym told)
        (subst (λ (x : ℕ). Known (lines x s) (unit_lines h s) (noting (line i s) (unit_lines h s) t)) (sym next)
        (known_next s (unit_lines h s) t i (so_far.of_book h e (omega arith)))))
        (λ past.
        let same : j ≡ i = after ∙ choose_f _ past refl in
        absurd (omega (arith, same, l, ltb-false i (length s) past, facts.length_is, facts.n_is, facts.units_le, facts.fuels_le)))
