-- The table tells a repeat wherever the record would count: its period is in range and its unit listed, and
-- of those a table shows whether they stand. Assumes nothing.
use Rattle.std.proofs.Common.{◌≡◌, ℕ, Bool, true, false, not, eqb, List, sym, refl, ap, ◌∙◌, subst, ap₂, arith, eq-eqb, ne_eqb, eqb-true, leb-true, Option, Some, None, Ok, Err}
use mathlib.Core.Bool.{false≢true}
use Rattle.choice.proofs.Splitting.{if_test}
use Rattle.choice.proofs.TestsLaws.{also_t, also_f, also_l, also_r, either_t, either_f, choose_t, choose_f, if_choose}
use Rattle.rules.specs.declared.entry.Entry.{Entry}
use Rattle.rules.specs.declared.record.Reason.{Reason}
use Rattle.rules.specs.declared.record.Reason.TheVariants.{WrongForm, NoUnit, OutOfRange, Repeated}
use Rattle.rules.specs.Outcome.{Outcome}
use Rattle.rules.specs.Bytes.{line, lines_in}
use Rattle.rules.specs.Fields.{kind, unit_number, period, fuelled}
use Rattle.rules.specs.Repeat.{stands, stands_among, repeatable, repeated}
use Rattle.rules.specs.Record.{check, listed, hour_form, anodes_form, moisture_form, hour_range, anodes_ranges, fuel_outcome, hour_judged, hour_outcome, anodes_outcome, unfuelled_outcome, outcome_of, unless_repeated, outcome_after}
use Rattle.rules.specs.Place.{place}
use Rattle.rules.specs.Listing.{Rising}
use Rattle.rules.specs.Table.{has_bit, bit_of, noted, is_table, noting, Known}
use Rattle.rules.specs.Marks.{marked_at, was_noted, told}
use Rattle.rules.proofs.ListingLaws.{listed_at, listed_nothing, place_lt, place-number}
use Rattle.rules.proofs.EntryLaws.{month_in}
use Rattle.rules.proofs.KindLaws.{fuelled-not-hour, fuelled-not_anodes}
use Rattle.rules.proofs.RecordLaws.{check_t, check_f}
use Rattle.rules.proofs.RowLaws.{has_bit-hour, has_bit-month, has_bit_other}
use Rattle.rules.proofs.TableLaws.{Shows, shows_known}

-- ---- what can be a repeat
repeatable-hour : (l : List ℕ) → kind l ≡ 2 → repeatable l ≡ true
unfolding repeatable
repeatable-hour l hourly = either_t _ (eq-eqb _ _ hourly)

repeatable_anodes : (l : List ℕ) → kind l ≡ 4 → repeatable l ≡ true
unfolding repeatable
repeatable_anodes l used = either_f (ne_eqb (kind l) 2 (λ e. omega arith)) (eq-eqb (kind l) 4 used)

has_bit-hour_range : (l : List ℕ) → kind l ≡ 2 → hour_range l ≡ true → has_bit (kind l) (period l) ≡ true
unfolding hour_range
has_bit-hour_range l hourly h =
    has_bit-hour _ _ hourly (leb-true _ _ (also_l _ _ (also_l _ _ h))) (leb-true _ _ (also_r _ _ (also_l _ _ h)))

has_bit-anodes_ranges : (l : List ℕ) → kind l ≡ 4 → anodes_ranges l ≡ true → has_bit (kind l) (period l) ≡ true
has_bit-anodes_ranges l used h = let m = month_in l h in has_bit-month _ _ used m.0 m.1

-- What has no bit isn't in its range.
unfit : {b : Bool} (t : Bool) → b ≡ false → (t ≡ true → b ≡ true) → t ≡ false
unfit t none has = if_test t (λ yes. absurd (false≢true (sym none ∙ has yes))) (λ no. no)

-- ---- one test more
-- What is set aside already stays so.
pub unless_repeated_aside : {o : Outcome} {k : Reason} (b : Bool) → o ≡ Err k → unless_repeated b o ≡ Err k
unfolding unless_repeated
unless_repeated_aside b e = ap (unless_repeated b) e

pub unless_repeated_again : {b : Bool} {o : Outcome} {e : Entry} → b ≡ true → o ≡ Ok e
    → unless_repeated b o ≡ Err Repeated
unfolding unless_repeated
unless_repeated_again {b} again counts = ap (unless_repeated b) counts ∙ check_f Repeated _ (ap not again)

pub unless_repeated-first : {b : Bool} (o : Outcome) → b ≡ false → unless_repeated b o ≡ o
unfolding unless_repeated
unless_repeated-first (Err k) first = refl
unless_repeated-first (Ok e) first = check_t Repeated (ap not first) refl

aside : {o : Outcome} {k : Reason} (a b : Bool) → o ≡ Err k → unless_repeated a o ≡ unless_repeated b o
aside a b e = unless_repeated_aside a e ∙ sym (unless_repeated_aside b e)

module _ (l units t : List ℕ) (before : List (List ℕ)) (so_far : Shows before units t) where
  abbrev found : Option ℕ
  found = place (unit_number l) 0 (lines_in units)

  abbrev Agree : Outcome → Type 0
  Agree o = unless_repeated (was_noted l units t) o ≡ unless_repeated (repeated l before) o

  -- A record of a listed unit, whose period has a bit.
  was_repeated : {j : ℕ} → repeatable l ≡ true → has_bit (kind l) (period l) ≡ true → found ≡ Some j
      → was_noted l units t ≡ repeated l before
  unfolding was_noted marked_at repeated stands_among
  was_repeated {j} once has at =
      also_t has (ap (λ (x : Option ℕ). marked_at x (bit_of (kind l) (period l)) t) at)
      ∙ so_far.shows (kind l) (period l) j has (place_lt (unit_number l) units refl at)
      ∙ ap (λ (u : ℕ). stands (kind l) u (period l) before) (place-number (unit_number l) units refl at)
      ∙ sym (also_t once refl)

  -- It is enough that a record whose period has no bit is set aside.
  agree_listed : (formed : Bool) (rest : List ℕ → Outcome) → repeatable l ≡ true
      → ((u : List ℕ) → has_bit (kind l) (period l) ≡ false → Agree (rest u))
      → Agree (check formed WrongForm (listed (unit_number l) (lines_in units) NoUnit rest))
  agree_listed formed rest once out =
      if_test formed (λ right. go right found refl) (λ wrong. aside _ _ (check_f WrongForm _ wrong))
    where
      whole : Outcome
      whole = check formed WrongForm (listed (unit_number l) (lines_in units) NoUnit rest)

      go : formed ≡ true → (r : Option ℕ) → r ≡ found → Agree whole
      go right None e = aside _ _ (check_t WrongForm right (listed_nothing (unit_number l) NoUnit rest units e refl refl))
      go right (Some j) e =
          if_test (has_bit (kind l) (period l))
          (λ has. ap (λ (b : Bool). unless_repeated b whole) (was_repeated once has (sym e)))
          (λ none. subst Agree (sym (check_t WrongForm right (listed_at (unit_number l) NoUnit rest units e refl refl).1))
          (out (line j units) none))

  -- An hour past the year, and anodes of no month, are set aside.
  out_of_year : kind l ≡ 2 → (u : List ℕ) → has_bit (kind l) (period l) ≡ false → Agree (hour_judged l u)
  unfolding hour_judged
  out_of_year hourly u none =
      if_test (moisture_form l u)
      (λ told. aside _ _ (check_t WrongForm told (check_f OutOfRange _ (unfit (hour_range l) none (has_bit-hour_range l hourly)))))
      (λ told. aside _ _ (check_f WrongForm _ told))

  agree_hour : kind l ≡ 2 → Agree (hour_outcome l (lines_in units))
  unfolding hour_outcome
  agree_hour hourly = agree_listed (hour_form l) (hour_judged l) (repeatable-hour l hourly) (out_of_year hourly)

  agree_anodes : kind l ≡ 4 → Agree (anodes_outcome l (lines_in units))
  unfolding anodes_outcome
  agree_anodes used =
      agree_listed (anodes_form l) _ (repeatable_anodes l used) (λ u none.
      aside _ _ (check_f OutOfRange _ (unfit (anodes_ranges l) none (has_bit-anodes_ranges l used))))

  agree_unfuelled : Agree (unfuelled_outcome l (lines_in units))
  unfolding unfuelled_outcome
  agree_unfuelled =
      if_choose Agree (eqb (kind l) 2) (λ hourly. agree_hour (eqb-true _ _ hourly)) (λ no_hour.
      if_test (eqb (kind l) 4)
      (λ used. subst Agree (sym (check_t WrongForm used refl)) (agree_anodes (eqb-true _ _ used)))
      (λ other. aside _ _ (check_f WrongForm _ other)))

-- ---- what the code gives of a record of no fuel, with a table of the lines before it and without one
module _ {o : Outcome} {m : List ℕ} (before : List (List ℕ)) (l units t : List ℕ) (at : m ≡ l)
    (given : o ≡ unless_repeated (told m units t) (unfuelled_outcome m (lines_in units))) where
  at_line : o ≡ unless_repeated (told l units t) (unfuelled_outcome l (lines_in units))
  at_line = given ∙ λ i. unless_repeated (told (at i) units t) (unfuelled_outcome (at i) (lines_in units))

  pub outcome_by_table : Rising units → Known before units t → is_table units t ≡ true
      → o ≡ unless_repeated (repeated l before) (unfuelled_outcome l (lines_in units))
  unfolding told
  outcome_by_table rising so_far table =
      at_line
      ∙ ap (λ (b : Bool). unless_repeated b (unfuelled_outcome l (lines_in units))) (also_t table refl)
      ∙ agree_unfuelled l units t before (shows_known units rising before t table so_far)

  pub outcome_alone : is_table units t ≡ false → o ≡ unfuelled_outcome l (lines_in units)
  unfolding told
  outcome_alone none = at_line ∙ unless_repeated-first _ (also_f _ none)

-- ---- a record by its kind
module _ (before : List (List ℕ)) (l : List ℕ) (units fuels : List (List ℕ)) where
  -- No fuel record is repeated.
  pub outcome_after-fuel : fuelled l ≡ true → outcome_after before l units fuels ≡ fuel_outcome l units fuels
  unfolding outcome_after outcome_of repeated repeatable
  outcome_after-fuel fuel =
      ap₂ unless_repeated
      (also_f _ (either_f (ne_eqb (kind l) 2 (fuelled-not-hour l fuel)) (ne_eqb (kind l) 4 (fuelled-not_anodes l fuel))))
      (choose_t _ fuel refl)
      ∙ unless_repeated-first (fuel_outcome l units fuels) refl

  pub outcome_after_unfuelled : fuelled l ≡ false
      → outcome_after before l units fuels ≡ unless_repeated (repeated l before) (unfuelled_outcome l units)
  unfolding outcome_after outcome_of
  outcome_after_unfuelled other = ap (unless_repeated (repeated l before)) (choose_f _ other refl)

-- What is neither an hour nor anodes has no bit.
pub noting_other : (l units t : List ℕ) → (kind l ≡ 2 → ⊥) → (kind l ≡ 4 → ⊥) → noting l units t ≡ t
unfolding noting noted
noting_other l units t no_hour no_anodes =
    let none : noted l units t ≡ t = choose_f _ (has_bit_other (kind l) (period l) no_hour no_anodes) refl in
    if_choose (λ (x : List ℕ). x ≡ t) (is_table units t) (λ table. none) (λ no_table. refl)

pub noting-fuel : (l units t : List ℕ) → fuelled l ≡ true → noting l units t ≡ t
noting-fuel l units t fuel = noting_other l units t (fuelled-not-hour l fuel) (fuelled-not_anodes l fuel)
