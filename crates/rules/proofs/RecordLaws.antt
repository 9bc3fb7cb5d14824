-- What becomes of a record, test by test, and that it is a reason or a bounded entry. Assumes nothing.
use Rattle.std.proofs.Common.{◌≡◌, ℕ, Bool, true, false, not, eqb, ltb, List, [], ◌∷◌, refl, Ok, Err}
use Rattle.choice.specs.Tests.{choose}
use Rattle.choice.proofs.TestsLaws.{also_l, also_r, choose_t, choose_f, if_choose}
use Rattle.mass.specs.declared.hour.Hour.{Hour}
use Rattle.mass.specs.declared.hour.Hour.TheVariants.{Usable, Unusable}
use Rattle.mass.specs.Hour.{hour_of}
use Rattle.mass.proofs.HourLaws.{in_range_of_hour_of}
use Rattle.rules.specs.declared.book.Head.{Head}
use Rattle.rules.specs.declared.record.Reason.{Reason}
use Rattle.rules.specs.declared.record.Reason.TheVariants.{OutOfRange, Repeated}
use Rattle.rules.specs.Outcome.{Outcome}
use Rattle.rules.specs.Bytes.{line, lines_in}
use Rattle.rules.specs.Fields.{number, monitored, kind, unit_number, fuel_number, fuelled, percent_bits, flow_bits}
use Rattle.rules.specs.Book.{unit_ok, fuel_ok, lines_ok, lines_sound, unit_lines, fuel_lines, opened, accepted}
use Rattle.rules.specs.Method.{method_of}
use Rattle.rules.specs.Entry.{heat_in_use}
use Rattle.rules.specs.Record.{check, listed, fuel_form, hour_form, anodes_form, moisture_form, fuel_ranges, hour_range, anodes_ranges, fuel_judged, fuel_outcome, hour_read, hour_judged, hour_outcome, anodes_outcome, unfuelled_outcome, outcome_of, unless_repeated, outcome_after, outcome_at}
use Rattle.rules.specs.Bounds.{Bounded}
use Rattle.rules.proofs.OutcomeLaws.{reason_number-within}
use Rattle.rules.proofs.BookLaws.{accepted_facts}
use Rattle.rules.proofs.EntryLaws.{bounded_fuel_entry, bounded_hour_entry, bounded_anodes_entry}

-- ---- one test
pub check_t : {t : Bool} {x r : Outcome} (k : Reason) → t ≡ true → x ≡ r → check t k x ≡ r
unfolding check
check_t k p q = choose_t _ p q

pub check_f : {t : Bool} (k : Reason) (x : Outcome) → t ≡ false → check t k x ≡ Err k
unfolding check
check_f k x p = choose_f _ p refl

-- ---- whatever the book, an outcome is bounded
bounded_check : (t : Bool) (k : Reason) (x : Outcome) → (t ≡ true → Bounded x) → Bounded (check t k x)
unfolding check
bounded_check t k x w = if_choose Bounded t w (λ failed. reason_number-within k)

chosen : (a b : Outcome) (t : Bool) → Bounded a → Bounded b → Bounded (choose t a b)
chosen a b t p q = if_choose Bounded t (λ yes. p) (λ no. q)

-- Whatever the line found, it is one that breaks no rule.
bounded_listed : (ok : List ℕ → Bool) (x : ℕ) (k : Reason) (before : ℕ) (ls : List (List ℕ)) (rest : List ℕ → Outcome)
    → lines_ok ok before ls ≡ true → ((l : List ℕ) → ok l ≡ true → Bounded (rest l)) → Bounded (listed x ls k rest)
unfolding listed lines_ok
bounded_listed ok x k before [] rest h w = reason_number-within k
bounded_listed ok x k before (y ∷ ls) rest h w =
    chosen _ _ (eqb (number y) x) (w y (also_r _ _ (also_l _ _ h)))
    (bounded_listed ok x k (number y) ls rest (also_r _ _ h) w)

bounded_fuel_judged : (l u f : List ℕ) → fuel_ok f ≡ true → Bounded (fuel_judged l u f)
unfolding fuel_judged
bounded_fuel_judged l u f k =
    bounded_check (fuel_ranges l f) _ _ (λ ranges.
    bounded_check (ltb 0 (method_of l u f)) _ _ (λ permitted.
    bounded_check (ltb 0 (heat_in_use l f).0) _ _ (λ heated.
    bounded_fuel_entry l u f ranges k)))

bounded_hour_read : (l u : List ℕ) (p q : ℕ) (x : Hour) → hour_of p q ≡ x → Bounded (hour_read l u x)
unfolding hour_read
bounded_hour_read l u p q (Usable r) e =
    bounded_check (monitored u) _ _ (λ measured. bounded_hour_entry l r (in_range_of_hour_of p q r e))
bounded_hour_read l u p q (Unusable y) e = reason_number-within OutOfRange

bounded_hour_judged : (l u : List ℕ) → Bounded (hour_judged l u)
unfolding hour_judged
bounded_hour_judged l u =
    bounded_check (moisture_form l u) _ _ (λ formed.
    bounded_check (hour_range l) _ _ (λ in_range.
    bounded_hour_read l u (percent_bits l) (flow_bits l) _ refl))

module _ (l units fuels : List ℕ) (U : lines_sound unit_ok units ≡ true) (F : lines_sound fuel_ok fuels ≡ true) where
  bounded_fuel_outcome : Bounded (fuel_outcome l (lines_in units) (lines_in fuels))
  unfolding fuel_outcome lines_sound
  bounded_fuel_outcome =
      bounded_check (fuel_form l) _ _ (λ formed.
      bounded_listed unit_ok (unit_number l) _ 0 (lines_in units) _ (also_r _ _ U) (λ u unit.
      bounded_listed fuel_ok (fuel_number l) _ 0 (lines_in fuels) _ (also_r _ _ F) (λ f fuel.
      bounded_fuel_judged l u f fuel)))

  bounded_hour_outcome : Bounded (hour_outcome l (lines_in units))
  unfolding hour_outcome lines_sound
  bounded_hour_outcome =
      bounded_check (hour_form l) _ _ (λ formed.
      bounded_listed unit_ok (unit_number l) _ 0 (lines_in units) _ (also_r _ _ U) (λ u unit.
      bounded_hour_judged l u))

  bounded_anodes_outcome : Bounded (anodes_outcome l (lines_in units))
  unfolding anodes_outcome lines_sound
  bounded_anodes_outcome =
      bounded_check (anodes_form l) _ _ (λ formed.
      bounded_listed unit_ok (unit_number l) _ 0 (lines_in units) _ (also_r _ _ U) (λ u unit.
      bounded_check (anodes_ranges l) _ _ (λ ranges.
      bounded_anodes_entry l ranges)))

  pub bounded_outcome_of : Bounded (outcome_of l (lines_in units) (lines_in fuels))
  unfolding outcome_of unfuelled_outcome
  bounded_outcome_of =
      chosen _ _ (fuelled l) bounded_fuel_outcome
      (chosen _ _ (eqb (kind l) 2) bounded_hour_outcome
      (bounded_check (eqb (kind l) 4) _ _ (λ used. bounded_anodes_outcome)))

bounded_unless_repeated : (b : Bool) (o : Outcome) → Bounded o → Bounded (unless_repeated b o)
unfolding unless_repeated
bounded_unless_repeated b (Err k) w = w
bounded_unless_repeated b (Ok e) w = bounded_check (not b) Repeated (Ok e) (λ first. w)

pub bounded_outcome_at : (h : Head) (s : List ℕ) (i : ℕ) → opened s ≡ accepted h → Bounded (outcome_at h s i)
unfolding outcome_at outcome_after
bounded_outcome_at h s i e =
    let k = accepted_facts s h e in
    bounded_unless_repeated _ _
    (bounded_outcome_of (line i s) (unit_lines h s) (fuel_lines h s) k.units_sound k.fuels_sound)
