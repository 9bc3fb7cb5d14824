-- What a record of no fuel gives is CO2 alone. Assumes nothing.
use Rattle.std.proofs.Common.{◌≡◌, ℕ, Bool, false, not, eqb, List, [], ◌∷◌, sym, refl, subst, Ok, Err}
use Rattle.choice.proofs.TestsLaws.{if_choose}
use Rattle.mass.specs.declared.Ug.{Ug}
use Rattle.mass.specs.declared.hour.Hour.{Hour}
use Rattle.mass.specs.declared.hour.Hour.TheVariants.{Usable, Unusable}
use Rattle.rules.specs.declared.book.Head.{Head}
use Rattle.rules.specs.declared.entry.Destination.TheVariants.{Fossil}
use Rattle.rules.specs.declared.record.Reason.{Reason}
use Rattle.rules.specs.declared.record.Reason.TheVariants.{WrongForm, NoUnit, OutOfRange, NoMonitor, Repeated}
use Rattle.rules.specs.Outcome.{Outcome}
use Rattle.rules.specs.Bytes.{line}
use Rattle.rules.specs.Fields.{number, monitored, kind, unit_number, fuelled}
use Rattle.rules.specs.Entry.{co2_alone, hour_entry, anodes_entry}
use Rattle.rules.specs.Record.{check, listed, hour_form, anodes_form, moisture_form, hour_range, anodes_ranges, hour_read, hour_judged, hour_outcome, anodes_outcome, unfuelled_outcome, unless_repeated, outcome_at}
use Rattle.rules.specs.Co2.{Co2Alone}
use Rattle.rules.proofs.OnceLaws.{outcome_after_unfuelled}

-- ---- what such an entry is
pub co2_alone-fossil : (x : Ug) → (co2_alone x).destination ≡ Fossil
unfolding co2_alone
co2_alone-fossil x = refl

pub co2_alone_co2 : (x : Ug) → (co2_alone x).co2 ≡ x
unfolding co2_alone
co2_alone_co2 x = refl

pub co2_alone-ch4 : (x : Ug) → (co2_alone x).ch4.0 ≡ 0
unfolding co2_alone
co2_alone-ch4 x = refl

pub co2_alone-n2o : (x : Ug) → (co2_alone x).n2o.0 ≡ 0
unfolding co2_alone
co2_alone-n2o x = refl

-- ---- one test, and then all of them
co2_check : (t : Bool) (k : Reason) (x : Outcome) → Co2Alone x → Co2Alone (check t k x)
unfolding check
co2_check t k x p = if_choose Co2Alone t (λ passed. p) (λ failed. tt)

co2_listed : (x : ℕ) (k : Reason) (ls : List (List ℕ)) (rest : List ℕ → Outcome) → ((l : List ℕ) → Co2Alone (rest l))
    → Co2Alone (listed x ls k rest)
unfolding listed
co2_listed x k [] rest p = tt
co2_listed x k (y ∷ ls) rest p =
    if_choose Co2Alone (eqb (number y) x) (λ here. p y) (λ further. co2_listed x k ls rest p)

co2_hour_read : (l u : List ℕ) (x : Hour) → Co2Alone (hour_read l u x)
unfolding hour_read hour_entry co2_alone
co2_hour_read l u (Usable r) = co2_check (monitored u) NoMonitor _ refl
co2_hour_read l u (Unusable y) = tt

co2_hour_judged : (l u : List ℕ) → Co2Alone (hour_judged l u)
unfolding hour_judged
co2_hour_judged l u = co2_check (moisture_form l u) WrongForm _ (co2_check (hour_range l) OutOfRange _ (co2_hour_read l u _))

module _ (l : List ℕ) (units : List (List ℕ)) where
  co2_hour_outcome : Co2Alone (hour_outcome l units)
  unfolding hour_outcome
  co2_hour_outcome = co2_check (hour_form l) WrongForm _ (co2_listed (unit_number l) NoUnit units _ (co2_hour_judged l))

  co2_anodes_outcome : Co2Alone (anodes_outcome l units)
  unfolding anodes_outcome anodes_entry co2_alone
  co2_anodes_outcome =
      co2_check (anodes_form l) WrongForm _
      (co2_listed (unit_number l) NoUnit units _ (λ u. co2_check (anodes_ranges l) OutOfRange _ refl))

  co2_unfuelled_outcome : Co2Alone (unfuelled_outcome l units)
  unfolding unfuelled_outcome
  co2_unfuelled_outcome =
      if_choose Co2Alone (eqb (kind l) 2) (λ hourly. co2_hour_outcome)
      (λ other. co2_check (eqb (kind l) 4) WrongForm _ co2_anodes_outcome)

co2_unless_repeated : (b : Bool) (o : Outcome) → Co2Alone o → Co2Alone (unless_repeated b o)
unfolding unless_repeated
co2_unless_repeated b (Err k) p = tt
co2_unless_repeated b (Ok e) p = co2_check (not b) Repeated (Ok e) p

pub co2_outcome_at : (h : Head) (s : List ℕ) (i : ℕ) → fuelled (line i s) ≡ false → Co2Alone (outcome_at h s i)
unfolding outcome_at
co2_outcome_at h s i other =
    subst Co2Alone (sym (outcome_after_unfuelled _ _ _ _ other)) (co2_unless_repeated _ _ (co2_unfuelled_outcome (line i s) _))
