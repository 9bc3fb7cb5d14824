-- By a record's own line, every reason but the last is decided: the tests are made in the order of their
-- reasons, and a test that is passed shows that its reason doesn't apply. Assumes nothing.
use Rattle.std.proofs.Common.{◌≡◌, ℕ, ◌+◌, ◌<◌, Bool, true, false, T, eqb, ltb, List, sym, refl, ap, ◌∙◌, subst, ap₂, arith, ltb-false, ltb-true, eqb-true, Ok, Err}
use lib.Ieee.{Float}
use borrow.Author.Tests.{eqb-false}
use Rattle.choice.proofs.TestsLaws.{if_choose}
use Rattle.choice.proofs.Splitting.{if_lt}
use Rattle.mass.specs.declared.hour.Readings.{Readings}
use Rattle.mass.specs.declared.hour.Hour.{Hour}
use Rattle.mass.specs.declared.hour.Hour.TheVariants.{Usable, Unusable}
use Rattle.mass.specs.Hour.{hour_of}
use Rattle.rules.specs.declared.entry.Entry.{Entry}
use Rattle.rules.specs.declared.record.Reason.{Reason}
use Rattle.rules.specs.declared.record.Reason.TheVariants.{WrongForm, NoUnit, NoFuel, OutOfRange, NoMonitor, NoMethod, NoHeat}
use Rattle.rules.specs.Outcome.{reason_number, Outcome}
use Rattle.rules.specs.Fields.{monitored, kind, unit_number, fuel_number, fuelled, percent_bits, flow_bits}
use Rattle.rules.specs.Method.{method_of}
use Rattle.rules.specs.Entry.{heat_in_use, fuel_entry, hour_entry, anodes_entry}
use Rattle.rules.specs.Record.{last_reason, check, fuel_form, hour_form, anodes_form, moisture_form, fuel_ranges, hour_range, anodes_ranges, fuel_judged, fuel_outcome, hour_read, hour_judged, hour_outcome, anodes_outcome, unfuelled_outcome, outcome_of}
use Rattle.rules.specs.Reason.{FuelRecord, MonitorHour, Anodes, Listed, Applies}
use Rattle.rules.proofs.OutcomeLaws.{reason_number-within, reason_number-inj}
use Rattle.rules.proofs.KindLaws.{fuelled-not-hour, fuelled-not_anodes}
use Rattle.rules.proofs.ListedLaws.{if_listed, Once}

pub clash : {t : Bool} → t ≡ true → t ≡ false → ⊥
clash p q = subst T (sym p ∙ q) tt

ltb_zero : (n : ℕ) → ltb 0 n ≡ false → n ≡ 0
ltb_zero n e = let none = ltb-false 0 n e in omega arith

unusable : (r : Readings) (x : Float) → Usable r ≡ Unusable x → ⊥
unusable r x q = let never : ◌≡◌ {A = ℕ} 0 1 = cc in absurd (omega arith)

-- ---- one record
module _ (before : List (List ℕ)) (l : List ℕ) (units fuels : List (List ℕ)) where
  -- No reason with a number below m applies.
  abbrev pub Clear : ℕ → Type 0
  Clear m = (j : Reason) → reason_number j < m → Applies before l units fuels j → ⊥

  clear_one : Clear 1
  clear_one j m a = let least = (reason_number-within j).0 in omega arith

  pub clear_next : (k : Reason) → Clear (reason_number k) → (Applies before l units fuels k → ⊥) → Clear (reason_number k + 1)
  clear_next k clear not j m a =
      if_lt (reason_number j) (reason_number k)
      (λ below. clear j below a)
      (λ up. let same = reason_number-inj j k (omega arith) in not (subst (Applies before l units fuels) same a))

  -- ---- what an outcome says of the reasons below m, and what an entry is made of
  pub record Due (m : ℕ) (e : Entry) : Type 0 where
    pub clear : Clear m
    pub by_fuel : (u f : List ℕ) → FuelRecord l → Listed (unit_number l) units u → Listed (fuel_number l) fuels f
        → e ≡ fuel_entry l u f
    pub by_hour : (r : Readings) → MonitorHour l → hour_of (percent_bits l) (flow_bits l) ≡ Usable r → e ≡ hour_entry l r
    pub by_anodes : Anodes l → e ≡ anodes_entry l

  abbrev pub Decided : ℕ → Outcome → Type 0
  Decided m (Err k) = Applies before l units fuels k × Clear (reason_number k)
  Decided m (Ok e) = Due m e

  -- By the record's own line, every reason but the last.
  abbrev pub Alone : Outcome → Type 0
  Alone o = Decided last_reason o

  -- A test that fails is a ground for its reason.
  alone_check : (t : Bool) (k : Reason) (x : Outcome) → (t ≡ false → Applies before l units fuels k) → Clear (reason_number k)
      → (t ≡ true → Alone x) → Alone (check t k x)
  unfolding check
  alone_check t k x ground clear passed = if_choose Alone t passed (λ failed. (ground failed, clear))

  not_2 : (u : List ℕ) → Listed (unit_number l) units u → Applies before l units fuels NoUnit → ⊥
  not_2 u i (Applies.no_unit n) = n u i

  -- ---- a fuel record
  module _ (p : FuelRecord l) (U : Once units) (F : Once fuels) where
    no_hour : MonitorHour l → ⊥
    no_hour q = fuelled-not-hour l p q

    no_anodes : Anodes l → ⊥
    no_anodes q = fuelled-not_anodes l p q

    fuel-not_1 : fuel_form l ≡ true → Applies before l units fuels WrongForm → ⊥
    fuel-not_1 h (Applies.wrong_kind q r s) = q p
    fuel-not_1 h (Applies.wrong_fuel_form q t) = clash h t
    fuel-not_1 h (Applies.wrong_hour_form q t) = no_hour q
    fuel-not_1 h (Applies.wrong_anodes_form q t) = no_anodes q
    fuel-not_1 h (Applies.wet_moisture v q a t) = no_hour q

    -- The unit's line u and the fuel's line f.
    module _ (u f : List ℕ) (i : Listed (unit_number l) units u) (j : Listed (fuel_number l) fuels f) where
      fuel-not_3 : Applies before l units fuels NoFuel → ⊥
      fuel-not_3 (Applies.no_fuel q n) = n f j

      fuel-not_4 : fuel_ranges l f ≡ true → Applies before l units fuels OutOfRange → ⊥
      fuel-not_4 h (Applies.fuel_outside g q b t) = clash h (ap (fuel_ranges l) (F _ f g j b) ∙ t)
      fuel-not_4 h (Applies.hour_outside q t) = no_hour q
      fuel-not_4 h (Applies.reading_outside x q t) = no_hour q
      fuel-not_4 h (Applies.anodes_outside q t) = no_anodes q

      fuel-not_5 : Applies before l units fuels NoMonitor → ⊥
      fuel-not_5 (Applies.no_monitor v q a t) = no_hour q

      fuel-not_6 : 0 < method_of l u f → Applies before l units fuels NoMethod → ⊥
      fuel-not_6 h (Applies.no_method v g q a b t) =
          let same : method_of l u f ≡ method_of l v g = ap₂ (method_of l) (U _ u v i a) (F _ f g j b) in
          omega arith

      fuel-not_7 : 0 < (heat_in_use l f).0 → Applies before l units fuels NoHeat → ⊥
      fuel-not_7 h (Applies.no_heat g q b t) =
          let same : (heat_in_use l f).0 ≡ (heat_in_use l g).0 = ap (λ (y : List ℕ). (heat_in_use l y).0) (F _ f g j b) in
          omega arith

      due_fuel_entry : Clear last_reason → Due last_reason (fuel_entry l u f)
      due_fuel_entry clear = record {
        clear = clear;
        by_fuel = λ v g q a b. ap₂ (fuel_entry l) (U _ u v i a) (F _ f g j b);
        by_hour = λ r q. absurd (no_hour q);
        by_anodes = λ q. absurd (no_anodes q);
      }

      alone_fuel_judged : Clear 4 → Alone (fuel_judged l u f)
      unfolding fuel_judged
      alone_fuel_judged to-4 =
          alone_check (fuel_ranges l f) OutOfRange _ (λ t. Applies.fuel_outside f p j t) to-4 (λ inside.
          let to-6 = clear_next NoMonitor (clear_next OutOfRange to-4 (fuel-not_4 inside)) fuel-not_5 in
          alone_check (ltb 0 (method_of l u f)) NoMethod _ (λ t. Applies.no_method u f p i j (ltb_zero _ t)) to-6 (λ permitted.
          let to-7 = clear_next NoMethod to-6 (fuel-not_6 (ltb-true _ _ permitted)) in
          alone_check (ltb 0 (heat_in_use l f).0) NoHeat _ (λ t. Applies.no_heat f p j (ltb_zero _ t)) to-7 (λ heated.
          due_fuel_entry (clear_next NoHeat to-7 (fuel-not_7 (ltb-true _ _ heated))))))

    alone_fuel_outcome : Alone (fuel_outcome l units fuels)
    unfolding fuel_outcome
    alone_fuel_outcome =
        alone_check (fuel_form l) WrongForm _ (λ t. Applies.wrong_fuel_form p t) clear_one (λ formed.
        let to-2 = clear_next WrongForm clear_one (fuel-not_1 formed) in
        if_listed Alone (unit_number l) NoUnit units _ (λ n. (Applies.no_unit n, to-2)) (λ u i.
        let to-3 = clear_next NoUnit to-2 (not_2 u i) in
        if_listed Alone (fuel_number l) NoFuel fuels _ (λ n. (Applies.no_fuel p n, to-3)) (λ f j.
        alone_fuel_judged u f i j (clear_next NoFuel to-3 (fuel-not_3 u f i j)))))

  -- ---- a record of no fuel
  module _ (no_fuel : FuelRecord l → ⊥) where
    unfuelled_not_3 : Applies before l units fuels NoFuel → ⊥
    unfuelled_not_3 (Applies.no_fuel q n) = no_fuel q

    unfuelled_not_6 : Applies before l units fuels NoMethod → ⊥
    unfuelled_not_6 (Applies.no_method v g q a b t) = no_fuel q

    unfuelled_not_7 : Applies before l units fuels NoHeat → ⊥
    unfuelled_not_7 (Applies.no_heat g q b t) = no_fuel q

    -- Reasons 6 and 7 are of fuel alone.
    clear_last : Clear 6 → Clear last_reason
    clear_last to-6 = clear_next NoHeat (clear_next NoMethod to-6 unfuelled_not_6) unfuelled_not_7

  -- ---- a monitor hour
  module _ (p : MonitorHour l) (U : Once units) where
    hour_no_fuel : FuelRecord l → ⊥
    hour_no_fuel q = fuelled-not-hour l q p

    hour_no_anodes : Anodes l → ⊥
    hour_no_anodes q = absurd (omega arith)

    -- Where the form is right, reason 1 has no ground but moisture that a line of the unit doesn't permit.
    hour-not_1 : hour_form l ≡ true → ((u : List ℕ) → Listed (unit_number l) units u → moisture_form l u ≡ true)
        → Applies before l units fuels WrongForm → ⊥
    hour-not_1 h m (Applies.wrong_kind q r s) = r p
    hour-not_1 h m (Applies.wrong_fuel_form q t) = hour_no_fuel q
    hour-not_1 h m (Applies.wrong_hour_form q t) = clash h t
    hour-not_1 h m (Applies.wrong_anodes_form q t) = hour_no_anodes q
    hour-not_1 h m (Applies.wet_moisture v q a t) = clash (m v a) t

    -- The unit's line u.
    module _ (u : List ℕ) (i : Listed (unit_number l) units u) where
      hour-not_4 : (r : Readings) → hour_range l ≡ true → hour_of (percent_bits l) (flow_bits l) ≡ Usable r
          → Applies before l units fuels OutOfRange → ⊥
      hour-not_4 r h e (Applies.fuel_outside g q b t) = hour_no_fuel q
      hour-not_4 r h e (Applies.hour_outside q t) = clash h t
      hour-not_4 r h e (Applies.reading_outside x q t) = unusable r x (sym e ∙ t)
      hour-not_4 r h e (Applies.anodes_outside q t) = hour_no_anodes q

      hour-not_5 : monitored u ≡ true → Applies before l units fuels NoMonitor → ⊥
      hour-not_5 h (Applies.no_monitor v q a t) = clash h (ap monitored (U _ u v i a) ∙ t)

      due_hour_entry : (r : Readings) → hour_of (percent_bits l) (flow_bits l) ≡ Usable r → Clear 6 → Due last_reason (hour_entry l r)
      due_hour_entry r e to-6 = record {
        clear = clear_last hour_no_fuel to-6;
        by_fuel = λ v g q. absurd (hour_no_fuel q);
        by_hour = λ x q h. let same : Usable r ≡ Usable x = sym e ∙ h in ap (hour_entry l) cc;
        by_anodes = λ q. absurd (hour_no_anodes q);
      }

      alone_hour_read : (x : Hour) → hour_of (percent_bits l) (flow_bits l) ≡ x → hour_range l ≡ true → Clear 4
          → Alone (hour_read l u x)
      unfolding hour_read
      alone_hour_read (Usable r) e inside to-4 =
          let to-5 = clear_next OutOfRange to-4 (hour-not_4 r inside e) in
          alone_check (monitored u) NoMonitor _ (λ t. Applies.no_monitor u p i t) to-5 (λ measured.
          due_hour_entry r e (clear_next NoMonitor to-5 (hour-not_5 measured)))
      alone_hour_read (Unusable x) e inside to-4 = (Applies.reading_outside x p e, to-4)

      -- The unit has no other line.
      moisture_form_once : moisture_form l u ≡ true → (v : List ℕ) → Listed (unit_number l) units v
          → moisture_form l v ≡ true
      moisture_form_once told v a = ap (moisture_form l) (sym (U _ u v i a)) ∙ told

      alone_hour_judged : hour_form l ≡ true → Alone (hour_judged l u)
      unfolding hour_judged
      alone_hour_judged formed =
          alone_check (moisture_form l u) WrongForm _ (λ t. Applies.wet_moisture u p i t) clear_one (λ told.
          let to-2 = clear_next WrongForm clear_one (hour-not_1 formed (moisture_form_once told)) in
          let to-4 = clear_next NoFuel (clear_next NoUnit to-2 (not_2 u i)) (unfuelled_not_3 hour_no_fuel) in
          alone_check (hour_range l) OutOfRange _ (λ t. Applies.hour_outside p t) to-4 (λ inside.
          alone_hour_read _ refl inside to-4))

    alone_hour_outcome : Alone (hour_outcome l units)
    unfolding hour_outcome
    alone_hour_outcome =
        alone_check (hour_form l) WrongForm _ (λ t. Applies.wrong_hour_form p t) clear_one (λ formed.
        if_listed Alone (unit_number l) NoUnit units _
        (λ n. (Applies.no_unit n, clear_next WrongForm clear_one (hour-not_1 formed (λ v a. absurd (n v a)))))
        (λ u i. alone_hour_judged u i formed))

  -- ---- anodes
  module _ (p : Anodes l) where
    anodes_no_fuel : FuelRecord l → ⊥
    anodes_no_fuel q = fuelled-not_anodes l q p

    anodes_no_hour : MonitorHour l → ⊥
    anodes_no_hour q = absurd (omega arith)

    anodes_not_1 : anodes_form l ≡ true → Applies before l units fuels WrongForm → ⊥
    anodes_not_1 h (Applies.wrong_kind q r s) = s p
    anodes_not_1 h (Applies.wrong_fuel_form q t) = anodes_no_fuel q
    anodes_not_1 h (Applies.wrong_hour_form q t) = anodes_no_hour q
    anodes_not_1 h (Applies.wrong_anodes_form q t) = clash h t
    anodes_not_1 h (Applies.wet_moisture v q a t) = anodes_no_hour q

    anodes_not_4 : anodes_ranges l ≡ true → Applies before l units fuels OutOfRange → ⊥
    anodes_not_4 h (Applies.fuel_outside g q b t) = anodes_no_fuel q
    anodes_not_4 h (Applies.hour_outside q t) = anodes_no_hour q
    anodes_not_4 h (Applies.reading_outside x q t) = anodes_no_hour q
    anodes_not_4 h (Applies.anodes_outside q t) = clash h t

    anodes_not_5 : Applies before l units fuels NoMonitor → ⊥
    anodes_not_5 (Applies.no_monitor v q a t) = anodes_no_hour q

    due_anodes_entry : Clear 6 → Due last_reason (anodes_entry l)
    due_anodes_entry to-6 = record {
      clear = clear_last anodes_no_fuel to-6;
      by_fuel = λ v g q. absurd (anodes_no_fuel q);
      by_hour = λ r q. absurd (anodes_no_hour q);
      by_anodes = λ q. refl;
    }

    alone_anodes_outcome : Alone (anodes_outcome l units)
    unfolding anodes_outcome
    alone_anodes_outcome =
        alone_check (anodes_form l) WrongForm _ (λ t. Applies.wrong_anodes_form p t) clear_one (λ formed.
        let to-2 = clear_next WrongForm clear_one (anodes_not_1 formed) in
        if_listed Alone (unit_number l) NoUnit units _ (λ n. (Applies.no_unit n, to-2)) (λ u i.
        let to-4 = clear_next NoFuel (clear_next NoUnit to-2 (not_2 u i)) (unfuelled_not_3 anodes_no_fuel) in
        alone_check (anodes_ranges l) OutOfRange _ (λ t. Applies.anodes_outside p t) to-4 (λ inside.
        due_anodes_entry (clear_next NoMonitor (clear_next OutOfRange to-4 (anodes_not_4 inside)) anodes_not_5))))

  -- ---- any record, by itself
  pub alone_outcome_of : Once units → Once fuels → Alone (outcome_of l units fuels)
  unfolding outcome_of unfuelled_outcome
  alone_outcome_of U F =
      if_choose Alone (fuelled l) (λ fuel. alone_fuel_outcome fuel U F) (λ no_fuel.
      if_choose Alone (eqb (kind l) 2) (λ hour. alone_hour_outcome (eqb-true _ _ hour) U) (λ no_hour.
      alone_check (eqb (kind l) 4) WrongForm _
      (λ t. Applies.wrong_kind (λ q. clash q no_fuel) (eqb-false _ _ no_hour) (eqb-false _ _ t)) clear_one
      (λ used. alone_anodes_outcome (eqb-true _ _ used))))
