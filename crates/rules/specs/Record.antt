-- What becomes of a record: of its line, the lines before it, the unit lines and the fuel lines. RULES,
-- "Reasons".
--
--     last_reason                   the highest reason
--     check t k rest                rest if t passes, else the record is set aside with reason k
--     listed x ls k rest            rest of the first line of ls with number x; set aside with reason k
--                                   if there is none
--     carbon_form l                 the flag of the carbon, and the bytes from it on, are right
--     fuel_form l, hour_form l, anodes_form l
--                                   reason 1 doesn't apply, the moisture of an hour aside
--     moisture_form l u             nor does it by the moisture: only a dry unit's hour has one
--     heat_limit l, carbon_limit f  the most heat and carbon that the record may give
--     heat_range l f                the heat is in its range, if it was measured
--     gas_range l f                 the fuel is a gas that tells its molar volume, and the analysis is in its ranges
--     carbon_range l f              the carbon is in its range
--     fuel_ranges l f, hour_range l, anodes_ranges l
--                                   reason 4 doesn't apply, the readings of an hour aside
--     fuel_judged l u f             what becomes of a fuel record once unit and fuel are known
--     fuel_outcome l units fuels    what becomes of a fuel record
--     hour_read l u x               what becomes of an hour with its readings judged
--     hour_judged l u               what becomes of an hour once its unit is known
--     hour_outcome l units          what becomes of a monitor hour
--     anodes_outcome l units        what becomes of anodes
--     unfuelled_outcome l units     what becomes of a record that isn't one of fuel
--     outcome_of l units fuels      what becomes of a record by its own line, whatever stands before it
--     unless_repeated b o           o; but a record that would count is set aside if it is repeated
--     outcome_after before l units fuels
--                                   what becomes of a record, the lines before it being `before`
--     outcome_at h s i              what becomes of record i of the book s with the head h
--
-- Laws: proofs/RecordLaws.antt. Definitions only.
use Rattle.std.specs.Prelude.{ℕ, Bool, true, not, nat_lt, nat_le, List, [], ◌∷◌, ◌==◌, nat_eq, Ok, Err}
use Rattle.choice.specs.Tests.{◌also◌, ◌either◌, choose}
use Rattle.mass.specs.declared.hour.Hour.{Hour}
use Rattle.mass.specs.declared.hour.Hour.TheVariants.{Usable, Unusable}
use Rattle.mass.specs.Hour.{hour_of}
use Rattle.rules.specs.declared.book.Head.{Head}
use Rattle.rules.specs.declared.record.Reason.{Reason}
use Rattle.rules.specs.declared.record.Reason.TheVariants.{WrongForm, NoUnit, NoFuel, OutOfRange, NoMonitor, NoMethod, NoHeat, Repeated}
use Rattle.rules.specs.Outcome.{Outcome}
use Rattle.rules.specs.Bytes.{line, lines, lines_in}
use Rattle.rules.specs.Fields.{number, monitored, dry, fuel_kind, fuel_class, molar_volume, kind, flags, unit_number, fuel_number, fuelled, analysed, heat_measured, carbon_flagged, heat_low, month, amount, heat, carbon, fuel_record_blank, molecular_weight, gas_blank, hour, percent_bits, flow_bits, moisture, hour_blank, metal, anode_use, sulphur, ash, other_impurities, anodes_blank}
use Rattle.rules.specs.Book.{unit_lines, fuel_lines}
use Rattle.rules.specs.Method.{method_of}
use Rattle.rules.specs.Entry.{heat_in_use, fuel_entry, hour_entry, impurities, anodes_entry}
use Rattle.rules.specs.Repeat.{repeated}

abbrev pub last_reason : ℕ
last_reason = 8

unfoldable pub check : Bool → Reason → Outcome → Outcome
check t k rest = choose t rest (Err k)

unfoldable pub listed : ℕ → List (List ℕ) → Reason → (List ℕ → Outcome) → Outcome
listed x [] k rest = Err k
listed x (l ∷ ls) k rest = choose (number l == x) (rest l) (listed x ls k rest)

-- ---- reason 1: flags, and bytes that must be 0
-- An analysis tells the carbon always, so that no flag does.
unfoldable pub carbon_form : List ℕ → Bool
carbon_form l =
    choose (analysed l)
    (not (carbon_flagged l) also gas_blank l)
    ((carbon_flagged l either nat_eq (carbon l) 0) also fuel_record_blank l)

-- A low value is a measured one.
unfoldable pub fuel_form : List ℕ → Bool
fuel_form l =
    nat_le (flags l) 7
    also (heat_measured l either not (heat_low l))
    also (heat_measured l either nat_eq (heat l) 0)
    also carbon_form l

unfoldable pub hour_form : List ℕ → Bool
hour_form l = nat_eq (flags l) 0 also nat_eq (fuel_number l) 0 also hour_blank l

unfoldable pub anodes_form : List ℕ → Bool
anodes_form l = nat_eq (flags l) 0 also nat_eq (fuel_number l) 0 also anodes_blank l

unfoldable pub moisture_form : List ℕ → List ℕ → Bool
moisture_form l u = dry u either nat_eq (moisture l) 0

-- ---- reason 4: ranges
unfoldable pub heat_limit : List ℕ → ℕ
heat_limit l = choose (heat_low l) 180000 200000

-- A low value is one of natural gas.
unfoldable pub heat_range : List ℕ → List ℕ → Bool
heat_range l f =
    choose (heat_measured l)
    (nat_le 1 (heat l) also nat_le (heat l) (heat_limit l) also (nat_eq (fuel_class f) 1 either not (heat_low l)))
    true

unfoldable pub carbon_limit : List ℕ → ℕ
carbon_limit f = choose (fuel_kind f == 3) 4000000 1000000

unfoldable pub gas_range : List ℕ → List ℕ → Bool
gas_range l f =
    (fuel_kind f == 3)
    also nat_lt 0 (molar_volume f)
    also nat_le (carbon l) 1000000
    also nat_le 1 (molecular_weight l)
    also nat_le (molecular_weight l) 200000

unfoldable pub carbon_range : List ℕ → List ℕ → Bool
carbon_range l f = choose (analysed l) (gas_range l f) (nat_le (carbon l) (carbon_limit f))

unfoldable pub fuel_ranges : List ℕ → List ℕ → Bool
fuel_ranges l f =
    nat_le 1 (month l)
    also nat_le (month l) 12
    also nat_le (amount l) 100000000
    also heat_range l f
    also carbon_range l f

unfoldable pub hour_range : List ℕ → Bool
hour_range l = nat_le 1 (hour l) also nat_le (hour l) 8784 also nat_le (moisture l) 1000

-- All of the anodes may be impurities, and no more.
unfoldable pub anodes_ranges : List ℕ → Bool
anodes_ranges l =
    nat_le 1 (month l)
    also nat_le (month l) 12
    also nat_le (metal l) 100000000
    also nat_le (anode_use l) 1000
    also nat_le (sulphur l) 10000
    also nat_le (ash l) 10000
    also nat_le (other_impurities l) 10000
    also nat_le (impurities l) 10000

-- ---- fuel records
unfoldable pub fuel_judged : List ℕ → List ℕ → List ℕ → Outcome
fuel_judged l u f =
    check (fuel_ranges l f) OutOfRange
    (check (nat_lt 0 (method_of l u f)) NoMethod
    (check (nat_lt 0 (heat_in_use l f).0) NoHeat
    (Ok (fuel_entry l u f))))

unfoldable pub fuel_outcome : List ℕ → List (List ℕ) → List (List ℕ) → Outcome
fuel_outcome l units fuels =
    check (fuel_form l) WrongForm
    (listed (unit_number l) units NoUnit (λ u.
    listed (fuel_number l) fuels NoFuel (λ f.
    fuel_judged l u f)))

-- ---- monitor hours
unfoldable pub hour_read : List ℕ → List ℕ → Hour → Outcome
hour_read l u (Usable r) = check (monitored u) NoMonitor (Ok (hour_entry l r))
hour_read l u (Unusable x) = Err OutOfRange

unfoldable pub hour_judged : List ℕ → List ℕ → Outcome
hour_judged l u =
    check (moisture_form l u) WrongForm
    (check (hour_range l) OutOfRange
    (hour_read l u (hour_of (percent_bits l) (flow_bits l))))

unfoldable pub hour_outcome : List ℕ → List (List ℕ) → Outcome
hour_outcome l units =
    check (hour_form l) WrongForm
    (listed (unit_number l) units NoUnit (λ u.
    hour_judged l u))

-- ---- anodes
-- Any listed unit will do.
unfoldable pub anodes_outcome : List ℕ → List (List ℕ) → Outcome
anodes_outcome l units =
    check (anodes_form l) WrongForm
    (listed (unit_number l) units NoUnit (λ u.
    check (anodes_ranges l) OutOfRange
    (Ok (anodes_entry l))))

-- ---- a record by itself
unfoldable pub unfuelled_outcome : List ℕ → List (List ℕ) → Outcome
unfuelled_outcome l units =
    choose (kind l == 2) (hour_outcome l units)
    (check (kind l == 4) WrongForm (anodes_outcome l units))

unfoldable pub outcome_of : List ℕ → List (List ℕ) → List (List ℕ) → Outcome
outcome_of l units fuels = choose (fuelled l) (fuel_outcome l units fuels) (unfuelled_outcome l units)

-- ---- reason 8: the same hour or month twice
unfoldable pub unless_repeated : Bool → Outcome → Outcome
unless_repeated b (Err k) = Err k
unless_repeated b (Ok e) = check (not b) Repeated (Ok e)

unfoldable pub outcome_after : List (List ℕ) → List ℕ → List (List ℕ) → List (List ℕ) → Outcome
outcome_after before l units fuels = unless_repeated (repeated l before) (outcome_of l units fuels)

unfoldable pub outcome_at : Head → List ℕ → ℕ → Outcome
outcome_at h s i = outcome_after (lines i s) (line i s) (lines_in (unit_lines h s)) (lines_in (fuel_lines h s))
