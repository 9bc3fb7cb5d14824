-- The sums worked by hand, P1 to P12, as one table under one claim: fuel 1 is a gas of 38,000 kJ, 50,000
-- mg CO2, 900 µg CH4 and 90 µg N2O a MJ, and 1,000 m3 of it are burned in unit 1. Assumes nothing.
use Rattle.std.proofs.Common.{◌≡◌, ℕ, ◌*◌, true, false, List, [], ◌∷◌, ◌++◌, replicate, refl, ap, ◌∙◌, Ok, Err}
use Rattle.choice.proofs.TestsLaws.{choose-true, worked-out}
use Rattle.mass.specs.declared.Ug.{Ug}
use Rattle.mass.specs.declared.Ng.{Ng}
use Rattle.mass.specs.declared.hour.Readings.{Readings}
use Rattle.mass.specs.declared.hour.Hour.{Hour}
use Rattle.mass.specs.declared.hour.Hour.TheVariants.{Usable}
use Rattle.mass.specs.Hour.{readings_of, rounded_product, hour_mass}
use Rattle.mass.specs.Ledger.{tonne}
use Rattle.mass.specs.Figures.{decisive, must_report}
use Rattle.mass.proofs.Cases as mass
use Rattle.rules.specs.declared.entry.Destination.TheVariants.{Fossil}
use Rattle.rules.specs.declared.record.Reason.TheVariants.{NoMethod}
use Rattle.rules.specs.Outcome.{Outcome}
use Rattle.rules.specs.Bytes.{word, bytes_of}
use Rattle.rules.specs.Fields.{moisture}
use Rattle.rules.specs.Method.{method_of}
use Rattle.rules.specs.Entry.{measured_heat, heat_in_use, co2_by_carbon, co2_by, destination_by, entry_by, fuel_entry, co2_alone, hour_entry}
use Rattle.rules.specs.Record.{check, listed, carbon_form, fuel_form, hour_form, moisture_form, heat_limit, heat_range, carbon_limit, carbon_range, fuel_ranges, hour_range, fuel_judged, fuel_outcome, hour_read, hour_judged, hour_outcome, unfuelled_outcome, outcome_of}

-- ---- lines
-- a unit line by its flags and rating
abbrev unit : ℕ → ℕ → List ℕ
unit flags rating = bytes_of 2 1 ++ bytes_of 2 flags ++ bytes_of 4 rating ++ replicate 24 0

-- fuel 1, of a class
abbrev fuel : ℕ → List ℕ
fuel class =
    bytes_of 2 1 ++ bytes_of 1 3 ++ bytes_of 1 class ++ bytes_of 4 38000
    ++ bytes_of 4 50000 ++ bytes_of 4 900 ++ bytes_of 4 90 ++ replicate 12 0

-- ---- records
-- 1,000 m3 of fuel 1 burned in unit 1, by the unit's rating, the fuel's class, and the record's flags,
-- measured heat and carbon
abbrev pub burned : ℕ → ℕ → ℕ → ℕ → ℕ → Outcome
burned rating class flags heat carbon =
    outcome_of
    (1 ∷ flags ∷ bytes_of 2 1 ++ bytes_of 2 1 ++ bytes_of 2 6
    ++ bytes_of 4 1000 ++ bytes_of 4 heat ++ bytes_of 4 carbon ++ replicate 12 0)
    (unit 0 rating ∷ [])
    (fuel class ∷ [])

-- an hour of unit 1, which has a monitor, by its two bit patterns
abbrev pub measured : ℕ → ℕ → Outcome
measured percent flow =
    outcome_of (2 ∷ 0 ∷ bytes_of 2 1 ++ bytes_of 2 0 ++ bytes_of 2 1 ++ bytes_of 4 percent ++ bytes_of 4 flow ++ replicate 16 0)
    (unit 1 2500 ∷ [])
    (fuel 1 ∷ [])

-- an entry to the fossil ledger: CO2 in µg, CH4 and N2O in ng
abbrev pub counted : ℕ → ℕ → ℕ → ℕ → Outcome
counted method co2 ch4 n2o = Ok (record {
  method = method;
  destination = Fossil;
  co2 = record { 0 = co2 };
  ch4 = record { 0 = ch4 };
  n2o = record { 0 = n2o };
})

-- ---- the table
pub record WorkedSums : Type 0 where
  --                rating class flags heat carbon
  pub p1 : burned 2500 1 0 0 0 ≡ counted 1 1900000000000 34200000000 3420000000
  pub p2 : burned 2500 1 1 39000 0 ≡ counted 2 1950000000000 35100000000 3510000000
  pub p3 : burned 2500 1 2 0 520000 ≡ counted 3 1905280000000 34200000000 3420000000
  pub p4 : burned 2501 1 0 0 0 ≡ Err NoMethod
  pub p5 : burned 2501 1 1 39000 0 ≡ counted 2 1950000000000 35100000000 3510000000
  pub p6 : burned 2501 0 1 39000 0 ≡ Err NoMethod
  -- 12.5 and 2,000,000
  pub p7 : measured 0x4148_0000 0x49F4_2400 ≡ counted 0 12950000000000 0 0
  -- 0.25 and 0.25
  pub p8 : measured 0x3E80_0000 0x3E80_0000 ≡ counted 0 32116 0 0
  pub p8_R : rounded_product 1000 (readings_of 0x3E80_0000 0x3E80_0000) ≡ 62
  -- 0.75 and 0.25
  pub p9 : measured 0x3F40_0000 0x3E80_0000 ≡ counted 0 97384 0 0
  pub p9_R : rounded_product 1000 (readings_of 0x3F40_0000 0x3E80_0000) ≡ 188
  -- the CO2 equivalent, and the biomass CO2 in it
  pub p10 : must_report (10000 * tonne) 0 ≡ true
  pub p11 : must_report (24999 * tonne) (16000 * tonne) ≡ false
  pub p11_left : decisive (24999 * tonne) (16000 * tonne) ≡ 9999 * tonne
  pub p12 : must_report (25000 * tonne) (16000 * tonne) ≡ true

-- An entry by its masses, and an hour by its readings.
fuelled : {m co2 ch4 n2o : ℕ} {x : Ug} {y z : Ng} → x ≡ record { 0 = co2 } → y ≡ record { 0 = ch4 } → z ≡ record { 0 = n2o }
    → Ok (record { method = m; destination = Fossil; co2 = x; ch4 = y; n2o = z }) ≡ counted m co2 ch4 n2o
fuelled {m} p q r = λ i. Ok (record { method = m; destination = Fossil; co2 = p i; ch4 = q i; n2o = r i })

metered : (l : List ℕ) {x : Hour} {r : Readings} {co2 : ℕ} → x ≡ Usable r
    → hour_mass (record { 0 = moisture l }) r ≡ record { 0 = co2 } → hour_read l (unit 1 2500) x ≡ counted 0 co2 0 0
unfolding bytes_of hour_read hour_entry co2_alone check
metered l usable weighed =
    ap (hour_read l (unit 1 2500)) usable ∙ choose-true _ _ ∙ fuelled weighed refl refl

pub worked_sums : WorkedSums
unfolding
    outcome_of unfuelled_outcome check listed word bytes_of
    fuel_outcome carbon_form fuel_form fuel_ranges heat_range heat_limit carbon_range carbon_limit fuel_judged method_of fuel_entry
    destination_by co2_by_carbon co2_by entry_by heat_in_use measured_heat
    hour_outcome hour_form moisture_form hour_range hour_judged
worked_sums = record {
  p1 = simp worked-out (fuelled mass.p1_co2 mass.p1_ch4 mass.p1_n2o);
  p2 = simp worked-out (fuelled mass.p2_co2 mass.p2_ch4 mass.p2_n2o);
  p3 = simp worked-out (fuelled mass.p3_co2 mass.p1_ch4 mass.p1_n2o);
  p4 = simp worked-out;
  p5 = simp worked-out (fuelled mass.p2_co2 mass.p2_ch4 mass.p2_n2o);
  p6 = simp worked-out;
  p7 = simp worked-out (metered _ mass.p7_usable mass.p7_mass);
  p8 = simp worked-out (metered _ mass.p8_usable mass.p8_mass);
  p8_R = mass.p8_rounded;
  p9 = simp worked-out (metered _ mass.p9_usable mass.p9_mass);
  p9_R = mass.p9_rounded;
  p10 = mass.p10_reports;
  p11 = mass.p11_reports;
  p11_left = mass.p11_decisive;
  p12 = mass.p12_reports;
}
