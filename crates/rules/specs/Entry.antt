-- What a record that counts gives to the ledgers. RULES, "Fuel", "Analysed gas", "Monitor hours",
-- "Anodes" and "Ledgers".
--
--     measured_heat l         the heat that the record gives: 1.11 times it where it is a low value
--     heat_in_use l f         the measured heat if flagged, else the fuel's default
--     co2_by_carbon l f       CO2 of the record l of the fuel f by its carbon
--     co2_by m l f            CO2 of the record l of the fuel f by method m
--     destination_by m f      the ledger that this CO2 goes to
--     entry_by m l f          what the record l of the fuel f gives by method m
--     fuel_entry l u f        what a fuel record gives
--     co2_alone x             what a record of no fuel gives: x to the fossil ledger. It has no method, told as 0
--     hour_entry l r          what the hour l gives by its usable readings r
--     impurities l            what of the anodes l isn't carbon, in hundredths of a percent
--     anodes_entry l          what the anodes l give
--
-- Laws: proofs/EntryLaws.antt. Definitions only.
use Rattle.std.specs.Prelude.{ℕ, ◌+◌, List, ◌==◌}
use Rattle.choice.specs.Tests.{choose}
use Rattle.mass.specs.declared.Ug.{Ug}
use Rattle.mass.specs.declared.fuel.Amount.{Amount}
use Rattle.mass.specs.declared.fuel.Heat.{Heat}
use Rattle.mass.specs.declared.hour.Readings.{Readings}
use Rattle.mass.specs.Fuel.{co2_of_heat, co2_of_carbon, trace_of_heat, high_of}
use Rattle.mass.specs.Gas.{co2_of_gas}
use Rattle.mass.specs.Hour.{hour_mass}
use Rattle.mass.specs.Anode.{co2_of_anodes}
use Rattle.rules.specs.declared.entry.Destination.{Destination}
use Rattle.rules.specs.declared.entry.Destination.TheVariants.{Fossil, Biomass, Nowhere}
use Rattle.rules.specs.declared.entry.Entry.{Entry}
use Rattle.rules.specs.Fields.{fuel_class, default_heat, co2_factor, ch4_factor, n2o_factor, molar_volume, analysed, heat_measured, heat_low, amount, heat, carbon, molecular_weight, moisture, metal, anode_use, sulphur, ash, other_impurities}
use Rattle.rules.specs.Method.{method_of}

unfoldable pub measured_heat : List ℕ → Heat
measured_heat l = choose (heat_low l) (high_of (record { 0 = heat l })) (record { 0 = heat l })

unfoldable pub heat_in_use : List ℕ → List ℕ → Heat
heat_in_use l f = choose (heat_measured l) (measured_heat l) (record { 0 = default_heat f })

abbrev pub amount_of : List ℕ → Amount
amount_of l = record { 0 = amount l }

-- The carbon of analysed gas is in a kilogram of it, and that of other fuel in its unit.
unfoldable pub co2_by_carbon : List ℕ → List ℕ → Ug
co2_by_carbon l f =
    choose (analysed l)
    (co2_of_gas (amount_of l) (record { 0 = carbon l }) (record { 0 = molecular_weight l })
    (record { 0 = molar_volume f }))
    (co2_of_carbon (amount_of l) (record { 0 = carbon l }))

-- A monitored unit's fuel gives no CO2: its hours do.
unfoldable pub co2_by : ℕ → List ℕ → List ℕ → Ug
co2_by m l f =
    choose (m == 4) (record { 0 = 0 })
    (choose (m == 3) (co2_by_carbon l f)
    (co2_of_heat (amount_of l) (heat_in_use l f) (record { 0 = co2_factor f })))

unfoldable pub destination_by : ℕ → List ℕ → Destination
destination_by m f = choose (m == 4) Nowhere (choose (fuel_class f == 3) Biomass Fossil)

unfoldable pub entry_by : ℕ → List ℕ → List ℕ → Entry
entry_by m l f = record {
  method = m;
  destination = destination_by m f;
  co2 = co2_by m l f;
  ch4 = trace_of_heat (amount_of l) (heat_in_use l f) (record { 0 = ch4_factor f });
  n2o = trace_of_heat (amount_of l) (heat_in_use l f) (record { 0 = n2o_factor f });
}

unfoldable pub fuel_entry : List ℕ → List ℕ → List ℕ → Entry
fuel_entry l u f = entry_by (method_of l u f) l f

unfoldable pub co2_alone : Ug → Entry
co2_alone x = record {
  method = 0;
  destination = Fossil;
  co2 = x;
  ch4 = record { 0 = 0 };
  n2o = record { 0 = 0 };
}

unfoldable pub hour_entry : List ℕ → Readings → Entry
hour_entry l r = co2_alone (hour_mass (record { 0 = moisture l }) r)

unfoldable pub impurities : List ℕ → ℕ
impurities l = sulphur l + ash l + other_impurities l

unfoldable pub anodes_entry : List ℕ → Entry
anodes_entry l =
    co2_alone (co2_of_anodes (record { 0 = metal l }) (record { 0 = anode_use l }) (record { 0 = impurities l }))
