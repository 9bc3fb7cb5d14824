-- The sums worked by hand, as far as they are masses: P1 to P3, P7 to P12; and the figures of P1 alone.
-- Assumes nothing.
use Prim.Native.Nat.{◌*◌}
use mathlib.Core.Bool.{true, false}
use mathlib.Core.Path.{◌≡◌, refl}
use lib.Ieee.{of_bits}
use Rattle.choice.proofs.TestsLaws.{worked-out}
use Rattle.mass.specs.declared.hour.Hour.TheVariants.{Usable}
use Rattle.mass.specs.Rounding.{nearest_to, half_up}
use Rattle.mass.specs.Fuel.{co2_of_heat, co2_of_carbon, trace_of_heat}
use Rattle.mass.specs.Units.{units_in, natural}
use Rattle.mass.specs.Hour.{up_to, readings_of, judged, hour_of, rounded_product, hour_mass}
use Rattle.mass.specs.Ledger.{tonne}
use Rattle.mass.specs.Figures.{kg_of, decisive, must_report}

-- ---- fuel: 1,000 m3 of a gas of 38,000 kJ, 50,000 mg CO2, 900 µg CH4 and 90 µg N2O a MJ
pub p1_co2 : co2_of_heat (record { 0 = 1000 }) (record { 0 = 38000 }) (record { 0 = 50000 })
    ≡ record { 0 = 1900000000000 }
unfolding co2_of_heat
p1_co2 = refl

pub p1_ch4 : trace_of_heat (record { 0 = 1000 }) (record { 0 = 38000 }) (record { 0 = 900 })
    ≡ record { 0 = 34200000000 }
unfolding trace_of_heat
p1_ch4 = refl

pub p1_n2o : trace_of_heat (record { 0 = 1000 }) (record { 0 = 38000 }) (record { 0 = 90 })
    ≡ record { 0 = 3420000000 }
unfolding trace_of_heat
p1_n2o = refl

-- P2 measures a heat of 39,000 kJ.
pub p2_co2 : co2_of_heat (record { 0 = 1000 }) (record { 0 = 39000 }) (record { 0 = 50000 })
    ≡ record { 0 = 1950000000000 }
unfolding co2_of_heat
p2_co2 = refl

pub p2_ch4 : trace_of_heat (record { 0 = 1000 }) (record { 0 = 39000 }) (record { 0 = 900 })
    ≡ record { 0 = 35100000000 }
unfolding trace_of_heat
p2_ch4 = refl

pub p2_n2o : trace_of_heat (record { 0 = 1000 }) (record { 0 = 39000 }) (record { 0 = 90 })
    ≡ record { 0 = 3510000000 }
unfolding trace_of_heat
p2_n2o = refl

-- P3 measures 520,000 mg of carbon.
pub p3_co2 : co2_of_carbon (record { 0 = 1000 }) (record { 0 = 520000 }) ≡ record { 0 = 1905280000000 }
unfolding co2_of_carbon
p3_co2 = refl

-- ---- hours
-- P7 reads 12.5 percent and 2,000,000 scf/h.
pub p7_usable : hour_of 0x4148_0000 0x49F4_2400 ≡ Usable (readings_of 0x4148_0000 0x49F4_2400)
unfolding hour_of judged up_to natural units_in readings_of of_bits
p7_usable = simp worked-out

pub p7_mass : hour_mass (record { 0 = 0 }) (readings_of 0x4148_0000 0x49F4_2400) ≡ record { 0 = 12950000000000 }
unfolding hour_mass rounded_product nearest_to units_in readings_of of_bits
p7_mass = simp worked-out

-- P8 reads 0.25 and 0.25: 62.5 goes down to the even 62.
pub p8_usable : hour_of 0x3E80_0000 0x3E80_0000 ≡ Usable (readings_of 0x3E80_0000 0x3E80_0000)
unfolding hour_of judged up_to natural units_in readings_of of_bits
p8_usable = simp worked-out

pub p8_rounded : rounded_product 1000 (readings_of 0x3E80_0000 0x3E80_0000) ≡ 62
unfolding rounded_product nearest_to units_in readings_of of_bits
p8_rounded = simp worked-out

pub p8_mass : hour_mass (record { 0 = 0 }) (readings_of 0x3E80_0000 0x3E80_0000) ≡ record { 0 = 32116 }
unfolding hour_mass rounded_product nearest_to units_in readings_of of_bits
p8_mass = simp worked-out

-- P9 reads 0.75 and 0.25: 187.5 goes up to the even 188.
pub p9_usable : hour_of 0x3F40_0000 0x3E80_0000 ≡ Usable (readings_of 0x3F40_0000 0x3E80_0000)
unfolding hour_of judged up_to natural units_in readings_of of_bits
p9_usable = simp worked-out

pub p9_rounded : rounded_product 1000 (readings_of 0x3F40_0000 0x3E80_0000) ≡ 188
unfolding rounded_product nearest_to units_in readings_of of_bits
p9_rounded = simp worked-out

pub p9_mass : hour_mass (record { 0 = 0 }) (readings_of 0x3F40_0000 0x3E80_0000) ≡ record { 0 = 97384 }
unfolding hour_mass rounded_product nearest_to units_in readings_of of_bits
p9_mass = simp worked-out

-- ---- the decision
-- P10 has 10,000 t, none of it biomass CO2.
pub p10_reports : must_report (10000 * tonne) 0 ≡ true
unfolding must_report decisive
p10_reports = simp worked-out

-- P11 has 24,999 t, of which 16,000 t are biomass CO2: 15,000 t of them are left out.
pub p11_decisive : decisive (24999 * tonne) (16000 * tonne) ≡ 9999 * tonne
unfolding decisive
p11_decisive = simp worked-out

pub p11_reports : must_report (24999 * tonne) (16000 * tonne) ≡ false
unfolding must_report decisive
p11_reports = simp worked-out

-- P12 has 25,000 t, so that nothing is left out.
pub p12_reports : must_report (25000 * tonne) (16000 * tonne) ≡ true
unfolding must_report decisive
p12_reports = simp worked-out

-- ---- the figures of P1 alone, and of nothing
pub p1_co2_kg : kg_of 1900000000000000 ≡ record { 0 = 1900 }
unfolding kg_of half_up
p1_co2_kg = refl

-- 34.2 g and 3.42 g are less than half a kilogram.
pub p1_ch4_kg : kg_of 34200000000 ≡ record { 0 = 0 }
unfolding kg_of half_up
p1_ch4_kg = refl

pub p1_n2o_kg : kg_of 3420000000 ≡ record { 0 = 0 }
unfolding kg_of half_up
p1_n2o_kg = refl

-- The CO2 equivalent is 1,901.7784 kg: the CO2, 21 times the CH4 and 310 times the N2O.
pub p1_co2e_kg : kg_of 1901778400000000 ≡ record { 0 = 1902 }
unfolding kg_of half_up
p1_co2e_kg = refl

pub p1_reports : must_report 1901778400000000 0 ≡ false
unfolding must_report decisive
p1_reports = simp worked-out

pub nothing_kg : kg_of 0 ≡ record { 0 = 0 }
unfolding kg_of half_up
nothing_kg = refl

pub nothing_reports : must_report 0 0 ≡ false
unfolding must_report decisive
nothing_reports = simp worked-out
