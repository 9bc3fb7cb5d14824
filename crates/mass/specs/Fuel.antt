-- Masses from fuel burned. RULES, "Fuel".
--
--     HeatInReach a h x     an amount, a heat and a factor that a sound book can hold
--     CarbonInReach a c     an amount and a carbon content that a sound book can hold
--     per_carbon            µg of CO2 for each mg of carbon
--     co2_of_heat a h x     CO2 by methods 1 and 2: amount × heat × CO2 factor, in µg
--     co2_of_carbon a c     CO2 by method 3: amount × carbon × 3,664, in µg
--     trace_of_heat a h x   CH4 or N2O under every method: amount × heat in use × factor, in ng
--     high_of h             the heat of natural gas whose low value is h: 1.11 × h, to the nearest kJ, a half
--                           going up
--
-- Laws: proofs/FuelLaws.antt. Definitions only.
use Rattle.std.specs.Prelude.{ℕ, ◌*◌, ◌≤◌}
use Rattle.mass.specs.declared.Ug.{Ug}
use Rattle.mass.specs.declared.Ng.{Ng}
use Rattle.mass.specs.declared.fuel.Amount.{Amount}
use Rattle.mass.specs.declared.fuel.Heat.{Heat}
use Rattle.mass.specs.declared.fuel.LowHeat.{LowHeat}
use Rattle.mass.specs.declared.fuel.Carbon.{Carbon}
use Rattle.mass.specs.declared.fuel.Co2Factor.{Co2Factor}
use Rattle.mass.specs.declared.fuel.TraceFactor.{TraceFactor}
use Rattle.mass.specs.Rounding.{half_up}

pub record HeatInReach (a h x : ℕ) : Type 0 where
  pub amount_le : a ≤ 100000000
  pub heat_le : h ≤ 200000
  pub factor_le : x ≤ 200000

-- The carbon limit is that of a gas, and other fuels have a lower one.
pub record CarbonInReach (a c : ℕ) : Type 0 where
  pub amount_le : a ≤ 100000000
  pub carbon_le : c ≤ 4000000

-- 3.664, where others take 44 / 12.
abbrev pub per_carbon : ℕ
per_carbon = 3664

unfoldable pub co2_of_heat : Amount → Heat → Co2Factor → Ug
co2_of_heat a h x = record { 0 = a.0 * h.0 * x.0 }

unfoldable pub co2_of_carbon : Amount → Carbon → Ug
co2_of_carbon a c = record { 0 = a.0 * c.0 * per_carbon }

unfoldable pub trace_of_heat : Amount → Heat → TraceFactor → Ng
trace_of_heat a h x = record { 0 = a.0 * h.0 * x.0 }

-- Eq. 20-11 of WCI, with its factor for natural gas.
unfoldable pub high_of : LowHeat → Heat
high_of h = record { 0 = half_up (111 * h.0) 100 }
