-- The CO2 of gas analysed by molecular weight. RULES, "Analysed gas".
--
--     GasInReach a c w v      an amount, carbon, a molecular weight and a molar volume that a sound book can hold
--     co2_of_gas a c w v      amount × carbon × molecular weight × 3,664 / molar volume, in µg, to the nearest
--
-- Laws: proofs/GasLaws.antt. Definitions only.
use Rattle.std.specs.Prelude.{ℕ, ◌*◌, ◌≤◌}
use Rattle.mass.specs.declared.Ug.{Ug}
use Rattle.mass.specs.declared.fuel.Amount.{Amount}
use Rattle.mass.specs.declared.gas.CarbonShare.{CarbonShare}
use Rattle.mass.specs.declared.gas.MolecularWeight.{MolecularWeight}
use Rattle.mass.specs.declared.gas.MolarVolume.{MolarVolume}
use Rattle.mass.specs.Rounding.{nearest_to}
use Rattle.mass.specs.Fuel.{per_carbon}

pub record GasInReach (a c w v : ℕ) : Type 0 where
  pub amount_le : a ≤ 100000000
  pub carbon_le : c ≤ 1000000
  pub weight_le : w ≤ 200000
  pub volume_ge : 20000 ≤ v
  pub volume_le : v ≤ 27000

-- Eq. 20-7 of WCI. Molecular weight over molar volume is grams for each litre, or kilograms for each cubic
-- metre, of which each has so many milligrams of carbon.
unfoldable pub co2_of_gas : Amount → CarbonShare → MolecularWeight → MolarVolume → Ug
co2_of_gas a c w v = record { 0 = nearest_to (a.0 * c.0 * w.0 * per_carbon) v.0 }
