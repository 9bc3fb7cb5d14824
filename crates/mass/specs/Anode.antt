-- The CO2 of anodes used up. RULES, "Anodes".
--
--     AnodesInReach m w x     metal, use and impurities that a sound book can hold
--     co2_of_anodes m w x     metal × use × (10,000 - impurities) × 3,664 / 10, in µg, to the nearest
--
-- Laws: proofs/AnodeLaws.antt. Definitions only.
use Rattle.std.specs.Prelude.{ℕ, ◌-◌, ◌*◌, ◌≤◌}
use Rattle.mass.specs.declared.Ug.{Ug}
use Rattle.mass.specs.declared.anode.Metal.{Metal}
use Rattle.mass.specs.declared.anode.AnodeUse.{AnodeUse}
use Rattle.mass.specs.declared.anode.Impurities.{Impurities}
use Rattle.mass.specs.Rounding.{nearest_to}
use Rattle.mass.specs.Fuel.{per_carbon}

pub record AnodesInReach (m w x : ℕ) : Type 0 where
  pub metal_le : m ≤ 100000000
  pub use_le : w ≤ 1000
  pub impurities_le : x ≤ 10000

-- Eq. 70-1 of WCI. A gram of anodes for each kilogram of metal, less impurities in hundredths of a percent,
-- makes tenths of a milligram of carbon.
unfoldable pub co2_of_anodes : Metal → AnodeUse → Impurities → Ug
co2_of_anodes m w x = record { 0 = nearest_to (m.0 * w.0 * (10000 - x.0) * per_carbon) 10 }
