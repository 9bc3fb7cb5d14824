-- The CO2 of anodes in reach stays far below what one record may give, and what is made of them on the way
-- within 63 bits. Assumes nothing.
use Prim.Native.Nat.{ℕ, ◌-◌, ◌*◌, ◌≤◌}
use native.Mathlib.Nat.{le_trans, le_of_eq, sub-le, mul-le-mul, mul-le-mul_right}
use lib.Dec.{lit<, lit≤}
use Rattle.mass.specs.declared.anode.Metal.{Metal}
use Rattle.mass.specs.declared.anode.AnodeUse.{AnodeUse}
use Rattle.mass.specs.declared.anode.Impurities.{Impurities}
use Rattle.mass.specs.Fuel.{per_carbon}
use Rattle.mass.specs.Anode.{AnodesInReach, co2_of_anodes}
use Rattle.mass.proofs.RoundingLaws.{nearest_to-below, nearest_to_mono}
use Rattle.mass.proofs.FuelLaws.{most_each}

module _ {m w x : ℕ} (r : AnodesInReach m w x) where
  pub anodes_le : m * w ≤ 100000000000
  anodes_le = mul-le-mul r.metal_le r.use_le

  pub anodes_carbon-le : m * w * (10000 - x) ≤ 1000000000000000
  anodes_carbon-le = mul-le-mul anodes_le (sub-le 10000 x)

  pub anodes_product_le : m * w * (10000 - x) * per_carbon ≤ 3664000000000000000
  anodes_product_le = mul-le-mul_right per_carbon anodes_carbon-le

-- The most is 366,400 t.
pub co2_of_anodes-le : (m : Metal) (w : AnodeUse) (x : Impurities) → AnodesInReach m.0 w.0 x.0
    → (co2_of_anodes m w x).0 ≤ most_each
unfolding co2_of_anodes
co2_of_anodes-le m w x r =
    let n = m.0 * w.0 * (10000 - x.0) * per_carbon in
    le_trans (nearest_to_mono n 10 3664000000000000000 10 (lit< tt) (lit< tt) (mul-le-mul_right 10 (anodes_product_le r)))
    (le_trans (le_of_eq (nearest_to-below 3664000000000000000 10 (lit< tt))) (lit≤ tt))
