-- The CO2 of gas in reach stays below what one record may give. On the way its product passes 64 bits, and
-- the parts that are made of it don't. Assumes nothing.
use Prim.Native.Nat.{ℕ, ◌*◌, ◌^◌, ◌<◌, ◌≤◌}
use mathlib.Core.Path.{◌≡◌, sym, ap, ◌∙◌}
use native.Mathlib.Nat.{le_trans, le_of_eq, lt_of_le_of_lt, lt_of_lt_of_le, zero-mul, mul_assoc, mul-le-mul, mul-le-mul_left, mul-le-mul_right}
use lib.Dec.{lit<, lit≤}
use Rattle.mass.specs.declared.fuel.Amount.{Amount}
use Rattle.mass.specs.declared.gas.CarbonShare.{CarbonShare}
use Rattle.mass.specs.declared.gas.MolecularWeight.{MolecularWeight}
use Rattle.mass.specs.declared.gas.MolarVolume.{MolarVolume}
use Rattle.mass.specs.Rounding.{nearest_to}
use Rattle.mass.specs.Fuel.{per_carbon}
use Rattle.mass.specs.Gas.{GasInReach, co2_of_gas}
use Rattle.mass.proofs.RoundingLaws.{nearest_to-below, nearest_to-zero, nearest_to_mono}
use Rattle.mass.proofs.FuelLaws.{most_each}

module _ {a c w v : ℕ} (r : GasInReach a c w v) where
  pub gas_carbon-le : a * c ≤ 100000000000000
  gas_carbon-le = mul-le-mul r.amount_le r.carbon_le

  pub gas_weight_le : w * per_carbon ≤ 732800000
  gas_weight_le = mul-le-mul_right per_carbon r.weight_le

  -- 2.7 × 10^18: what is left of the weight, times the carbon, has room.
  pub gas_left_lt : a * c * v < 2 ^ 63
  gas_left_lt = lt_of_le_of_lt (mul-le-mul gas_carbon-le r.volume_le) (lit< tt)

  gas_product_le : a * c * (w * per_carbon) ≤ 73280000000000000000000
  gas_product_le = mul-le-mul gas_carbon-le gas_weight_le

  -- The quotient is at most 3.664 × 10^18.
  pub gas_whole-lt : a * c * (w * per_carbon) < 2 ^ 63 * v
  gas_whole-lt =
      lt_of_lt_of_le (lt_of_le_of_lt gas_product_le most) (mul-le-mul_left (2 ^ 63) r.volume_ge)
    where
      most : 73280000000000000000000 < 2 ^ 63 * 20000
      most = lit< tt

pub co2_of_gas_product : (a : Amount) (c : CarbonShare) (w : MolecularWeight) (v : MolarVolume)
    → nearest_to (a.0 * c.0 * (w.0 * per_carbon)) v.0 ≡ (co2_of_gas a c w v).0
unfolding co2_of_gas
co2_of_gas_product a c w v = ap (λ (n : ℕ). nearest_to n v.0) (sym (mul_assoc (a.0 * c.0) w.0 per_carbon))

-- No gas gives none.
pub co2_of_gas-none : (a : Amount) (c : CarbonShare) (w : MolecularWeight) (v : MolarVolume) → a.0 ≡ 0 → 0 < v.0
    → (co2_of_gas a c w v).0 ≡ 0
unfolding co2_of_gas
co2_of_gas-none a c w v none some =
    let nothing : a.0 * c.0 * w.0 * per_carbon ≡ 0 = simp (none, zero-mul) in
    ap (λ (n : ℕ). nearest_to n v.0) nothing ∙ nearest_to-zero 0 v.0 some

-- The most is 3,664,000 t.
pub co2_of_gas-le : (a : Amount) (c : CarbonShare) (w : MolecularWeight) (v : MolarVolume)
    → GasInReach a.0 c.0 w.0 v.0 → (co2_of_gas a c w v).0 ≤ most_each
co2_of_gas-le a c w v r =
    let n = a.0 * c.0 * (w.0 * per_carbon) in
    le_trans (le_of_eq (sym (co2_of_gas_product a c w v)))
    (le_trans (nearest_to_mono n v.0 73280000000000000000000 20000 (lt_of_lt_of_le (lit< tt) r.volume_ge) (lit< tt)
    (mul-le-mul (gas_product_le r) r.volume_ge))
    (le_trans (le_of_eq (nearest_to-below 73280000000000000000000 20000 (lit< tt))) (lit≤ tt)))
