-- No mass of fuel passes 4,000,000 t, so that 64 bits hold it; and a low value makes no heat that a
-- measured one couldn't be. Assumes nothing.
use Prim.Native.Nat.{ℕ, ◌+◌, ◌*◌, ◌/◌, ◌<◌, ◌≤◌}
use mathlib.Core.Path.{◌≡◌, refl}
use native.Mathlib.Nat.{mul-le-mul, mul-le-mul_right, le_trans}
use native.Mathlib.Omega.{arith}
use lib.Dec.{lit≤}
use Rattle.mass.specs.declared.fuel.Amount.{Amount}
use Rattle.mass.specs.declared.fuel.Heat.{Heat}
use Rattle.mass.specs.declared.fuel.LowHeat.{LowHeat}
use Rattle.mass.specs.declared.fuel.Carbon.{Carbon}
use Rattle.mass.specs.declared.fuel.Co2Factor.{Co2Factor}
use Rattle.mass.specs.declared.fuel.TraceFactor.{TraceFactor}
use Rattle.mass.specs.Rounding.{half_up}
use Rattle.mass.specs.Ledger.{tonne, tonnes_each}
use Rattle.mass.specs.Fuel.{HeatInReach, CarbonInReach, per_carbon, co2_of_heat, co2_of_carbon, trace_of_heat, high_of}

-- In µg of CO2; CH4 and N2O come to no more ng.
abbrev pub most_each : ℕ
most_each = tonnes_each * (tonne / 1000)

pub heat_product_le : {a h x : ℕ} → HeatInReach a h x → a * h * x ≤ most_each
heat_product_le r = mul-le-mul (mul-le-mul r.amount_le r.heat_le) r.factor_le

pub carbon_le : {a c : ℕ} → CarbonInReach a c → a * c ≤ 400000000000000
carbon_le r = mul-le-mul r.amount_le r.carbon_le

pub carbon_product_le : {a c : ℕ} → CarbonInReach a c → a * c * 3664 ≤ 1465600000000000000
carbon_product_le r = mul-le-mul_right 3664 (carbon_le r)

pub co2_of_heat-le : (a : Amount) (h : Heat) (x : Co2Factor) → HeatInReach a.0 h.0 x.0
    → (co2_of_heat a h x).0 ≤ most_each
unfolding co2_of_heat
co2_of_heat-le a h x = heat_product_le

pub co2_of_carbon-le : (a : Amount) (c : Carbon) → CarbonInReach a.0 c.0
    → (co2_of_carbon a c).0 ≤ most_each
unfolding co2_of_carbon
co2_of_carbon-le a c r = le_trans (carbon_product_le r) (lit≤ tt)

pub trace_of_heat-le : (a : Amount) (h : Heat) (x : TraceFactor) → HeatInReach a.0 h.0 x.0
    → (trace_of_heat a h x).0 ≤ most_each
unfolding trace_of_heat
trace_of_heat-le a h x = heat_product_le

-- ---- a mass is its product
pub co2_of_heat_is : (a : Amount) (h : Heat) (x : Co2Factor) → (co2_of_heat a h x).0 ≡ a.0 * h.0 * x.0
unfolding co2_of_heat
co2_of_heat_is a h x = refl

pub co2_of_carbon_is : (a : Amount) (c : Carbon) → (co2_of_carbon a c).0 ≡ a.0 * c.0 * per_carbon
unfolding co2_of_carbon
co2_of_carbon_is a c = refl

pub trace_of_heat_is : (a : Amount) (h : Heat) (x : TraceFactor) → (trace_of_heat a h x).0 ≡ a.0 * h.0 * x.0
unfolding trace_of_heat
trace_of_heat_is a h x = refl

-- ---- a low value
-- Half a kJ more, and what is left of one falls away.
pub high_of_hundredths : (h : LowHeat) (r : Heat) → r.0 ≡ (h.0 * 111 + 50) / 100 → r ≡ high_of h
unfolding high_of half_up
high_of_hundredths h r e =
    let p : r.0 ≡ half_up (111 * h.0) 100 = omega arith in
    λ i. record { 0 = p i }

-- It comes to 199,800 kJ at most.
pub high_of-le : (h : LowHeat) → h.0 ≤ 180000 → (high_of h).0 ≤ 200000
unfolding high_of half_up
high_of-le h l = omega arith

-- Where there is a low value there is a heat.
pub high_of-above : (h : LowHeat) → 0 < h.0 → 0 < (high_of h).0
unfolding high_of half_up
high_of-above h l = omega arith
