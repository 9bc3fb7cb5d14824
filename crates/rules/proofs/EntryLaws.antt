-- What the tests of a record and of its fuel line say of the numbers that masses are made of, and how
-- large an entry's numbers get. Assumes nothing.
use Rattle.std.proofs.Common.{◌≡◌, ℕ, ◌<◌, ◌≤◌, Bool, true, false, eqb, leb, List, sym, refl, ◌∙◌, zero-le, le_trans, le_of_eq, arith, lit≤, ltb-true, ne_eqb, le-leb, leb-true, Ok}
use mathlib.Core.Bool.{false≢true}
use Rattle.choice.specs.Tests.{◌also◌}
use Rattle.choice.proofs.Splitting.{if_test}
use Rattle.choice.proofs.TestsLaws.{also_t, also_l, also_r, either_f, choose_t, choose_f, if_choose}
use Rattle.mass.specs.declared.Ug.{Ug}
use Rattle.mass.specs.declared.fuel.Heat.{Heat}
use Rattle.mass.specs.declared.hour.Readings.{Readings}
use Rattle.mass.specs.Fuel.{HeatInReach, CarbonInReach}
use Rattle.mass.specs.Gas.{GasInReach}
use Rattle.mass.specs.Hour.{InRange}
use Rattle.mass.specs.Anode.{AnodesInReach}
use Rattle.mass.proofs.FuelLaws.{most_each, co2_of_heat-le, co2_of_carbon-le, trace_of_heat-le, high_of-le}
use Rattle.mass.proofs.GasLaws.{co2_of_gas-le}
use Rattle.mass.proofs.HourLaws.{hour_mass-le}
use Rattle.mass.proofs.AnodeLaws.{co2_of_anodes-le}
use Rattle.rules.specs.Fields.{fuel_kind, default_heat, co2_factor, ch4_factor, n2o_factor, molar_volume, analysed, heat_measured, heat_low, amount, heat, carbon, molecular_weight, moisture, month, metal, anode_use, sulphur, ash, other_impurities}
use Rattle.rules.specs.Book.{molar_volume_ok, fuel_head_ok, fuel_ok}
use Rattle.rules.specs.Method.{method_of}
use Rattle.rules.specs.Entry.{measured_heat, heat_in_use, co2_by_carbon, co2_by, entry_by, fuel_entry, co2_alone, hour_entry, impurities, anodes_entry}
use Rattle.rules.specs.Record.{heat_limit, heat_range, carbon_limit, gas_range, carbon_range, fuel_ranges, hour_range, anodes_ranges}
use Rattle.rules.specs.Bounds.{Bounded}
use Rattle.rules.proofs.MethodLaws.{method_of-le}

-- ---- ranges
pub carbon_limit-le : (f : List ℕ) → carbon_limit f ≤ 4000000
unfolding carbon_limit
carbon_limit-le f = if_choose (λ (x : ℕ). x ≤ 4000000) (eqb (fuel_kind f) 3) (λ gas. lit≤ tt) (λ other. lit≤ tt)

-- The limit of a low value, and that of any other.
pub heat_limit-low : (l : List ℕ) → heat_low l ≡ true → heat l ≤ heat_limit l → heat l ≤ 180000
unfolding heat_limit
heat_limit-low l low h = le_trans h (le_of_eq (choose_t _ low refl))

heat_limit_high : (l : List ℕ) → heat_low l ≡ false → heat l ≤ heat_limit l → heat l ≤ 200000
unfolding heat_limit
heat_limit_high l high h = le_trans h (le_of_eq (choose_f _ high refl))

heat_range_measured : (l f : List ℕ) → heat_range l f ≡ true → heat_measured l ≡ true → heat l ≤ heat_limit l
unfolding heat_range
heat_range_measured l f h measured =
    leb-true _ _ (also_r _ _ (also_l _ _ (sym (choose_t true measured refl) ∙ h)))

heat_range_of_fuel_ranges : (l f : List ℕ) → fuel_ranges l f ≡ true → heat_range l f ≡ true
unfolding fuel_ranges
heat_range_of_fuel_ranges l f h = also_r _ _ (also_l _ _ h)

-- What it asks of the carbon, by the kind of the record.
carbon_range_other : (l f : List ℕ) → carbon_range l f ≡ true → analysed l ≡ false → carbon l ≤ carbon_limit f
unfolding carbon_range
carbon_range_other l f h other = leb-true _ _ (sym (choose_f _ other refl) ∙ h)

carbon_range_gas : (l f : List ℕ) → carbon_range l f ≡ true → analysed l ≡ true → gas_range l f ≡ true
unfolding carbon_range
carbon_range_gas l f h gas = sym (choose_t _ gas refl) ∙ h

-- A molar volume that a fuel line tells is in its range.
molar_volume_in : (v : ℕ) → molar_volume_ok v ≡ true → 0 < v → (20000 ≤ v) × (v ≤ 27000)
unfolding molar_volume_ok
molar_volume_in v h some =
    let told = sym (either_f (ne_eqb v 0 (λ e. omega arith)) refl) ∙ h in
    (leb-true 20000 v (also_l _ _ told), leb-true v 27000 (also_r _ _ told))

-- What `mass` asks of analysed gas.
gas_reach : (l f : List ℕ) → amount l ≤ 100000000 → gas_range l f ≡ true → molar_volume_ok (molar_volume f) ≡ true
    → GasInReach (amount l) (carbon l) (molecular_weight l) (molar_volume f)
unfolding gas_range
gas_reach l f amount-in h k =
    let weights = also_l _ _ h in
    let carbons = also_l _ _ weights in
    let volume = molar_volume_in (molar_volume f) k (ltb-true _ _ (also_r _ _ (also_l _ _ carbons))) in
    record {
      amount_le = amount-in;
      carbon_le = leb-true _ _ (also_r _ _ carbons);
      weight_le = leb-true _ _ (also_r _ _ h);
      volume_ge = volume.0;
      volume_le = volume.1;
    }

-- A record in its ranges gives no heat past the limit.
pub heat_limit-le : (l f : List ℕ) → fuel_ranges l f ≡ true → heat_measured l ≡ true → heat l ≤ heat_limit l
heat_limit-le l f h = heat_range_measured l f (heat_range_of_fuel_ranges l f h)

-- What `mass` asks of an hour's moisture.
pub moisture-le : (l : List ℕ) → hour_range l ≡ true → moisture l ≤ 1000
unfolding hour_range
moisture-le l h = leb-true _ _ (also_r _ _ h)

-- Anodes in their ranges have a month, and numbers that `mass` takes.
pub month_in : (l : List ℕ) → anodes_ranges l ≡ true → (1 ≤ month l) × (month l ≤ 12)
unfolding anodes_ranges
month_in l h =
    let months = also_l _ _ (also_l _ _ (also_l _ _ (also_l _ _ (also_l _ _ (also_l _ _ h))))) in
    (leb-true _ _ (also_l _ _ months), leb-true _ _ (also_r _ _ months))

pub anodes_reach : (l : List ℕ) → anodes_ranges l ≡ true → AnodesInReach (metal l) (anode_use l) (impurities l)
unfolding anodes_ranges
anodes_reach l h =
    let rest = also_l _ _ (also_l _ _ (also_l _ _ (also_l _ _ h))) in
    record {
      metal_le = leb-true _ _ (also_r _ _ (also_l _ _ rest));
      use_le = leb-true _ _ (also_r _ _ rest);
      impurities_le = leb-true _ _ (also_r _ _ h);
    }

same_test : (a b : Bool) → (a ≡ true → b ≡ true) → (b ≡ true → a ≡ true) → a ≡ b
same_test a b f g =
    if_test a (λ p. p ∙ sym (f p)) (λ p. if_test b (λ q. absurd (false≢true (sym p ∙ g q))) (λ q. p ∙ sym q))

-- Where the sum of impurities is in its range, so is each of them.
pub impurities-each : (a : Bool) (l : List ℕ) → (a also leb (impurities l) 10000)
    ≡ (a also leb (sulphur l) 10000 also leb (ash l) 10000 also leb (other_impurities l) 10000
    also leb (impurities l) 10000)
unfolding impurities
impurities-each a l =
    same_test _ _
    (λ h. let sum : impurities l ≤ 10000 = leb-true _ _ (also_r _ _ h) in
    let each = also_t (also_t (also_t (also_l _ _ h) (le-leb (sulphur l) 10000 (omega arith))) (le-leb (ash l) 10000 (omega arith)))
    (le-leb (other_impurities l) 10000 (omega arith)) in
    also_t each (also_r _ _ h))
    (λ h. also_t (also_l _ _ (also_l _ _ (also_l _ _ (also_l _ _ h)))) (also_r _ _ h))

-- What `mass` asks of a heat.
abbrev Fits : Heat → Type 0
Fits x = x.0 ≤ 200000

pub measured_heat-le : (l : List ℕ) → heat l ≤ heat_limit l → (measured_heat l).0 ≤ 200000
unfolding measured_heat
measured_heat-le l h =
    if_choose Fits (heat_low l)
    (λ low. high_of-le _ (heat_limit-low l low h))
    (λ high. heat_limit_high l high h)

heat_in_use-le : (l f : List ℕ) → heat_range l f ≡ true → default_heat f ≤ 200000 → (heat_in_use l f).0 ≤ 200000
unfolding heat_in_use
heat_in_use-le l f h d =
    if_choose Fits (heat_measured l)
    (λ measured. measured_heat-le l (heat_range_measured l f h measured))
    (λ not-measured. d)

-- A fuel record in its ranges, of a fuel line that breaks no rule.
pub record Reach (l f : List ℕ) : Type 0 where
  pub by_co2 : HeatInReach (amount l) (heat_in_use l f).0 (co2_factor f)
  pub by_ch4 : HeatInReach (amount l) (heat_in_use l f).0 (ch4_factor f)
  pub by_n2o : HeatInReach (amount l) (heat_in_use l f).0 (n2o_factor f)
  pub by_carbon : analysed l ≡ false → CarbonInReach (amount l) (carbon l)
  pub by_gas : analysed l ≡ true → GasInReach (amount l) (carbon l) (molecular_weight l) (molar_volume f)

pub reach : (l f : List ℕ) → fuel_ranges l f ≡ true → fuel_ok f ≡ true → Reach l f
unfolding fuel_ranges fuel_ok fuel_head_ok
reach l f h k =
    let ranges = also_l _ _ h in
    let amount-in = leb-true _ _ (also_r _ _ (also_l _ _ ranges)) in
    let carbon_in : carbon_range l f ≡ true = also_r _ _ h in
    let head = also_l _ _ (also_l _ _ k) in
    let volume-in = also_r _ _ (also_l _ _ k) in
    let n2o-in = leb-true _ _ (also_r _ _ head) in
    let ch4-in = leb-true _ _ (also_r _ _ (also_l _ _ head)) in
    let co2 = also_l _ _ (also_l _ _ head) in
    let co2-in = leb-true _ _ (also_r _ _ co2) in
    let default-in = leb-true _ _ (also_r _ _ (also_l _ _ (also_l _ _ co2))) in
    let heat-in = heat_in_use-le l f (also_r _ _ ranges) default-in in
    record {
      by_co2 = record { amount_le = amount-in; heat_le = heat-in; factor_le = co2-in };
      by_ch4 = record { amount_le = amount-in; heat_le = heat-in; factor_le = ch4-in };
      by_n2o = record { amount_le = amount-in; heat_le = heat-in; factor_le = n2o-in };
      by_carbon = λ other. record {
        amount_le = amount-in;
        carbon_le = le_trans (carbon_range_other l f carbon_in other) (carbon_limit-le f);
      };
      by_gas = λ gas. gas_reach l f amount-in (carbon_range_gas l f carbon_in gas) volume-in;
    }

-- ---- no entry gives a ledger more than one record can, and its method is one of the list
abbrev Few : Ug → Type 0
Few x = x.0 ≤ most_each

co2_by_carbon-le : (l f : List ℕ) → Reach l f → Few (co2_by_carbon l f)
unfolding co2_by_carbon
co2_by_carbon-le l f r =
    if_choose Few (analysed l)
    (λ gas. co2_of_gas-le _ _ _ _ (r.by_gas gas))
    (λ other. co2_of_carbon-le _ _ (r.by_carbon other))

co2_by-le : (m : ℕ) (l f : List ℕ) → Reach l f → Few (co2_by m l f)
unfolding co2_by
co2_by-le m l f r =
    if_choose Few (eqb m 4) (λ monitored. zero-le) (λ not-4.
    if_choose Few (eqb m 3) (λ by_carbon. co2_by_carbon-le l f r) (λ by_heat.
    co2_of_heat-le _ _ _ r.by_co2))

pub bounded_fuel_entry : (l u f : List ℕ) → fuel_ranges l f ≡ true → fuel_ok f ≡ true
    → Bounded (Ok (fuel_entry l u f))
unfolding fuel_entry entry_by
bounded_fuel_entry l u f h k =
    let r = reach l f h k in (
      method_of-le l u f,
      co2_by-le (method_of l u f) l f r,
      trace_of_heat-le _ _ _ r.by_ch4,
      trace_of_heat-le _ _ _ r.by_n2o,
    )

bounded_co2_alone : (x : Ug) → x.0 ≤ most_each → Bounded (Ok (co2_alone x))
unfolding co2_alone
bounded_co2_alone x h = (zero-le, h, zero-le, zero-le)

pub bounded_hour_entry : (l : List ℕ) (r : Readings) → InRange r → Bounded (Ok (hour_entry l r))
unfolding hour_entry
bounded_hour_entry l r h = bounded_co2_alone _ (le_trans (hour_mass-le _ r h) (lit≤ tt))

pub bounded_anodes_entry : (l : List ℕ) → anodes_ranges l ≡ true → Bounded (Ok (anodes_entry l))
unfolding anodes_entry
bounded_anodes_entry l h = bounded_co2_alone _ (co2_of_anodes-le _ _ _ (anodes_reach l h))
