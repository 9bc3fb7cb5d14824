-- What a share of a fuel record is multiplied by, way by way, and that a fuel line which breaks no rule has no heat and
-- no factor above 200,000. Assumes nothing.
use Rattle.std.proofs.Common.{◌≡◌, ℕ, ◌*◌, ◌%◌, ◌<◌, ◌≤◌, true, eqb, List, refl, ap, arith, le-ltb, lt-ltb, eq-eqb, ne_eqb, leb-true}
use Rattle.choice.specs.Tests.{choose}
use Rattle.choice.proofs.TestsLaws.{also_l, also_r, choose_t, choose_f, worked-out}
use Rattle.rules.specs.declared.entry.Destination.TheVariants.{Fossil, Biomass, Nowhere}
use Rattle.rules.specs.Fields.{fuel_class, default_heat, co2_factor, ch4_factor, n2o_factor}
use Rattle.rules.specs.Book.{fuel_head_ok, fuel_ok}
use Rattle.rules.specs.Factors.{factors_of}
use Rattle.rules.specs.Sorting.{heat_of, co2_of, carbon_of, ledger_of, most_burned}

-- ---- the factors of a line
pub factors_of_parts : (f : List ℕ) →
    ((factors_of f).heat ≡ default_heat f)
    × ((factors_of f).co2 ≡ co2_factor f)
    × ((factors_of f).ch4 ≡ ch4_factor f)
    × ((factors_of f).n2o ≡ n2o_factor f)
    × ((factors_of f).biomass ≡ eqb (fuel_class f) 3)
unfolding factors_of
factors_of_parts f = (refl, refl, refl, refl, refl)

pub factors_of-le : (f : List ℕ) → fuel_ok f ≡ true →
    ((factors_of f).heat ≤ 200000)
    × ((factors_of f).co2 ≤ 200000)
    × ((factors_of f).ch4 ≤ 200000)
    × ((factors_of f).n2o ≤ 200000)
unfolding factors_of fuel_ok fuel_head_ok
factors_of-le f h =
    let n2o = also_l _ _ (also_l _ _ h) in
    let ch4 = also_l _ _ n2o in
    let co2 = also_l _ _ ch4 in
    let heat = also_l _ _ (also_l _ _ co2) in (
      leb-true _ _ (also_r _ _ heat),
      leb-true _ _ (also_r _ _ co2),
      leb-true _ _ (also_r _ _ ch4),
      leb-true _ _ (also_r _ _ n2o),
    )

-- ---- what a way is multiplied by: its heat was measured if it is odd
pub heat_of_odd : (f : List ℕ) (v : ℕ) → v % 2 ≡ 1 → heat_of f v ≡ 1
unfolding heat_of
heat_of_odd f v e = choose_t _ (eq-eqb (v % 2) 1 e) refl

pub heat_of_even : (f : List ℕ) (v : ℕ) → v % 2 ≡ 0 → heat_of f v ≡ default_heat f
unfolding heat_of
heat_of_even f v e = choose_f _ (ne_eqb (v % 2) 1 (λ odd. omega arith)) refl

pub heat_of_way : (f : List ℕ) (v w : ℕ) → v % 2 ≡ w % 2 → heat_of f v ≡ heat_of f w
unfolding heat_of
heat_of_way f v w e = ap (λ (m : ℕ). choose (eqb m 1) 1 (default_heat f)) e

pub co2_of-heat : (f : List ℕ) (v : ℕ) → v < 2 → co2_of f v ≡ co2_factor f * heat_of f v
unfolding co2_of
co2_of-heat f v l = choose_t _ (lt-ltb v 2 l) refl

pub co2_of_other : (f : List ℕ) (v : ℕ) → 2 ≤ v → co2_of f v ≡ 0
unfolding co2_of
co2_of_other f v l = choose_f _ (le-ltb v 2 l) refl

pub most_burned_odd : (v : ℕ) → v % 2 ≡ 1 → most_burned v ≡ 20000000000000
unfolding most_burned
most_burned_odd v e = choose_t _ (eq-eqb (v % 2) 1 e) refl

pub most_burned_even : (v : ℕ) → v % 2 ≡ 0 → most_burned v ≡ 100000000
unfolding most_burned
most_burned_even v e = choose_f _ (ne_eqb (v % 2) 1 (λ odd. omega arith)) refl

-- ---- a unit without a monitor, and one with
pub carbon_of-none : carbon_of 0 ≡ 3664
unfolding carbon_of
carbon_of-none = simp worked-out

pub carbon_of-monitor : carbon_of 1 ≡ 0
unfolding carbon_of
carbon_of-monitor = simp worked-out

pub ledger_of-none : (f : List ℕ) → ledger_of 0 f ≡ choose (eqb (fuel_class f) 3) Biomass Fossil
unfolding ledger_of
ledger_of-none f = simp worked-out

pub ledger_of-monitor : (f : List ℕ) → ledger_of 1 f ≡ Nowhere
unfolding ledger_of
ledger_of-monitor f = simp worked-out
