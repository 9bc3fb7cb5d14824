-- A record of kind 1 that passes the tests at one go counts, and its CO2 comes from its heat, from its carbon or
-- from no fuel at all: from each just where the rules take it. Assumes nothing.
use Rattle.std.proofs.Common.{◌≡◌, ℕ, ◌+◌, ◌*◌, ◌/◌, ◌%◌, ◌<◌, ◌≤◌, Bool, true, false, ◌&&◌, eqb, List, get_or, sym, refl, ap, ◌∙◌, ap₂, le_trans, le_of_eq, le_refl, mul-le-mul, zero-mul, mul-one, arith, lit<, eq-eqb, ne_eqb, eqb-true, le-leb, leb-true}
use borrow.Author.Tests.{eqb-false}
use Rattle.choice.proofs.Splitting.{if_test}
use Rattle.choice.proofs.TestsLaws.{also_t, also_l, also_r, either_t, either_f, choose_t, choose_f, both, is}
use Rattle.mass.specs.declared.Ug.{Ug}
use Rattle.mass.proofs.FuelLaws.{co2_of_heat_is, co2_of_carbon_is}
use Rattle.rules.specs.declared.book.Head.{Head}
use Rattle.rules.specs.declared.sorting.Share.{Share}
use Rattle.rules.specs.Bytes.{line}
use Rattle.rules.specs.Fields.{monitored, co2_factor, kind, flags, analysed, carbon_flagged, amount, heat, carbon}
use Rattle.rules.specs.Book.{unit_lines, fuel_lines}
use Rattle.rules.specs.Method.{method_of}
use Rattle.rules.specs.Entry.{heat_in_use, amount_of, co2_by_carbon, co2_by}
use Rattle.rules.specs.Record.{carbon_form, carbon_limit, carbon_range, outcome_at}
use Rattle.rules.specs.Index.{way_of}
use Rattle.rules.specs.Sorting.{co2_of, carbon_of, Shared}
use Rattle.rules.specs.AtOnce.{form_right, heat_right, carbon_right, allowed_by, amount_burned}
use Rattle.rules.proofs.MethodLaws.{method_of-monitored, method_of-carbon, method_of-heat-le}
use Rattle.rules.proofs.EntryLaws.{carbon_limit-le}
use Rattle.rules.proofs.StandsLaws.{Found, unit_entry, fuel-entry}
use Rattle.rules.proofs.MaskLaws.{Heated, flags_in, flags_in_at, allowed_by-fuel}
use Rattle.rules.proofs.FactorsLaws.{co2_of-heat, co2_of_other, carbon_of-none, carbon_of-monitor}
use Rattle.rules.proofs.SortingLaws.{fuel_form_right, fuel_ranges_right, burned_heat, destination_monitored, destination_unmonitored, times_zero, Co2Told, Monitored, Passes, settled}

-- The tests of a record l of the fuel f in the unit u.
pub record Passed (l u f : List ℕ) : Type 0 where
  pub kind_is : kind l ≡ 1
  pub formed : form_right l ≡ true
  pub heats : heat_right l ≡ true
  pub carbons : carbon_right (carbon_limit f) l ≡ true
  pub allowed : allowed_by l (flags_in u f) ≡ true

module _ {l u f : List ℕ} (t : Passed l u f) where
  other : analysed l ≡ false
  other = let one = t.kind_is in ne_eqb (kind l) 3 (λ e. omega arith)

  flags-le : flags l ≤ 7
  unfolding form_right
  flags-le = leb-true _ _ (also_l _ _ (also_l _ _ (also_l _ _ (also_l _ _ t.formed))))

  amount_le : amount l ≤ 100000000
  unfolding form_right
  amount_le = leb-true _ _ (also_r _ _ (also_l _ _ t.formed))

  heated : Heated l f
  heated = (allowed_by-fuel l f flags-le u other t.allowed).0

  permitted : 0 < method_of l u f
  permitted = (allowed_by-fuel l f flags-le u other t.allowed).1

  -- ---- the carbon
  -- The limit counts where the carbon is flagged, and 0 where it isn't.
  carbon_limited : carbon l ≤ carbon_limit f * (flags l / 2 % 2)
  unfolding carbon_right
  carbon_limited = leb-true _ _ t.carbons

  carbon_in : carbon l ≤ carbon_limit f
  carbon_in =
      le_trans carbon_limited
      (le_trans (mul-le-mul {m₂ = 1} (le_refl (carbon_limit f)) (omega arith)) (le_of_eq (mul-one (carbon_limit f))))

  carbon-none : carbon_flagged l ≡ false → carbon l ≡ 0
  carbon-none none =
      let unflagged = eqb-false (flags l / 2 % 2) 1 none in
      let zero : flags l / 2 % 2 ≡ 0 = omega arith in
      let nothing = le_trans carbon_limited (le_of_eq (times_zero (carbon_limit f) zero)) in
      omega arith

  carbon_product_le : amount l * carbon l ≤ 400000000000000
  carbon_product_le = mul-le-mul {n₂ = 100000000} {m₂ = 4000000} amount_le (le_trans carbon_in (carbon_limit-le f))

  -- ---- it counts
  carbon_form_right : carbon_form l ≡ true
  unfolding carbon_form form_right
  carbon_form_right =
      let told = if_test (carbon_flagged l) (either_t (eqb (carbon l) 0))
      (λ none. either_f none (eq-eqb _ _ (carbon-none none))) in
      choose_f _ other (also_t told (also_r _ _ t.formed))

  carbon_range_right : carbon_range l f ≡ true
  unfolding carbon_range
  carbon_range_right = choose_f _ other (le-leb _ _ carbon_in)

  passes : Passes l u f
  unfolding form_right
  passes =
      let months = also_l _ _ (also_l _ _ t.formed) in
      let first = leb-true _ _ (also_r _ _ (also_l _ _ months)) in
      let last = leb-true _ _ (also_r _ _ months) in
      record {
        fuel = either_t _ (eq-eqb _ _ t.kind_is);
        formed = fuel_form_right l t.heats f heated flags-le carbon_form_right;
        heats = t.heats;
        heated = heated;
        ranges = fuel_ranges_right l t.heats f heated first last amount_le carbon_range_right;
        permitted = permitted;
      }

  -- ---- its CO2
  module _ (x : Share) (way_is : x.way ≡ flags l % 4) (burned_is : x.burned ≡ amount_burned l)
      (carbon-is : x.carbon ≡ amount l * carbon l) (co2-none : x.co2.0 ≡ 0) where
    no_co2 : monitored u ≡ true → Co2Told l u f x 1
    unfolding co2_by
    no_co2 m =
        let by_heat = times_zero x.burned (co2_of_other f (4 * 1 + x.way) (omega arith)) in
        let by_carbon = times_zero x.carbon carbon_of-monitor in
        ap (λ (y : Ug). y.0) (choose_t _ (eq-eqb _ _ (method_of-monitored l u f m)) refl) ∙ omega arith

    carbon_co2 : monitored u ≡ false → carbon_flagged l ≡ true → Co2Told l u f x 0
    unfolding co2_by co2_by_carbon
    carbon_co2 m flagged =
        let three = method_of-carbon l u f m (either_f other flagged) in
        let two = eqb-true (flags l / 2 % 2) 1 flagged in
        let by_heat = times_zero x.burned (co2_of_other f (4 * 0 + x.way) (omega arith)) in
        let by_carbon : x.carbon * carbon_of 0 ≡ amount l * carbon l * 3664 = ap₂ ◌*◌ carbon-is carbon_of-none in
        ap (λ (y : Ug). y.0) (choose_f _ (ne_eqb (method_of l u f) 4 (λ e. omega arith))
        (choose_t _ (eq-eqb _ _ three) (choose_f _ other refl)))
        ∙ co2_of_carbon_is (amount_of l) (record { 0 = carbon l })
        ∙ omega arith

    heat_co2 : monitored u ≡ false → carbon_flagged l ≡ false → Co2Told l u f x 0
    unfolding co2_by
    heat_co2 m unflagged =
        let few = method_of-heat-le l u f m (either_f other unflagged) in
        let none = eqb-false (flags l / 2 % 2) 1 unflagged in
        let v = 4 * 0 + x.way in
        let by_heat : x.burned * co2_of f v ≡ amount l * (heat_in_use l f).0 * co2_factor f =
        ap₂ ◌*◌ burned_is (co2_of-heat f v (omega arith))
        ∙ burned_heat l t.heats f heated (co2_factor f) v (omega arith) in
        let no_carbon : x.carbon ≡ 0 = carbon-is ∙ times_zero (amount l) (carbon-none unflagged) in
        let by_carbon : x.carbon * carbon_of 0 ≡ 0 = ap (λ (c : ℕ). c * carbon_of 0) no_carbon ∙ zero-mul (carbon_of 0) in
        ap (λ (y : Ug). y.0) (choose_f _ (ne_eqb (method_of l u f) 4 (λ e. omega arith))
        (choose_f _ (ne_eqb (method_of l u f) 3 (λ e. omega arith)) refl))
        ∙ co2_of_heat_is (amount_of l) (heat_in_use l f) (record { 0 = co2_factor f })
        ∙ omega arith

    monitored_co2 : monitored u ≡ true → Monitored l u f x 1
    unfolding way_of
    monitored_co2 m = record {
      two = lit< tt;
      way_is = choose_t _ m refl;
      ledger = destination_monitored l u f m;
      co2_is = no_co2 m;
      fossil_co2 = λ other. co2-none;
    }

    unmonitored_co2 : monitored u ≡ false → Monitored l u f x 0
    unfolding way_of
    unmonitored_co2 m = record {
      two = lit< tt;
      way_is = choose_f _ m refl;
      ledger = destination_unmonitored l u f m;
      co2_is = if_test (carbon_flagged l) (carbon_co2 m) (heat_co2 m);
      fossil_co2 = λ other. co2-none;
    }

-- ---- the tests by an index: of the record m, and of lines j and k in the columns us and fs
pub record Tested (m us fs : List ℕ) (unit fuel j k : ℕ) : Type 0 where
  pub unit_has : get_or us j 0 ≡ unit
  pub fuel_has : get_or fs k 0 ≡ fuel
  pub formed : form_right m ≡ true
  pub heats : heat_right m ≡ true
  pub carbons : carbon_right (get_or fs (192 + k) 0) m ≡ true
  pub allowed : allowed_by m (get_or fs (get_or us (64 + j) 0 % 256 + k) 0) ≡ true

pub tested : {a b form heat carbon allowed : Bool} (m us fs : List ℕ) (unit fuel j k : ℕ)
    → a ≡ eqb (get_or us j 0) unit → b ≡ eqb (get_or fs k 0) fuel → form ≡ form_right m → heat ≡ heat_right m → carbon ≡ carbon_right (get_or fs (192 + k) 0) m
    → allowed ≡ allowed_by m (get_or fs (get_or us (64 + j) 0 % 256 + k) 0)
    → (a && b && form && heat && carbon && allowed) ≡ true
    → Tested m us fs unit fuel j k
tested m us fs unit fuel j k a b form heat carbon allowed all =
    let row = is (both (both (both (both (both a b) form) heat) carbon) allowed) all in
    let carbons = also_l _ _ row in
    let heats = also_l _ _ carbons in
    let formed = also_l _ _ heats in
    let has = also_l _ _ formed in
    record {
      unit_has = eqb-true _ _ (also_l _ _ has);
      fuel_has = eqb-true _ _ (also_r _ _ has);
      formed = also_r _ _ formed;
      heats = also_r _ _ heats;
      carbons = also_r _ _ carbons;
      allowed = also_r _ _ row;
    }

module _ {h : Head} {s : List ℕ} {i : ℕ} {m us fs : List ℕ} {unit fuel j k : ℕ} (w : Found h s i m us fs j k)
    (t : Tested m us fs unit fuel j k) where
  passed : kind (line i s) ≡ 1 → Passed (line i s) (line j (unit_lines h s)) (line k (fuel_lines h s))
  passed kind_is =
      let column-is = unit_entry w.unit w.unit.units.columns in
      let flags-are =
      ap (λ (x : ℕ). get_or fs (x % 256 + k) 0) column-is
      ∙ flags_in_at _ _ fs k (fuel-entry w w.fuels.large) (fuel-entry w w.fuels.allowed) in
      record {
        kind_is = kind_is;
        formed = sym (ap form_right w.unit.line_is) ∙ t.formed;
        heats = sym (ap heat_right w.unit.line_is) ∙ t.heats;
        carbons = sym (ap₂ carbon_right (fuel-entry w w.fuels.carbon) w.unit.line_is) ∙ t.carbons;
        allowed = sym (ap₂ allowed_by w.unit.line_is flags-are) ∙ t.allowed;
      }

  pub settled_fuel : (x : Share) → kind (line i s) ≡ 1 → x.at ≡ 16 * k + get_or us (128 + j) 0 → x.way ≡ flags m % 4
      → x.burned ≡ amount_burned m → x.carbon ≡ amount m * carbon m → x.co2.0 ≡ 0
      → Shared (outcome_at h s i) (fuel_lines h s) x
  settled_fuel x kind_is at_is way_is burned_is carbon-is co2-none =
      let t = passed kind_is in
      let way : x.way ≡ flags (line i s) % 4 = way_is ∙ ap (λ (l : List ℕ). flags l % 4) w.unit.line_is in
      let burned = burned_is ∙ ap amount_burned w.unit.line_is in
      let carbons = carbon-is ∙ ap (λ (l : List ℕ). amount l * carbon l) w.unit.line_is in
      settled w (passes t) x
      (record {
        few = amount_le t;
        at_is = at_is ∙ ap (λ (y : ℕ). 16 * k + y) (unit_entry w.unit w.unit.units.ways);
        way_lt = omega arith;
        way_odd = omega arith;
        burned_is = burned;
        carbon_le = le_trans (le_of_eq carbons) (carbon_product_le t);
      })
      (monitored_co2 t x way burned carbons co2-none)
      (unmonitored_co2 t x way burned carbons co2-none)
