-- Analysed gas that passes the tests at one go counts, and its CO2 comes from its carbon alone, or, where there is a
-- monitor, from none of it: an amount of 0 gives none. Assumes nothing.
use Rattle.std.proofs.Common.{◌≡◌, ℕ, ◌+◌, ◌-◌, ◌*◌, ◌/◌, ◌%◌, ◌<◌, ◌≤◌, Bool, true, false, not, ◌&&◌, eqb, ltb, List, get_or, sym, refl, ap, ◌∙◌, ap₂, le_trans, le_of_eq, mul-le-mul, zero-mul, mul-one, arith, lit<, lit≤, ltb-true, lt-ltb, eq-eqb, ne_eqb, eqb-true, le-leb, leb-true}
use Rattle.choice.proofs.Splitting.{if_test}
use Rattle.choice.proofs.TestsLaws.{also_t, also_f, also_l, also_r, either_f, choose_t, choose_f, both, is}
use Rattle.mass.specs.declared.Ug.{Ug}
use Rattle.mass.specs.Gas.{GasInReach, co2_of_gas}
use Rattle.mass.proofs.GasLaws.{co2_of_gas-none}
use Rattle.rules.specs.declared.book.Head.{Head}
use Rattle.rules.specs.declared.entry.Destination.TheVariants.{Fossil}
use Rattle.rules.specs.declared.sorting.Share.{Share}
use Rattle.rules.specs.Bytes.{line}
use Rattle.rules.specs.Fields.{monitored, fuel_kind, fuel_class, molar_volume, kind, flags, analysed, carbon_flagged, month, amount, carbon, molecular_weight, gas_blank}
use Rattle.rules.specs.Book.{kind_class_ok, fuel_head_ok, fuel_ok, unit_lines, fuel_lines}
use Rattle.rules.specs.Method.{method_of}
use Rattle.rules.specs.Entry.{co2_by_carbon, co2_by}
use Rattle.rules.specs.Record.{carbon_form, gas_range, carbon_range, outcome_at}
use Rattle.rules.specs.Index.{way_of, allowed_flags, volume_of}
use Rattle.rules.specs.Sorting.{carbon_of, ledger_of, Shared}
use Rattle.rules.specs.AtOnce.{heat_right, gas_right, allowed_by, amount_burned}
use Rattle.rules.proofs.MethodLaws.{method_of-monitored, method_of-analysed}
use Rattle.rules.proofs.EntryLaws.{reach}
use Rattle.rules.proofs.StandsLaws.{Found, unit_entry, fuel-entry, fuel-sound}
use Rattle.rules.proofs.MaskLaws.{Heated, allowed_by_gas}
use Rattle.rules.proofs.FactorsLaws.{co2_of_other}
use Rattle.rules.proofs.SortingLaws.{fuel_form_right, fuel_ranges_right, destination_monitored, destination_unmonitored, way_of-le, times_zero, Monitored, Passes, settled}

-- The tests of a record l of the fuel f, whose line breaks no rule.
pub record Passed (l f : List ℕ) : Type 0 where
  pub sound : fuel_ok f ≡ true
  pub kind_is : kind l ≡ 3
  pub formed : gas_right l ≡ true
  pub heats : heat_right l ≡ true
  pub volumes : 0 < volume_of f
  pub allowed : allowed_by l (allowed_flags f) ≡ true

module _ {l f : List ℕ} (t : Passed l f) where
  gas : analysed l ≡ true
  gas = eq-eqb _ _ t.kind_is

  -- ---- the form, test by test
  record Form : Type 0 where
    flags-le : flags l ≤ 7
    unflagged : not (carbon_flagged l) ≡ true
    first : 1 ≤ month l
    last : month l ≤ 12
    amount_le : amount l ≤ 100000000
    carbon_le : carbon l ≤ 1000000
    weight_ge : 1 ≤ molecular_weight l
    weight_le : molecular_weight l ≤ 200000
    blank : gas_blank l ≡ true

  form : Form
  unfolding gas_right
  form =
      let weights = also_l _ _ t.formed in
      let weight = also_l _ _ weights in
      let carbons = also_l _ _ weight in
      let amounts = also_l _ _ carbons in
      let months = also_l _ _ amounts in
      let begun = also_l _ _ months in
      let flagged = also_l _ _ begun in
      record {
        flags-le = leb-true _ _ (also_l _ _ flagged);
        unflagged = also_r _ _ flagged;
        first = leb-true _ _ (also_r _ _ begun);
        last = leb-true _ _ (also_r _ _ months);
        amount_le = leb-true _ _ (also_r _ _ amounts);
        carbon_le = leb-true _ _ (also_r _ _ carbons);
        weight_ge = leb-true _ _ (also_r _ _ weight);
        weight_le = leb-true _ _ (also_r _ _ weights);
        blank = also_r _ _ t.formed;
      }

  heated : Heated l f
  heated = allowed_by_gas l f form.flags-le t.allowed

  -- ---- the molar volume of a gas
  gaseous : eqb (fuel_kind f) 3 ≡ true
  unfolding volume_of
  gaseous =
      let some = t.volumes in
      if_test (eqb (fuel_kind f) 3) (λ yes. yes)
      (λ no. let none : volume_of f ≡ 0 = choose_f _ no refl in absurd (omega arith))

  volume_is : volume_of f ≡ molar_volume f
  unfolding volume_of
  volume_is = choose_t _ gaseous refl

  -- Class 3 goes only with kind 1, so that no gas is biomass.
  not-biomass : eqb (fuel_class f) 3 ≡ false
  unfolding fuel_ok fuel_head_ok kind_class_ok
  not-biomass =
      let gas-kind = eqb-true (fuel_kind f) 3 gaseous in
      let heats = also_l _ _ (also_l _ _ (also_l _ _ (also_l _ _ (also_l _ _ (also_l _ _ t.sound))))) in
      let agree = also_r _ _ (also_l _ _ heats) in
      ne_eqb (fuel_class f) 3 (λ three.
      let not-1 = also_f _ (ne_eqb (fuel_class f) 1 (λ e. omega arith)) in
      let not_2 = also_f _ (ne_eqb (fuel_class f) 2 (λ e. omega arith)) in
      let neither = either_f (either_f (ne_eqb (fuel_class f) 0 (λ e. omega arith)) not-1) not_2 in
      let solid = eqb-true (fuel_kind f) 1 (also_r _ _ (sym (either_f neither refl) ∙ agree)) in
      omega arith)

  fossil : ledger_of 0 f ≡ Fossil
  unfolding ledger_of
  fossil = choose_t _ (eq-eqb 0 0 refl) (choose_f _ not-biomass refl)

  -- ---- it counts
  carbon_form_right : carbon_form l ≡ true
  unfolding carbon_form
  carbon_form_right = choose_t _ gas (also_t form.unflagged form.blank)

  carbon_range_right : carbon_range l f ≡ true
  unfolding carbon_range gas_range
  carbon_range_right =
      let told = le_trans t.volumes (le_of_eq volume_is) in
      choose_t _ gas
      (also_t (also_t (also_t (also_t gaseous (lt-ltb _ _ told)) (le-leb _ _ form.carbon_le))
      (le-leb 1 _ form.weight_ge)) (le-leb _ _ form.weight_le))

  passes : (u : List ℕ) → Passes l u f
  passes u = record {
    fuel = let three = t.kind_is in either_f (ne_eqb (kind l) 1 (λ e. omega arith)) gas;
    formed = fuel_form_right l t.heats f heated form.flags-le carbon_form_right;
    heats = t.heats;
    heated = heated;
    ranges = fuel_ranges_right l t.heats f heated form.first form.last form.amount_le carbon_range_right;
    permitted =
        if_test (monitored u)
        (λ m. le_trans (lit≤ tt) (le_of_eq (sym (method_of-monitored l u f m))))
        (λ m. le_trans (lit≤ tt) (le_of_eq (sym (method_of-analysed l u f m gas))));
  }

  -- ---- its CO2
  module _ (u : List ℕ) (x : Share) (way_is : x.way ≡ 2 + flags l % 2) (carbon-none : x.carbon ≡ 0)
      (co2_is : x.co2.0 ≡ (co2_of_gas (record { 0 = amount l * (1 - way_of u / 4) }) (record { 0 = carbon l })
      (record { 0 = molecular_weight l }) (record { 0 = volume_of f })).0) where
    no_carbon : (m : ℕ) → x.carbon * carbon_of m ≡ 0
    no_carbon m = ap (λ (c : ℕ). c * carbon_of m) carbon-none ∙ zero-mul (carbon_of m)

    monitored_co2 : monitored u ≡ true → Monitored l u f x 1
    unfolding way_of co2_by
    monitored_co2 m =
        let four : way_of u ≡ 4 = choose_t _ m refl in
        let nothing : amount l * (1 - way_of u / 4) ≡ 0 = times_zero (amount l) (ap (λ (y : ℕ). 1 - y / 4) four) in
        let none : x.co2.0 ≡ 0 = co2_is ∙ co2_of_gas-none _ _ _ _ nothing t.volumes in
        let by_heat = times_zero x.burned (co2_of_other f (4 * 1 + x.way) (omega arith)) in
        record {
          two = lit< tt;
          way_is = four;
          ledger = destination_monitored l u f m;
          co2_is =
              ap (λ (y : Ug). y.0) (choose_t _ (eq-eqb _ _ (method_of-monitored l u f m)) refl)
              ∙ omega (arith, no_carbon 1);
          fossil_co2 = λ other. none;
        }

    unmonitored_co2 : monitored u ≡ false → Monitored l u f x 0
    unfolding way_of co2_by co2_by_carbon
    unmonitored_co2 m =
        let zero : way_of u ≡ 0 = choose_f _ m refl in
        let three = method_of-analysed l u f m gas in
        let whole : amount l * (1 - way_of u / 4) ≡ amount l =
        ap (λ (y : ℕ). amount l * (1 - y / 4)) zero ∙ mul-one (amount l) in
        let by_heat = times_zero x.burned (co2_of_other f (4 * 0 + x.way) (omega arith)) in
        let told = co2_is ∙ λ i. (co2_of_gas (record { 0 = whole i }) (record { 0 = carbon l })
        (record { 0 = molecular_weight l }) (record { 0 = volume_is i })).0 in
        record {
          two = lit< tt;
          way_is = zero;
          ledger = destination_unmonitored l u f m;
          co2_is =
              ap (λ (y : Ug). y.0) (choose_f _ (ne_eqb (method_of l u f) 4 (λ e. omega arith))
              (choose_t _ (eq-eqb _ _ three) (choose_t _ gas refl)))
              ∙ sym told
              ∙ omega (arith, no_carbon 0);
          fossil_co2 = λ other. absurd (other (destination_unmonitored l u f m ∙ fossil));
        }

-- ---- the tests by an index: of the record m, and of lines j and k in the columns us and fs
pub record Tested (m us fs : List ℕ) (unit fuel j k : ℕ) : Type 0 where
  pub unit_has : get_or us j 0 ≡ unit
  pub fuel_has : get_or fs k 0 ≡ fuel
  pub formed : gas_right m ≡ true
  pub heats : heat_right m ≡ true
  pub volumes : 0 < get_or fs (256 + k) 0
  pub allowed : allowed_by m (get_or fs (128 + k) 0) ≡ true

pub tested : {a b form heat allowed : Bool} (m us fs : List ℕ) (unit fuel j k : ℕ)
    → a ≡ eqb (get_or us j 0) unit → b ≡ eqb (get_or fs k 0) fuel → form ≡ gas_right m → heat ≡ heat_right m → allowed ≡ allowed_by m (get_or fs (128 + k) 0)
    → (a && b && form && heat && ltb 0 (get_or fs (256 + k) 0) && allowed) ≡ true
    → Tested m us fs unit fuel j k
tested m us fs unit fuel j k a b form heat allowed all =
    let row = is (both (both (both (both (both a b) form) heat) refl) allowed) all in
    let volumes = also_l _ _ row in
    let heats = also_l _ _ volumes in
    let formed = also_l _ _ heats in
    let has = also_l _ _ formed in
    record {
      unit_has = eqb-true _ _ (also_l _ _ has);
      fuel_has = eqb-true _ _ (also_r _ _ has);
      formed = also_r _ _ formed;
      heats = also_r _ _ heats;
      volumes = ltb-true _ _ (also_r _ _ volumes);
      allowed = also_r _ _ row;
    }

module _ {h : Head} {s : List ℕ} {i : ℕ} {m us fs : List ℕ} {unit fuel j k : ℕ} (w : Found h s i m us fs j k)
    (t : Tested m us fs unit fuel j k) (kind_is : kind (line i s) ≡ 3) where
  passed : Passed (line i s) (line k (fuel_lines h s))
  passed = record {
    sound = fuel-sound w;
    kind_is = kind_is;
    formed = sym (ap gas_right w.unit.line_is) ∙ t.formed;
    heats = sym (ap heat_right w.unit.line_is) ∙ t.heats;
    volumes = le_trans t.volumes (le_of_eq (fuel-entry w w.fuels.volumes));
    allowed =
        sym (ap₂ allowed_by w.unit.line_is (fuel-entry w w.fuels.allowed))
        ∙ t.allowed;
  }

  -- A line was found, so that its entry tells a monitor or none.
  pub way_found_le : get_or us (128 + j) 0 ≤ 4
  way_found_le = le_trans (le_of_eq (unit_entry w.unit w.unit.units.ways)) (way_of-le _)

  -- What `mass` asks of such gas, however much of it counts.
  pub gas_in_reach : {a c y : ℕ} → a ≡ amount m → c ≡ carbon m → y ≡ molecular_weight m
      → GasInReach (a * (1 - get_or us (128 + j) 0 / 4)) c y (get_or fs (256 + k) 0)
  gas_in_reach {a} {c} {y} amount-is carbon-is weight_is =
      let l = line i s in
      let f = line k (fuel_lines h s) in
      let r = (reach l f (passes passed (line j (unit_lines h s))).ranges (fuel-sound w)).by_gas (gas passed) in
      let volume = fuel-entry w w.fuels.volumes ∙ volume_is passed in
      let few = le_trans (le_of_eq (amount-is ∙ ap amount w.unit.line_is)) r.amount_le in
      record {
        amount_le = mul-le-mul {n₂ = 100000000} {m₂ = 1} few (omega arith);
        carbon_le = le_trans (le_of_eq (carbon-is ∙ ap carbon w.unit.line_is)) r.carbon_le;
        weight_le = le_trans (le_of_eq (weight_is ∙ ap molecular_weight w.unit.line_is)) r.weight_le;
        volume_ge = le_trans r.volume_ge (le_of_eq (sym volume));
        volume_le = le_trans (le_of_eq volume) r.volume_le;
      }

  pub settled_gas : (x : Share) → x.at ≡ 16 * k + get_or us (128 + j) 0 → x.way ≡ 2 + flags m % 2
      → x.burned ≡ amount_burned m → x.carbon ≡ 0
      → x.co2 ≡ co2_of_gas (record { 0 = amount m * (1 - get_or us (128 + j) 0 / 4) }) (record { 0 = carbon m })
      (record { 0 = molecular_weight m }) (record { 0 = get_or fs (256 + k) 0 })
      → Shared (outcome_at h s i) (fuel_lines h s) x
  settled_gas x at_is way_is burned_is carbon-none co2_is =
      let u = line j (unit_lines h s) in
      let e = w.unit.line_is in
      let Way-of = unit_entry w.unit w.unit.units.ways in
      let volume = fuel-entry w w.fuels.volumes in
      let way : x.way ≡ 2 + flags (line i s) % 2 = way_is ∙ ap (λ (l : List ℕ). 2 + flags l % 2) e in
      let co2 = ap (λ (y : Ug). y.0) (co2_is ∙ λ a. co2_of_gas (record { 0 = amount (e a) * (1 - Way-of a / 4) })
      (record { 0 = carbon (e a) }) (record { 0 = molecular_weight (e a) }) (record { 0 = volume a })) in
      settled w (passes passed u) x
      (record {
        few = (form passed).amount_le;
        at_is = at_is ∙ ap (λ (y : ℕ). 16 * k + y) Way-of;
        way_lt = omega arith;
        way_odd = omega arith;
        burned_is = burned_is ∙ ap amount_burned e;
        carbon_le = omega arith;
      })
      (monitored_co2 passed u x way carbon-none co2)
      (unmonitored_co2 passed u x way carbon-none co2)
