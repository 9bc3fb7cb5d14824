-- What a fuel record that passes the tests at one go gives, before the factors of its fuel enter: the heat in use is
-- the measured one or the fuel's default, and only one of the two hangs on the record. Assumes nothing.
use Rattle.std.proofs.Common.{◌≡◌, ℕ, ◌+◌, ◌-◌, ◌*◌, ◌/◌, ◌%◌, ◌<◌, ◌≤◌, true, false, eqb, List, length, get_or, sym, refl, ap, ◌∙◌, ap₂, le_trans, le_of_eq, mul_assoc, mul_comm, mul-le-mul, mul-zero, mul-one, arith, lit≤, ltb-true, lt-ltb, eq-eqb, ne_eqb, eqb-true, le-leb, leb-true, Ok}
use borrow.Author.Tests.{eqb-false, not-true}
use Rattle.choice.proofs.Splitting.{if_test}
use Rattle.choice.proofs.TestsLaws.{also_t, also_l, also_r, either_t, either_f, choose_t, choose_f, if_choose}
use Rattle.mass.specs.declared.fuel.Heat.{Heat}
use Rattle.mass.specs.Fuel.{trace_of_heat}
use Rattle.mass.proofs.FuelLaws.{trace_of_heat_is, high_of-above}
use Rattle.rules.specs.declared.book.Head.{Head}
use Rattle.rules.specs.declared.entry.Destination.TheVariants.{Fossil}
use Rattle.rules.specs.Outcome.{Outcome}
use Rattle.rules.specs.declared.sorting.Share.{Share}
use Rattle.rules.specs.declared.record.Reason.TheVariants.{WrongForm, NoUnit, NoFuel, OutOfRange, NoMethod, NoHeat}
use Rattle.rules.specs.Bytes.{line}
use Rattle.rules.specs.Fields.{monitored, default_heat, ch4_factor, n2o_factor, flags, fuelled, heat_measured, heat_low, month, amount, heat}
use Rattle.rules.specs.Book.{unit_lines, fuel_lines}
use Rattle.rules.specs.Method.{method_of}
use Rattle.rules.specs.Entry.{measured_heat, heat_in_use, amount_of, co2_by, destination_by, entry_by, fuel_entry}
use Rattle.rules.specs.Record.{carbon_form, fuel_form, heat_limit, heat_range, carbon_range, fuel_ranges, fuel_judged, fuel_outcome, outcome_at}
use Rattle.rules.specs.Index.{way_of}
use Rattle.rules.specs.Sorting.{heat_limits, heat_of, co2_of, carbon_of, ledger_of, most_burned, Shared}
use Rattle.rules.specs.AtOnce.{heat_right, amount_burned}
use Rattle.rules.proofs.MethodLaws.{method_of-monitored, method_of_unmonitored_le}
use Rattle.rules.proofs.EntryLaws.{measured_heat-le}
use Rattle.rules.proofs.RecordLaws.{check_t}
use Rattle.rules.proofs.OnceLaws.{outcome_after-fuel}
use Rattle.rules.proofs.StandsLaws.{listed-stands, Found, unit_stands, fuel-stands}
use Rattle.rules.proofs.MaskLaws.{Heated, heat_limits_at}

-- ---- flags
measured_odd : (l : List ℕ) → heat_measured l ≡ true → flags l % 2 ≡ 1
measured_odd l = eqb-true (flags l % 2) 1

unmeasured_even : (l : List ℕ) → heat_measured l ≡ false → flags l % 2 ≡ 0
unmeasured_even l none = let other = eqb-false (flags l % 2) 1 none in omega arith

-- ---- the heat
module _ (l : List ℕ) (h : heat_right l ≡ true) where
  limits : (get_or heat_limits (flags l % 8) 0 ≤ 200000 * (flags l % 8 % 2)) × (flags l % 8 / 4 % 2 ≡ 1 → get_or heat_limits (flags l % 8) 0 ≤ 180000)
  limits = heat_limits_at (flags l % 8) (omega arith)

  limit_le : heat l ≤ get_or heat_limits (flags l % 8) 0
  unfolding heat_right
  limit_le = leb-true _ _ (also_r _ _ h)

  heat_le : heat l ≤ 200000 * (flags l % 2)
  heat_le = omega (arith, limit_le, limits.0)

  heat-above : heat_measured l ≡ true → 0 < heat l
  unfolding heat_right
  heat-above measured =
      let least = leb-true (flags l % 2) (heat l) (also_l _ _ h) in
      omega (arith, measured_odd l measured)

  heat-none : heat_measured l ≡ false → heat l ≡ 0
  heat-none none = omega (arith, heat_le, unmeasured_even l none)

  -- A low value is flagged by 4.
  pub heat_limit_right : heat l ≤ heat_limit l
  unfolding heat_limit
  heat_limit_right =
      if_choose (λ (x : ℕ). heat l ≤ x) (heat_low l)
      (λ low. let four = eqb-true (flags l / 4 % 2) 1 low in
      le_trans limit_le (limits.1 (omega arith)))
      (λ high. omega (arith, heat_le))

  measured_heat-above : heat_measured l ≡ true → 0 < (measured_heat l).0
  unfolding measured_heat
  measured_heat-above measured =
      if_choose (λ (x : Heat). 0 < x.0) (heat_low l)
      (λ low. high_of-above _ (heat-above measured))
      (λ high. heat-above measured)

  measured_heat-none : heat_measured l ≡ false → heat_low l ≡ false → (measured_heat l).0 ≡ 0
  unfolding measured_heat
  measured_heat-none none high = ap (λ (x : Heat). x.0) (choose_f _ high refl) ∙ heat-none none

  module _ (f : List ℕ) (heated : Heated l f) where
    -- A low value is a measured one.
    not_low : heat_measured l ≡ false → heat_low l ≡ false
    not_low none = not-true (heat_low l) (sym (either_f none refl) ∙ heated.low_measured)

    heat_in_use-above : 0 < (heat_in_use l f).0
    unfolding heat_in_use
    heat_in_use-above =
        if_choose (λ (x : Heat). 0 < x.0) (heat_measured l)
        measured_heat-above
        (λ none. ltb-true _ _ (sym (either_f none refl) ∙ heated.in_use))

    heat_range_right : heat_range l f ≡ true
    unfolding heat_range
    heat_range_right =
        if_test (heat_measured l)
        (λ measured. choose_t _ measured
        (also_t (also_t (le-leb 1 _ (heat-above measured)) (le-leb _ _ heat_limit_right)) heated.low_gas))
        (λ none. choose_f _ none refl)

    -- The carbon aside, form and ranges are right.
    pub fuel_form_right : flags l ≤ 7 → carbon_form l ≡ true → fuel_form l ≡ true
    unfolding fuel_form
    fuel_form_right few carbons =
        let heats = if_test (heat_measured l) (either_t (eqb (heat l) 0))
        (λ none. either_f none (eq-eqb _ _ (heat-none none))) in
        also_t (also_t (also_t (le-leb _ _ few) heated.low_measured) heats) carbons

    pub fuel_ranges_right : 1 ≤ month l → month l ≤ 12 → amount l ≤ 100000000 → carbon_range l f ≡ true
        → fuel_ranges l f ≡ true
    unfolding fuel_ranges
    fuel_ranges_right first last few carbons =
        also_t (also_t (also_t (also_t (le-leb 1 _ first) (le-leb _ _ last)) (le-leb _ _ few)) heat_range_right) carbons

    -- ---- what was burned
    -- A way is odd if the flags are.
    odd : (v : ℕ) → v % 2 ≡ flags l % 2 → heat_measured l ≡ true → eqb (v % 2) 1 ≡ true
    odd v same measured = eq-eqb (v % 2) 1 (same ∙ measured_odd l measured)

    even : (v : ℕ) → v % 2 ≡ flags l % 2 → heat_measured l ≡ false → eqb (v % 2) 1 ≡ false
    even v same none = ne_eqb (v % 2) 1 (λ e. eqb-false (flags l % 2) 1 none (sym same ∙ e))

    burned_measured : heat_measured l ≡ true → amount_burned l ≡ amount l * (measured_heat l).0
    unfolding amount_burned
    burned_measured measured =
        let one = measured_odd l measured in
        let same : (measured_heat l).0 + 1 - flags l % 2 ≡ (measured_heat l).0 = omega arith in
        ap (λ (x : ℕ). amount l * x) same

    burned_default : heat_measured l ≡ false → amount_burned l ≡ amount l
    unfolding amount_burned
    burned_default none =
        let even = unmeasured_even l none in
        let nothing = measured_heat-none none (not_low none) in
        let same : (measured_heat l).0 + 1 - flags l % 2 ≡ 1 = omega arith in
        ap (λ (x : ℕ). amount l * x) same ∙ mul-one (amount l)

    burned_le : (v : ℕ) → v % 2 ≡ flags l % 2 → amount l ≤ 100000000 → amount_burned l ≤ most_burned v
    unfolding most_burned
    burned_le v same few =
        if_test (heat_measured l)
        (λ measured. le_trans (le_of_eq (burned_measured measured))
        (le_trans (mul-le-mul few (measured_heat-le l heat_limit_right))
        (le_of_eq (sym (choose_t _ (odd v same measured) refl)))))
        (λ none. le_trans (le_of_eq (burned_default none))
        (le_trans few (le_of_eq (sym (choose_f _ (even v same none) refl)))))

    -- The heat that isn't in it is that by which it is multiplied.
    pub burned_heat : (x v : ℕ) → v % 2 ≡ flags l % 2
        → amount_burned l * (x * heat_of f v) ≡ amount l * (heat_in_use l f).0 * x
    unfolding heat_of heat_in_use
    burned_heat x v same =
        if_test (heat_measured l)
        (λ measured.
        let factor = choose_t _ (odd v same measured) refl in
        let used = ap (λ (y : Heat). y.0) (choose_t _ measured refl) in
        ap₂ (λ (b y : ℕ). b * (x * y)) (burned_measured measured) factor
        ∙ ap (λ (y : ℕ). amount l * (measured_heat l).0 * y) (mul-one x)
        ∙ sym (ap (λ (y : ℕ). amount l * y * x) used))
        (λ none.
        let factor = choose_f _ (even v same none) refl in
        let used = ap (λ (y : Heat). y.0) (choose_f _ none refl) in
        ap₂ (λ (b y : ℕ). b * (x * y)) (burned_default none) factor
        ∙ ap (λ (y : ℕ). amount l * y) (mul_comm x (default_heat f))
        ∙ sym (mul_assoc (amount l) (default_heat f) x)
        ∙ sym (ap (λ (y : ℕ). amount l * y * x) used))

-- ---- where the CO2 goes, by whether there is a monitor
module _ (l u f : List ℕ) where
  pub destination_monitored : monitored u ≡ true → destination_by (method_of l u f) f ≡ ledger_of 1 f
  unfolding destination_by ledger_of
  destination_monitored m =
      choose_t _ (eq-eqb _ _ (method_of-monitored l u f m)) refl ∙ sym (choose_f _ (ne_eqb 1 0 (λ e. omega arith)) refl)

  pub destination_unmonitored : monitored u ≡ false → destination_by (method_of l u f) f ≡ ledger_of 0 f
  unfolding destination_by ledger_of
  destination_unmonitored m =
      let few = method_of_unmonitored_le l u f m in
      choose_f _ (ne_eqb (method_of l u f) 4 (λ e. omega arith)) refl ∙ sym (choose_t _ (eq-eqb 0 0 refl) refl)

pub way_of-le : (u : List ℕ) → way_of u ≤ 4
unfolding way_of
way_of-le u = if_choose (λ (x : ℕ). x ≤ 4) (monitored u) (λ m. lit≤ tt) (λ m. lit≤ tt)

pub times_zero : {y : ℕ} (x : ℕ) → y ≡ 0 → x * y ≡ 0
times_zero x none = ap (λ (y : ℕ). x * y) none ∙ mul-zero x

-- ---- what it gives
-- How x tells the record l of fuel line k in the unit u, the CO2 aside.
pub record Told (l u : List ℕ) (k : ℕ) (x : Share) : Type 0 where
  pub few : amount l ≤ 100000000
  pub at_is : x.at ≡ 16 * k + way_of u
  pub way_lt : x.way < 4
  pub way_odd : x.way % 2 ≡ flags l % 2
  pub burned_is : x.burned ≡ amount_burned l
  pub carbon_le : x.carbon ≤ 400000000000000

-- How it tells the CO2, m being 1 where the unit has a monitor.
abbrev pub Co2Told : List ℕ → List ℕ → List ℕ → Share → ℕ → Type 0
Co2Told l u f x m =
    (co2_by (method_of l u f) l f).0 ≡ x.burned * co2_of f (4 * m + x.way) + x.carbon * carbon_of m + x.co2.0

pub record Monitored (l u f : List ℕ) (x : Share) (m : ℕ) : Type 0 where
  pub two : m < 2
  pub way_is : way_of u ≡ 4 * m
  pub ledger : destination_by (method_of l u f) f ≡ ledger_of m f
  pub co2_is : Co2Told l u f x m
  pub fossil_co2 : (destination_by (method_of l u f) f ≡ Fossil → ⊥) → x.co2.0 ≡ 0

shared : {o : Outcome} {l u fs : List ℕ} {k m : ℕ} {x : Share} → heat_right l ≡ true → Heated l (line k fs)
    → k < length fs / 32 → o ≡ Ok (fuel_entry l u (line k fs)) → Told l u k x → Monitored l u (line k fs) x m
    → Shared o fs x
unfolding fuel_entry entry_by
shared {o} {l} {u} {fs} {k} {m} {x} h heated there counts t w = record {
  fuel = k;
  monitor = m;
  entry = fuel_entry l u (line k fs);
  counts = counts;
  there = there;
  two = w.two;
  at_is = t.at_is ∙ ap (λ (y : ℕ). 16 * k + y) w.way_is;
  way_lt = t.way_lt;
  burned_le = le_trans (le_of_eq t.burned_is) (burned_le l h (line k fs) heated x.way t.way_odd t.few);
  carbon_le = t.carbon_le;
  ledger = w.ledger;
  co2_is = w.co2_is;
  ch4_is = trace (ch4_factor (line k fs));
  n2o_is = trace (n2o_factor (line k fs));
  fossil_co2 = w.fossil_co2;
}
  where
    trace : (y : ℕ) → (trace_of_heat (amount_of l) (heat_in_use l (line k fs)) (record { 0 = y })).0
        ≡ x.burned * (y * heat_of (line k fs) x.way)
    trace y =
        trace_of_heat_is (amount_of l) (heat_in_use l (line k fs)) (record { 0 = y })
        ∙ sym (ap (λ (b : ℕ). b * (y * heat_of (line k fs) x.way)) t.burned_is
        ∙ burned_heat l h (line k fs) heated y x.way t.way_odd)

-- ---- a record l of the fuel f in the unit u whose tests are passed counts, and what is told of it is so
pub record Passes (l u f : List ℕ) : Type 0 where
  pub fuel : fuelled l ≡ true
  pub formed : fuel_form l ≡ true
  pub heats : heat_right l ≡ true
  pub heated : Heated l f
  pub ranges : fuel_ranges l f ≡ true
  pub permitted : 0 < method_of l u f

judged : {l u f : List ℕ} → Passes l u f → fuel_judged l u f ≡ Ok (fuel_entry l u f)
unfolding fuel_judged
judged {l} {u} {f} t =
    let used = heat_in_use-above l t.heats f t.heated in
    check_t OutOfRange t.ranges (check_t NoMethod (lt-ltb _ _ t.permitted) (check_t NoHeat (lt-ltb _ _ used) refl))

module _ {h : Head} {s : List ℕ} {i : ℕ} {m us fs : List ℕ} {j k : ℕ} (w : Found h s i m us fs j k)
    (t : Passes (line i s) (line j (unit_lines h s)) (line k (fuel_lines h s))) where
  counts : outcome_at h s i ≡ Ok (fuel_entry (line i s) (line j (unit_lines h s)) (line k (fuel_lines h s)))
  unfolding outcome_at fuel_outcome
  counts =
      outcome_after-fuel _ _ _ _ t.fuel
      ∙ check_t WrongForm t.formed (listed-stands (unit_stands w.unit) NoUnit _ ∙ listed-stands (fuel-stands w) NoFuel _ ∙ judged t)

  pub settled :
      let l = line i s in
      let u = line j (unit_lines h s) in
      let f = line k (fuel_lines h s) in
      (x : Share) → Told l u k x → (monitored u ≡ true → Monitored l u f x 1) → (monitored u ≡ false → Monitored l u f x 0)
      → Shared (outcome_at h s i) (fuel_lines h s) x
  settled x told with-monitor without =
      if_test (monitored (line j (unit_lines h s)))
      (λ m. shared t.heats t.heated (fuel-stands w).there counts told (with-monitor m))
      (λ m. shared t.heats t.heated (fuel-stands w).there counts told (without m))
