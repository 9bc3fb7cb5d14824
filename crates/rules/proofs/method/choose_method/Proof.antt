-- The code asks in the order of the list, and each way out is a case of it. Assumes nothing.
use Rattle.std.proofs.Common.{◌≡◌, ℕ, true, false, ◌||◌, eqb, leb, List, sym, refl, ◌∙◌, rules}
use Rattle.std.proofs.lemmas.Bool.{le-leb, lt-leb}
use Rattle.choice.specs.Tests.{◌either◌}
use Rattle.choice.proofs.TestsLaws.{is, any, zero_of, positive_of, choose_t, choose_f}
use Rattle.rules.specs.Fields.{monitored, fuel_class, heat_measured, carbon_measured}
use Rattle.rules.specs.Method.{small}
use Rattle.rules.proofs.MethodLaws.{method_of-monitored, method_of-carbon, method_of-heat, method_of_default}
use Rattle.rules.proofs.method.choose_method.Statement.{statement}
use Rattle.rules.proofs.method.choose_method.Tie as tie

-- ---- the lines, and what is known of them on the way
abbrev entry : tie.Else-is_monitored → tie.Start
entry c = c.before.before

abbrev record-line : tie.Else-is_monitored → List ℕ
record-line c = (entry c).args.l.now

abbrev unit-line : tie.Else-is_monitored → List ℕ
unit-line c = (entry c).args.u.now

abbrev fuel-line : tie.Else-is_monitored → List ℕ
fuel-line c = (entry c).args.f.now

unmonitored : (c : tie.Else-is_monitored) → monitored (unit-line c) ≡ false
unmonitored c = is c.is_monitored.ensures c.if-is_monitored.false

no_carbon : (c : tie.Else-is_carbon_measured) → carbon_measured (record-line c.before.before) ≡ false
no_carbon c = is c.is_carbon_measured.ensures c.if-is_carbon_measured.false

rated : (c : tie.After-rating-small) → leb c.rating-small.result 2500 ≡ small (unit-line c.before.before.before)
rated c = λ i. leb (c.rating-small.ensures i) 2500

heated : (c : tie.Then-is_heat_measured) → heat_measured (record-line c.before.before.before.before.before) ≡ true
heated c = is c.is_heat_measured.ensures c.if-is_heat_measured.true

unheated : (c : tie.Else-is_heat_measured) → heat_measured (record-line c.before.before.before.before.before) ≡ false
unheated c = is c.is_heat_measured.ensures c.if-is_heat_measured.false

-- ---- the ways out
is-monitored-requires : tie.Need-is_monitored-requires
is-monitored-requires c κs = search rules

returns : tie.Need-returns-then-is_monitored
returns c = sym (method_of-monitored _ _ _ (is c.is_monitored.ensures c.if-is_monitored.true))

is-carbon-measured-requires : tie.Need-is_carbon_measured-requires
is-carbon-measured-requires c κs = search rules

returns-2 : tie.Need-returns-then-is_carbon_measured
returns-2 c =
    let measured = is c.is_carbon_measured.ensures c.if-is_carbon_measured.true in
    sym (method_of-carbon _ _ _ (unmonitored c.before.before) measured)

rating-requires : tie.Need-rating-small-requires
rating-requires c κs = search rules

is-heat-measured-requires : tie.Need-is_heat_measured-requires
is-heat-measured-requires c κs = search rules

fuel-class-requires : tie.Need-fuel_class-class-requires
fuel-class-requires c κs = search rules

-- What the test of a measured heat says.
permitted : (c : tie.After-fuel_class-class) →
    let rating = c.rating-small.result in
    let class = c.fuel_class-class.result in
    let u = unit-line c.before.before.before.before.before.before in
    let f = fuel-line c.before.before.before.before.before.before in
    (leb rating 2500 || eqb class 1 || eqb class 2) ≡ (small u either eqb (fuel_class f) 1 either eqb (fuel_class f) 2)
permitted c =
    let class = c.fuel_class-class.ensures in
    any (any (rated c.before.before.before) (λ i. eqb (class i) 1)) (λ i. eqb (class i) 2)

returns-3 : tie.Need-returns-then-small-class
returns-3 c =
    let h = c in
    let n = h in
    sym (method_of-heat _ _ _ (unmonitored n.before.before.before.before.before.before.before) (no_carbon n.before.before.before.before.before) (heated h.before.before)
    ∙ choose_t _ (is (permitted c.before) c.if-small-class.true) refl)

returns-4 : tie.Need-returns-then-is_heat_measured
returns-4 c =
    let h = c in
    let n = h in
    sym (method_of-heat _ _ _ (unmonitored n.before.before.before.before.before.before.before) (no_carbon n.before.before.before.before.before) (heated h.before.before)
    ∙ choose_f _ (is (permitted c.before) c.if-small-class.false) refl)

default-heat-requires : tie.Need-default_heat-requires
default-heat-requires c κs = search rules

returns-5 : tie.Need-returns-then-default_heat-eq0
returns-5 c =
    let h = c in
    let n = h in
    sym (method_of_default _ _ _ (unmonitored n.before.before.before.before.before.before.before) (no_carbon n.before.before.before.before.before) (unheated h.before.before)
    ∙ choose_f _ (zero_of c.default_heat.ensures c.if-default_heat-eq0.true) refl)

returns-6 : tie.Need-returns-then-small
returns-6 c =
    let d = c in
    let h = d in
    let n = h in
    sym (method_of_default _ _ _ (unmonitored n.before.before.before.before.before.before.before.before) (no_carbon n.before.before.before.before.before.before) (unheated h.before.before.before)
    ∙ choose_t _ (positive_of d.default_heat.ensures c.if-default_heat-eq0.false)
    (choose_t _ (is (rated h.before.before.before.before.before) (le-leb _ _ c.if-small.true)) refl))

returns-7 : tie.Need-returns
returns-7 c =
    let d = c in
    let h = d in
    let n = h in
    sym (method_of_default _ _ _ (unmonitored n.before.before.before.before.before.before.before.before) (no_carbon n.before.before.before.before.before.before) (unheated h.before.before.before)
    ∙ choose_t _ (positive_of d.default_heat.ensures c.if-default_heat-eq0.false)
    (choose_f _ (is (rated h.before.before.before.before.before) (lt-leb _ _ c.if-small.false)) refl))

pub choose_method_spec : {M : Type 1} → statement M
choose_method_spec =
    tie.close
    (tie.spec
    is-monitored-requires
    returns
    is-carbon-measured-requires
    returns-2
    rating-requires
    is-heat-measured-requires
    fuel-class-requires
    returns-3
    returns-4
    default-heat-requires
    returns-5
    returns-6
    returns-7)
