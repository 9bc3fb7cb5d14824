-- The ranges keep the products in reach, and the kind of the record decides between the masses.
-- Assumes nothing.
use Rattle.std.proofs.Common.{sym, refl, ◌∙◌, arith, rules}
use Rattle.choice.proofs.TestsLaws.{is, choose_t, choose_f}
use Rattle.mass.specs.Fuel.{co2_of_carbon}
use Rattle.mass.specs.Gas.{co2_of_gas}
use Rattle.rules.specs.Entry.{co2_by_carbon}
use Rattle.rules.proofs.EntryLaws.{Reach, reach}
use Rattle.rules.proofs.entry.weigh_carbon.Statement.{statement}
use Rattle.rules.proofs.entry.weigh_carbon.Tie as tie

in_reach : (c : tie.After-carbon-carbon) →
    let a = c.args in
    Reach a.l.now a.f.now
in_reach c =
    let h = c.requires in
    reach _ _ h.0 h.1

amount-requires : tie.Need-amount-requires
amount-requires c κs = search rules

carbon-requires : tie.Need-carbon-carbon-requires
carbon-requires c κs = search rules

is-analysed-requires : tie.Need-is_analysed-requires
is-analysed-requires c κs = search rules

molecular-weight-requires : tie.Need-molecular_weight-requires
molecular-weight-requires c κs = search rules

molar-volume-requires : tie.Need-molar_volume-requires
molar-volume-requires c κs = search rules

weigh-requires : tie.Need-weigh-requires
weigh-requires c κs =
    let test = c in
    let read = test in
    let amount = read.amount.ensures in
    let carbon = read.carbon-carbon.ensures in
    let weight = c.molecular_weight.ensures in
    let volume = c.molar_volume.ensures in
    let r = (in_reach read.before.before.before.before).by_gas (is test.is_analysed.ensures test.if-is_analysed.true) in
    record {
      amount_le = omega arith;
      carbon_le = omega arith;
      weight_le = omega arith;
      volume_ge = omega arith;
      volume_le = omega arith;
    }

returns : tie.Need-returns-then-is_analysed
unfolding co2_by_carbon
returns c =
    let test = c in
    let read = test in
    let amount = read.amount.ensures in
    let carbon = read.carbon-carbon.ensures in
    let weight = c.molecular_weight.ensures in
    let volume = c.molar_volume.ensures in
    c.weigh.ensures
    ∙ (λ i. co2_of_gas (record { 0 = amount i }) (record { 0 = carbon i }) (record { 0 = weight i }) (record { 0 = volume i }))
    ∙ sym (choose_t _ (is test.is_analysed.ensures test.if-is_analysed.true) refl)

weigh-by-carbon-requires : tie.Need-weigh_by_carbon-requires
weigh-by-carbon-requires c κs =
    let read = c in
    let amount = read.amount.ensures in
    let carbon = read.carbon-carbon.ensures in
    let r = (in_reach read.before.before).by_carbon (is c.is_analysed.ensures c.if-is_analysed.false) in
    record { amount_le = omega arith; carbon_le = omega arith }

returns-2 : tie.Need-returns
unfolding co2_by_carbon
returns-2 c =
    let test = c in
    let read = test in
    let amount = read.amount.ensures in
    let carbon = read.carbon-carbon.ensures in
    c.weigh_by_carbon.ensures
    ∙ (λ i. co2_of_carbon (record { 0 = amount i }) (record { 0 = carbon i }))
    ∙ sym (choose_f _ (is test.is_analysed.ensures test.if-is_analysed.false) refl)

pub weigh_carbon_spec : {M : Type 1} → statement M
weigh_carbon_spec =
    tie.close
    (tie.spec
    amount-requires
    carbon-requires
    is-analysed-requires
    molecular-weight-requires
    molar-volume-requires
    weigh-requires
    returns
    weigh-by-carbon-requires
    returns-2)
