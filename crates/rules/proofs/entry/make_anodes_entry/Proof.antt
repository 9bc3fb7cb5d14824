-- In their ranges, the numbers are in the reach of `mass`. Assumes nothing.
use Rattle.std.proofs.Common.{ap, ◌∙◌, le_trans, le_of_eq, rules}
use Rattle.mass.specs.Anode.{co2_of_anodes}
use Rattle.rules.specs.Entry.{co2_alone, anodes_entry}
use Rattle.rules.proofs.EntryLaws.{anodes_reach}
use Rattle.rules.proofs.entry.make_anodes_entry.Statement.{statement}
use Rattle.rules.proofs.entry.make_anodes_entry.Tie as tie

metal-requires : tie.Need-metal-requires
metal-requires c κs = search rules

anode-use-requires : tie.Need-anode_use-requires
anode-use-requires c κs = search rules

sum-impurities-requires : tie.Need-sum_impurities-requires
sum-impurities-requires c κs = search rules

weigh-requires : tie.Need-weigh-requires
weigh-requires c κs =
    let metal = c.metal.ensures in
    let used = c.anode_use.ensures in
    let sum = c.sum_impurities.ensures in
    let reach = anodes_reach _ c.requires in
    record {
      metal_le = le_trans (le_of_eq metal) reach.metal_le;
      use_le = le_trans (le_of_eq used) reach.use_le;
      impurities_le = le_trans (le_of_eq sum) reach.impurities_le;
    }

give-co2-requires : tie.Need-give_co2-requires
give-co2-requires c κs = search rules

returns : tie.Need-returns
unfolding anodes_entry
returns c =
    let weighed = c in
    let sum = weighed.sum_impurities.ensures in
    let used = weighed.anode_use.ensures in
    let metal = weighed.metal.ensures in
    let co2 = weighed.weigh.ensures
    ∙ λ i. co2_of_anodes (record { 0 = metal i }) (record { 0 = used i }) (record { 0 = sum i }) in
    c.give_co2.ensures ∙ ap co2_alone co2

pub make_anodes_entry_spec : {M : Type 1} → statement M
make_anodes_entry_spec =
    tie.close
    (tie.spec
    metal-requires
    anode-use-requires
    sum-impurities-requires
    weigh-requires
    give-co2-requires
    returns)
