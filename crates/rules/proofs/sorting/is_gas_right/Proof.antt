-- The code's row of tests is the definition's. Assumes nothing.
use Rattle.std.proofs.Common.{not, leb, rules}
use Rattle.choice.proofs.TestsLaws.{both}
use Rattle.rules.specs.AtOnce.{gas_right}
use Rattle.rules.proofs.sorting.is_gas_right.Statement.{statement}
use Rattle.rules.proofs.sorting.is_gas_right.Tie as tie

returns : tie.Need-returns
unfolding gas_right
returns c =
    let read = c in
    let flags = read.flags-flags.ensures in
    let month = read.period-month.ensures in
    let amount = read.amount-amount.ensures in
    let carbon = read.carbon-carbon.ensures in
    let weight = read.molecular_weight-weight.ensures in
    let flagged = c.is_carbon_flagged.ensures in
    let flags-told = both (λ i. leb (flags i) 7) (λ i. not (flagged i)) in
    let months = both (both flags-told (λ i. leb 1 (month i))) (λ i. leb (month i) 12) in
    let carbons = both (both months (λ i. leb (amount i) 100000000)) (λ i. leb (carbon i) 1000000) in
    let weights = both (both carbons (λ i. leb 1 (weight i))) (λ i. leb (weight i) 200000) in
    both weights c.is_gas_blank.ensures

pub is_gas_right_spec : {M : Type 1} → statement M
is_gas_right_spec =
    tie.close
    (tie.spec (λ c κs. search rules) (λ c κs. search rules) (λ c κs. search rules) (λ c κs. search rules)
    (λ c κs. search rules) (λ c κs. search rules) (λ c κs. search rules) returns)
