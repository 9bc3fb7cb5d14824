-- A heat in its range leaves room for the product. Assumes nothing.
use Rattle.std.proofs.Common.{◌≡◌, ◌+◌, ◌-◌, ◌*◌, ◌%◌, ◌≤◌, mul-le-mul, arith, rules}
use Rattle.rules.specs.Entry.{measured_heat}
use Rattle.rules.specs.AtOnce.{amount_burned}
use Rattle.rules.proofs.EntryLaws.{measured_heat-le}
use Rattle.rules.proofs.SortingLaws.{heat_limit_right}
use Rattle.rules.proofs.sorting.find_burned.Statement.{statement}
use Rattle.rules.proofs.sorting.find_burned.Tie as tie

find-measured-requires : tie.Need-find_measured-heat-requires
find-measured-requires c κs = heat_limit_right _ c.requires

mul-result : tie.Need-overflow_mul-result
mul-result c =
    let found = c in
    let begun = found in
    let heat-is : found.find_measured-heat.result.0 ≡ (measured_heat begun.args.l.now).0 =
    λ i. (found.find_measured-heat.ensures i).0 in
    let few = measured_heat-le _ (heat_limit_right _ begun.requires) in
    let product : c.amount.result * (found.find_measured-heat.result.0 + 1 - found.flags.result % 2)
    ≤ 4294967295 * 200001 = mul-le-mul {n₂ = 4294967295} {m₂ = 200001} (omega arith) (omega arith) in
    omega arith

returns : tie.Need-returns
unfolding amount_burned
returns c =
    let found = c in
    let amount = c.amount.ensures in
    let heat = found.find_measured-heat.ensures in
    let flags = found.flags.ensures in
    λ i. amount i * ((heat i).0 + 1 - flags i % 2)

pub find_burned_spec : {M : Type 1} → statement M
find_burned_spec =
    tie.close
    (tie.spec (λ c κs. search rules) (λ c. search rules) find-measured-requires (λ c κs. search rules)
    (λ c. search rules) (λ c. search rules) (λ c. search rules) (λ c. search rules) mul-result returns)
