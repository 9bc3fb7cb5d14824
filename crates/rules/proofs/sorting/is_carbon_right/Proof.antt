-- The code's test is the definition's, and the limit leaves room for the product. Assumes nothing.
use Rattle.std.proofs.Common.{◌*◌, ◌/◌, ◌%◌, ◌≤◌, leb, mul-le-mul, arith, rules}
use Rattle.rules.specs.AtOnce.{carbon_right}
use Rattle.rules.proofs.sorting.is_carbon_right.Statement.{statement}
use Rattle.rules.proofs.sorting.is_carbon_right.Tie as tie

mul-result : tie.Need-overflow_mul-result
mul-result c =
    let limit = c.args.limit in
    let product : limit * (c.flags.result / 2 % 2) ≤ 4000000 * 1 =
    mul-le-mul {m₂ = 1} c.requires (omega arith) in
    omega arith

returns : tie.Need-returns
unfolding carbon_right
returns c =
    let limit = c.args.limit in
    let flags = c.flags.ensures in
    let carbon = c.carbon-carbon.ensures in
    λ i. leb (carbon i) (limit * (flags i / 2 % 2))

pub is_carbon_right_spec : {M : Type 1} → statement M
is_carbon_right_spec =
    tie.close (tie.spec (λ c κs. search rules) (λ c. search rules) (λ c κs. search rules) mul-result returns)
