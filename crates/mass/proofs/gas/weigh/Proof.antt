-- The ranges give each part of the product its room. Assumes nothing.
use mathlib.Core.Path.{◌∙◌}
use native.Mathlib.Nat.{lt_of_lt_of_le}
use native.Mathlib.Omega.{arith}
use lib.Dec.{lit<}
use borrow.Author.Rules.{rules}
use Rattle.mass.proofs.GasLaws.{gas_carbon-le, gas_weight_le, gas_left_lt, gas_whole-lt, co2_of_gas_product}
use Rattle.mass.proofs.gas.weigh.Statement.{statement}
use Rattle.mass.proofs.gas.weigh.Tie as tie

cast-carbon : tie.Need-overflow_cast-carbon
cast-carbon c = search rules

cast-carbon-2 : tie.Need-overflow_cast-carbon-2
cast-carbon-2 c = search rules

mul-carbon : tie.Need-overflow_mul-carbon
mul-carbon c = omega (arith, gas_carbon-le c.before.before.requires)

cast-weight : tie.Need-overflow_cast-weight
cast-weight c = search rules

mul-weight : tie.Need-overflow_mul-weight
mul-weight c = omega (arith, gas_weight_le c.before.before.before.requires)

round-product-requires : tie.Need-round_product-co2-requires
round-product-requires c κs =
    let r = c.before.before.before.requires in
    (lt_of_lt_of_le (lit< tt) r.volume_ge, (gas_left_lt r, gas_whole-lt r))

returns : tie.Need-returns
returns c =
    let a = c.before.before.before.before.args in
    let mass = c.round_product-co2.ensures ∙ co2_of_gas_product a.a a.c a.w a.v in
    λ i. record { 0 = mass i }

pub weigh_spec : {M : Type 1} → statement M
weigh_spec =
    tie.close
    (tie.spec
    cast-carbon
    cast-carbon-2
    mul-carbon
    cast-weight
    mul-weight
    round-product-requires
    returns)
