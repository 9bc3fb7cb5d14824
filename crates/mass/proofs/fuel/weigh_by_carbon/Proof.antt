-- At the full ranges the product is 1.5 × 10^18, below 2^64. Assumes nothing.
use mathlib.Core.Path.{refl}
use native.Mathlib.Omega.{arith}
use borrow.Author.Rules.{rules}
use Rattle.mass.specs.Fuel.{co2_of_carbon}
use Rattle.mass.proofs.FuelLaws.{carbon_le, carbon_product_le}
use Rattle.mass.proofs.fuel.weigh_by_carbon.Statement.{statement}
use Rattle.mass.proofs.fuel.weigh_by_carbon.Tie as tie

cast-carbon : tie.Need-overflow_cast-carbon
cast-carbon c = search rules

cast-carbon-2 : tie.Need-overflow_cast-carbon-2
cast-carbon-2 c = search rules

mul-carbon : tie.Need-overflow_mul-carbon
mul-carbon c = omega (arith, carbon_le c.before.before.requires)

mul-co2 : tie.Need-overflow_mul-co2
mul-co2 c = omega (arith, carbon_product_le c.before.before.requires)

returns : tie.Need-returns
unfolding co2_of_carbon
returns c = refl

pub weigh_by_carbon_spec : {M : Type 1} → statement M
weigh_by_carbon_spec = tie.close (tie.spec cast-carbon cast-carbon-2 mul-carbon mul-co2 returns)
