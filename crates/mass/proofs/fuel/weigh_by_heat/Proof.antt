-- The definition is `multiply`'s product under a type. Assumes nothing.
use borrow.Author.Rules.{rules}
use Rattle.mass.specs.Fuel.{co2_of_heat}
use Rattle.mass.proofs.fuel.weigh_by_heat.Statement.{statement}
use Rattle.mass.proofs.fuel.weigh_by_heat.Tie as tie

multiply-requires : tie.Need-multiply-co2-requires
multiply-requires c κs = search rules

returns : tie.Need-returns
unfolding co2_of_heat
returns c = λ i. record { 0 = c.multiply-co2.ensures i }

pub weigh_by_heat_spec : {M : Type 1} → statement M
weigh_by_heat_spec = tie.close (tie.spec multiply-requires returns)
