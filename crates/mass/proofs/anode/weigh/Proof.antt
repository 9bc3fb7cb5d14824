-- At the full ranges the product is 3.7 × 10^18, below 2^63. Assumes nothing.
use native.Mathlib.Omega.{arith}
use lib.Dec.{lit<}
use borrow.Author.Rules.{rules}
use Rattle.mass.specs.Anode.{co2_of_anodes}
use Rattle.mass.proofs.AnodeLaws.{anodes_le, anodes_carbon-le, anodes_product_le}
use Rattle.mass.proofs.anode.weigh.Statement.{statement}
use Rattle.mass.proofs.anode.weigh.Tie as tie

cast-anodes : tie.Need-overflow_cast-anodes
cast-anodes c = search rules

cast-anodes-2 : tie.Need-overflow_cast-anodes-2
cast-anodes-2 c = search rules

mul-anodes : tie.Need-overflow_mul-anodes
mul-anodes c = omega (arith, anodes_le c.before.before.requires)

cast-carbon : tie.Need-overflow_cast-carbon
cast-carbon c = search rules

sub-carbon : tie.Need-overflow_sub-carbon
sub-carbon c = search rules

mul-carbon : tie.Need-overflow_mul-carbon
mul-carbon c = omega (arith, anodes_carbon-le c.before.before.before.requires)

mul-tenths : tie.Need-overflow_mul-tenths
mul-tenths c = omega (arith, anodes_product_le c.before.before.before.requires)

round-fraction-requires : tie.Need-round_fraction-co2-requires
round-fraction-requires c κs = (omega (arith, anodes_product_le c.before.before.before.requires), lit< tt)

returns : tie.Need-returns
unfolding co2_of_anodes
returns c = λ i. record { 0 = c.round_fraction-co2.ensures i }

pub weigh_spec : {M : Type 1} → statement M
weigh_spec =
    tie.close
    (tie.spec
    cast-anodes
    cast-anodes-2
    mul-anodes
    cast-carbon
    sub-carbon
    mul-carbon
    mul-tenths
    round-fraction-requires
    returns)
