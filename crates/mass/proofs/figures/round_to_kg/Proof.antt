-- A tonne is a whole number of kilograms, so that only the rest is rounded. Assumes nothing.
use mathlib.Core.Path.{refl}
use borrow.Author.Rules.{rules}
use Rattle.mass.specs.Ledger.{total}
use Rattle.mass.proofs.FiguresLaws.{kg_of_parts}
use Rattle.mass.proofs.figures.round_to_kg.Statement.{statement}
use Rattle.mass.proofs.figures.round_to_kg.Tie as tie

mul-kg : tie.Need-overflow_mul-kg
mul-kg c = search rules

add-kg : tie.Need-overflow_add-kg
add-kg c = search rules

add-kg-2 : tie.Need-overflow_add-kg-2
add-kg-2 c = search rules

returns : tie.Need-returns
unfolding total
returns c = kg_of_parts _ _ _ refl

pub round_to_kg_spec : {M : Type 1} → statement M
round_to_kg_spec = tie.close (tie.spec mul-kg add-kg add-kg-2 returns)
