-- A low value in its range stays far below 2^32 when it is multiplied. Assumes nothing.
use mathlib.Core.Path.{refl}
use borrow.Author.Rules.{rules}
use Rattle.mass.proofs.FuelLaws.{high_of_hundredths}
use Rattle.mass.proofs.fuel.find_high.Statement.{statement}
use Rattle.mass.proofs.fuel.find_high.Tie as tie

mul-hundredths : tie.Need-overflow_mul-hundredths
mul-hundredths c = search rules

add-kj : tie.Need-overflow_add-kj
add-kj c = search rules

returns : tie.Need-returns
returns c = high_of_hundredths _ _ refl

pub find_high_spec : {M : Type 1} → statement M
find_high_spec = tie.close (tie.spec mul-hundredths add-kj returns)
