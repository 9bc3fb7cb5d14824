-- What is below a tonne of x is below 10^15 ng, so that it may be taken to ng before it is added.
-- Assumes nothing.
use mathlib.Core.Path.{ap, ◌∙◌}
use native.Mathlib.Omega.{arith}
use borrow.Author.Rules.{rules}
use Rattle.mass.specs.Ledger.{total, ledger_of, added}
use Rattle.mass.proofs.ledger.add_ug.Statement.{statement}
use Rattle.mass.proofs.ledger.add_ug.Tie as tie

mul-rest : tie.Need-overflow_mul-rest
mul-rest c = search rules

add-carry : tie.Need-overflow_add-g
add-carry c = search rules

add-carry-2 : tie.Need-overflow_add-g-2
add-carry-2 c = search rules

carry-requires : tie.Need-carry-requires
carry-requires c κs = search rules

returns : tie.Need-returns
unfolding added total
returns c = c.carry.ensures ∙ ap ledger_of (omega arith)

pub add_ug_spec : {M : Type 1} → statement M
add_ug_spec = tie.close (tie.spec mul-rest add-carry add-carry-2 carry-requires returns)
