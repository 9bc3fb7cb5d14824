-- The quotient by a tonne is carried and the remainder stays, which is how `ledger_of` parts a mass.
-- Assumes nothing.
use native.Mathlib.Omega.{arith}
use borrow.Author.Rules.{rules}
use Rattle.mass.proofs.LedgerLaws.{ledger_of_unique}
use Rattle.mass.proofs.ledger.carry.Statement.{statement}
use Rattle.mass.proofs.ledger.carry.Tie as tie

add-t4 : tie.Need-overflow_add-result
add-t4 c = search rules

returns : tie.Need-returns
returns c = ledger_of_unique _ _ (omega arith) (omega arith)

pub carry_spec : {M : Type 1} → statement M
carry_spec = tie.close (tie.spec add-t4 returns)
