-- From 15,000 t on the least is 15,000 t, and below it the ledger itself. Assumes nothing.
use native.Mathlib.Omega.{arith}
use Rattle.mass.specs.Ledger.{total}
use Rattle.mass.proofs.LedgerLaws.{ledger_of_unique}
use Rattle.mass.proofs.figures.cap.Statement.{statement}
use Rattle.mass.proofs.figures.cap.Tie as tie

returns : tie.Need-returns-then-g-ge-LEAVE_OUT_MOST
unfolding total
returns c = ledger_of_unique _ _ (omega arith) (omega arith)

returns-2 : tie.Need-returns
unfolding total
returns-2 c = ledger_of_unique _ _ (omega arith) (omega arith)

pub cap_spec : {M : Type 1} → statement M
cap_spec = tie.close (tie.spec returns returns-2)
