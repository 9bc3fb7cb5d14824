-- Where the rest to subtract is the larger, a tonne is borrowed, and there is one: x's total is at
-- most g's. Assumes nothing.
use native.Mathlib.Omega.{arith}
use borrow.Author.Rules.{rules}
use Rattle.mass.specs.Ledger.{total}
use Rattle.mass.proofs.LedgerLaws.{ledger_of_unique}
use Rattle.mass.proofs.ledger.subtract.Statement.{statement}
use Rattle.mass.proofs.ledger.subtract.Tie as tie

sub-t4 : tie.Need-overflow_sub-result
unfolding total
sub-t4 c = omega arith

returns : tie.Need-returns-then-x-g
unfolding total
returns c = ledger_of_unique _ _ (omega arith) (omega arith)

sub-t7 : tie.Need-overflow_sub-result-2
unfolding total
sub-t7 c = omega arith

sub-t8 : tie.Need-overflow_sub-result-3
unfolding total
sub-t8 c = omega arith

add-t9 : tie.Need-overflow_add-result
add-t9 c = search rules

sub-t10 : tie.Need-overflow_sub-result-4
sub-t10 c = search rules

returns-2 : tie.Need-returns
unfolding total
returns-2 c = ledger_of_unique _ _ (omega arith) (omega arith)

pub subtract_spec : {M : Type 1} → statement M
subtract_spec = tie.close (tie.spec sub-t4 returns sub-t7 sub-t8 add-t9 sub-t10 returns-2)
