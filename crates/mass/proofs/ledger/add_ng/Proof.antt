-- The rest and x fit 64 bits together, and `carry` takes the tonnes out of their sum. Assumes nothing.
use mathlib.Core.Path.{ap, ◌∙◌}
use native.Mathlib.Omega.{arith}
use borrow.Author.Rules.{rules}
use Rattle.mass.specs.Ledger.{total, ledger_of, added}
use Rattle.mass.proofs.ledger.add_ng.Statement.{statement}
use Rattle.mass.proofs.ledger.add_ng.Tie as tie

add-carry : tie.Need-overflow_add-g
add-carry c = search rules

carry-requires : tie.Need-carry-requires
carry-requires c κs = search rules

returns : tie.Need-returns
unfolding added total
returns c = c.carry.ensures ∙ ap ledger_of (omega arith)

pub add_ng_spec : {M : Type 1} → statement M
add_ng_spec = tie.close (tie.spec add-carry carry-requires returns)
