-- The code's row of tests is the definition's. Assumes nothing.
use Rattle.std.proofs.Common.{refl, rules}
use Rattle.choice.proofs.TestsLaws.{both}
use Rattle.rules.specs.Table.{is_table}
use Rattle.rules.proofs.table.is_table.Statement.{statement}
use Rattle.rules.proofs.table.is_table.Tie as tie

mul-result : tie.Need-overflow_mul-result
mul-result c = search rules

returns : tie.Need-returns
unfolding is_table
returns c = both refl refl

pub is_table_spec : {M : Type 1} → statement M
is_table_spec = tie.close (tie.spec mul-result returns)
