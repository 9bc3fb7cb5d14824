-- The code's row of tests is the definition's. Assumes nothing.
use Rattle.std.proofs.Common.{leb, refl, rules}
use Rattle.choice.proofs.TestsLaws.{both}
use Rattle.rules.specs.Table.{has_bit}
use Rattle.rules.proofs.table.has_bit.Statement.{statement}
use Rattle.rules.proofs.table.has_bit.Tie as tie

find-last-period-requires : tie.Need-find_last_period-last-requires
find-last-period-requires c κs = search rules

returns : tie.Need-returns
unfolding has_bit
returns c = let last = c.find_last_period-last.ensures in both refl (λ i. leb c.args.period (last i))

pub has_bit_spec : {M : Type 1} → statement M
has_bit_spec = tie.close (tie.spec find-last-period-requires returns)
