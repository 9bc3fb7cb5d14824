-- Either test is the definition's. Assumes nothing.
use Rattle.std.proofs.Common.{refl, rules}
use Rattle.choice.proofs.TestsLaws.{any}
use Rattle.rules.proofs.field.is_fuelled.Statement.{statement}
use Rattle.rules.proofs.field.is_fuelled.Tie as tie

shared-slice-read-result : tie.Need-bounds-l-0
shared-slice-read-result c = search rules

is-analysed-requires : tie.Need-is_analysed-requires
is-analysed-requires c κs = search rules

returns : tie.Need-returns
returns c = any refl c.is_analysed.ensures

pub is_fuelled_spec : {M : Type 1} → statement M
is_fuelled_spec = tie.close (tie.spec shared-slice-read-result is-analysed-requires returns)
