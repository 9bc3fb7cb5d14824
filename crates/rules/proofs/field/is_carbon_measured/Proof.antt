-- Either test is the definition's. Assumes nothing.
use Rattle.std.proofs.Common.{rules}
use Rattle.choice.proofs.TestsLaws.{any}
use Rattle.rules.proofs.field.is_carbon_measured.Statement.{statement}
use Rattle.rules.proofs.field.is_carbon_measured.Tie as tie

is-analysed-requires : tie.Need-is_analysed-requires
is-analysed-requires c κs = search rules

is-carbon-flagged-requires : tie.Need-is_carbon_flagged-requires
is-carbon-flagged-requires c κs = search rules

returns : tie.Need-returns
returns c = any c.is_analysed.ensures c.is_carbon_flagged.ensures

pub is_carbon_measured_spec : {M : Type 1} → statement M
is_carbon_measured_spec =
    tie.close (tie.spec is-analysed-requires is-carbon-flagged-requires returns)
