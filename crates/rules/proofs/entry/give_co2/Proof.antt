-- The entry is the definition's. Assumes nothing.
use Rattle.std.proofs.Common.{refl}
use Rattle.rules.specs.Entry.{co2_alone}
use Rattle.rules.proofs.entry.give_co2.Statement.{statement}
use Rattle.rules.proofs.entry.give_co2.Tie as tie

returns : tie.Need-returns
unfolding co2_alone
returns c = refl

pub give_co2_spec : {M : Type 1} → statement M
give_co2_spec = tie.close (tie.spec returns)
