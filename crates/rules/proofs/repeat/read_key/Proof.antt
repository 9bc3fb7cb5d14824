-- The mask leaves kind, unit and period of the first eight bytes. Assumes nothing.
use Rattle.std.proofs.Common.{rules}
use Rattle.rules.proofs.KeyLaws.{keyed}
use Rattle.rules.proofs.repeat.read_key.Statement.{statement}
use Rattle.rules.proofs.repeat.read_key.Tie as tie

read-start-requires : tie.Need-read_start-requires
read-start-requires c κs = search rules

returns : tie.Need-returns
returns c = keyed _ c.read_start.ensures

pub read_key_spec : {M : Type 1} → statement M
read_key_spec = tie.close (tie.spec read-start-requires returns)
