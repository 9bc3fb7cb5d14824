-- The word read is the field, so that the tests of the two are the same. Assumes nothing.
use Rattle.std.proofs.Common.{eqb, rules}
use Rattle.rules.proofs.trailer.is_signed.Statement.{statement}
use Rattle.rules.proofs.trailer.is_signed.Tie as tie

read-word-requires : tie.Need-read_word-requires
read-word-requires c κs = search rules

returns : tie.Need-returns
returns c i = eqb (c.read_word.ensures.0 i) 0x42435453

pub is_signed_spec : {M : Type 1} → statement M
is_signed_spec = tie.close (tie.spec read-word-requires returns)
