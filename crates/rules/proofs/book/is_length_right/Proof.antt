-- The code's row of tests is the definition's. Assumes nothing.
use Rattle.std.proofs.Common.{refl}
use Rattle.choice.proofs.TestsLaws.{both}
use Rattle.rules.specs.Book.{length_ok}
use Rattle.rules.proofs.book.is_length_right.Statement.{statement}
use Rattle.rules.proofs.book.is_length_right.Tie as tie

returns : tie.Need-returns
unfolding length_ok
returns c = both (both refl refl) refl

pub is_length_right_spec : {M : Type 1} → statement M
is_length_right_spec = tie.close (tie.spec returns)
