-- The code's row of tests is the definition's. Assumes nothing.
use Rattle.std.proofs.Common.{refl}
use Rattle.choice.proofs.TestsLaws.{both}
use Rattle.rules.specs.Book.{starts_ok}
use Rattle.rules.proofs.book.are_starts_right.Statement.{statement}
use Rattle.rules.proofs.book.are_starts_right.Tie as tie

returns : tie.Need-returns
unfolding starts_ok
returns c = both (both (both refl refl) refl) refl

pub are_starts_right_spec : {M : Type 1} → statement M
are_starts_right_spec = tie.close (tie.spec returns)
