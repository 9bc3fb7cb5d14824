-- The row of tests is that of the definition. Assumes nothing.
use mathlib.Core.Path.{refl}
use Rattle.choice.proofs.TestsLaws.{any}
use Rattle.text.specs.Frame.{argument_ok}
use Rattle.text.proofs.frame.is_argument_right.Statement.{statement}
use Rattle.text.proofs.frame.is_argument_right.Tie as tie

returns : tie.Need-returns
unfolding argument_ok
returns c = any (any refl refl) refl

pub is_argument_right_spec : {M : Type 1} → statement M
is_argument_right_spec = tie.close (tie.spec returns)
