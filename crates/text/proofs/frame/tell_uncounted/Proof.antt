-- The fields are those of the definition. Assumes nothing.
use mathlib.Core.Path.{refl}
use Rattle.text.specs.Frame.{uncounted}
use Rattle.text.proofs.frame.tell_uncounted.Statement.{statement}
use Rattle.text.proofs.frame.tell_uncounted.Tie as tie

returns : tie.Need-returns
unfolding uncounted
returns c = refl

pub tell_uncounted_spec : {M : Type 1} → statement M
tell_uncounted_spec = tie.close (tie.spec returns)
