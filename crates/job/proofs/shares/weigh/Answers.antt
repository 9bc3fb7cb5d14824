-- The two words are raised one after the other, as in the definition.
use Rattle.std.proofs.Common.{refl}
use Rattle.job.specs.Shares.{weighed}
use Rattle.job.proofs.shares.weigh.Goals as goal

pub returns : goal.returns
unfolding weighed
returns c = record { weighed = refl }
