-- The two words are raised one after the other, as in the definition.
use Rattle.std.proofs.Common.{refl}
use Rattle.job.specs.Shares.{shared}
use Rattle.job.proofs.shares.add.Goals as goal

pub returns : goal.returns
unfolding shared
returns c = record { shared = refl }
