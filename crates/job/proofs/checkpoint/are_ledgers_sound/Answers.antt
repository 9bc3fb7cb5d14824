-- The next ledger's test is the next of those that the definition takes together.
use Rattle.std.proofs.Common.{refl, add-one}
use Rattle.choice.proofs.TestsLaws.{both}
use Rattle.job.specs.Checkpoint.{every}
use Rattle.job.proofs.checkpoint.are_ledgers_sound.Goals as goal

pub loop-k-init : goal.loop-k-init
unfolding every
loop-k-init c = refl

pub loop-k-preserved : goal.loop-k-preserved
unfolding every
loop-k-preserved c = rw add-one (both c.loop-k.invariant c.is_ledger_sound-all.ensures.ledger)
