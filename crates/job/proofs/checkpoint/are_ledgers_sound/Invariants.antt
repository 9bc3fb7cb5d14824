-- After k turns it is known whether the first k ledgers are sound.
use Rattle.std.proofs.Common.{◌≡◌}
use Rattle.job.specs.Checkpoint.{ledger_sound, every}
use Rattle.job.proofs.checkpoint.are_ledgers_sound.Given as goal

abbrev pub invariant-loop-k : goal.invariant-loop-k
invariant-loop-k l = l.all ≡ every (ledger_sound l.c) l.k
