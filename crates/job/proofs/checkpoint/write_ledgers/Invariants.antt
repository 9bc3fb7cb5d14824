-- After k turns the first k ledgers are laid behind the first 16 bytes.
use Rattle.std.proofs.Common.{◌+◌}
use Rattle.job.specs.Checkpoint.{mass_in}
use Rattle.job.specs.Words.{mass_at}
use Rattle.job.proofs.LaidLaws.{Laid}
use Rattle.job.proofs.checkpoint.write_ledgers.Given as goal

abbrev pub invariant-loop-k : goal.invariant-loop-k
invariant-loop-k l = Laid l.initial.out l.out (λ i. mass_in l.from i + mass_at l.w i) l.k
