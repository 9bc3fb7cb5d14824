-- After k turns the sums are what the first k fuel lines come to.
use Rattle.rules.specs.Book.{fuel_lines}
use Rattle.job.proofs.GatheringLaws.{Gathering}
use Rattle.job.proofs.shares.gather.Given as goal

abbrev pub invariant-loop-k : goal.invariant-loop-k
invariant-loop-k l = Gathering (fuel_lines l.h l.book) l.d l.sums l.k
