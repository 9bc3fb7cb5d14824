-- After i turns the first i places have their sums, and the others are as they were.
use Rattle.job.proofs.PouredLaws.{Pouring}
use Rattle.job.proofs.shares.pour.Given as goal

abbrev pub invariant-loop-i : goal.invariant-loop-i
invariant-loop-i l = Pouring l.sums l.initial.w l.w l.i
