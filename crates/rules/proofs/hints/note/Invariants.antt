-- After i turns the hints of the first i lines are written.
use Rattle.std.proofs.Common.{◌≡◌}
use Rattle.rules.specs.Hints.{hinted}
use Rattle.rules.proofs.hints.note.Given as goal

abbrev pub invariant-loop-i : goal.invariant-loop-i
invariant-loop-i l = l.places ≡ hinted l.i l.s l.fn.places
