-- What stands after the lines that are still to pass is what is asked for. Assumes nothing.
use Rattle.std.proofs.Common.{◌≡◌, ◌-◌}
use Rattle.roster.specs.Lines.{after}
use Rattle.roster.proofs.lines.take_after.Given as goal

abbrev pub invariant-loop : goal.invariant-loop
invariant-loop l = after (l.i - l.counter) l.left ≡ after l.i l.text
