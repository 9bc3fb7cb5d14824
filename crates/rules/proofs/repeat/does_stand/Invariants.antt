-- What is left to look at is told by the same test, until a key is found or no four lines are left.
use Rattle.std.proofs.Common.{◌≡◌, ◌-◌, ◌%◌, ◌≤◌}
use Rattle.rules.specs.Bytes.{line, lines}
use Rattle.rules.specs.Repeat.{stands_among}
use Rattle.rules.specs.Key.{stands_in}
use Rattle.rules.proofs.repeat.does_stand.Given as goal

abbrev pub invariant-loop-j : goal.invariant-loop-j
invariant-loop-j l = record {
  end : l.j ≤ l.fours;
  whole : (l.fours - l.j) % 4 ≡ 0;
  left : stands_among (line l.i l.book) (lines l.i l.book) ≡ stands_in (line l.i l.book) l.j (l.i - l.j) l.book;
}
