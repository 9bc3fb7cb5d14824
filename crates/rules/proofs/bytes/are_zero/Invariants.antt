-- Each turn adds a word to the row that was found to be 0 or not.
use Rattle.std.proofs.Common.{◌≡◌, ◌-◌, ◌%◌, ◌≤◌, eqb}
use Rattle.rules.specs.Bytes.{zeros}
use Rattle.rules.proofs.bytes.are_zero.Given as goal

abbrev pub invariant-loop-at : goal.invariant-loop-at
invariant-loop-at l = record {
  end : l.at ≤ l.to;
  whole : (l.to - l.at) % 8 ≡ 0;
  seen : eqb l.seen 0 ≡ zeros l.s l.from (l.at - l.from);
}
