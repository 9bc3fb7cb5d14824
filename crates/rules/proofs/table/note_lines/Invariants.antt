-- After each turn the table is the one lent with the lines so far noted.
use Rattle.std.proofs.Common.{◌≡◌}
use Rattle.rules.specs.Bytes.{lines}
use Rattle.rules.specs.Table.{noted_all}
use Rattle.rules.proofs.table.note_lines.Given as goal

abbrev pub invariant-loop-l : goal.invariant-loop-l
invariant-loop-l l = l.table ≡ noted_all (lines l.l-index l.book) l.units l.fn.table
