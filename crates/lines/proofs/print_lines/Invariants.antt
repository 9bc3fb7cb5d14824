-- After each step that leaves a record, fewer are left, and the table is known at the next.
use Rattle.std.proofs.Common.{◌≡◌, length}
use Rattle.rules.specs.Reader.{left_from}
use Rattle.rules.specs.Table.{KnownAt}
use Rattle.lines.proofs.print_lines.Given as goal

abbrev pub invariant-loop-table : goal.invariant-loop-table
invariant-loop-table g l = KnownAt l.book l.at l.table × (length l.table ≡ 8832)

abbrev pub decreases-loop-table : goal.decreases-loop-table
decreases-loop-table g l = left_from l.book l.at
