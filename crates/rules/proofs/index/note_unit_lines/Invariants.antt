-- After j turns the columns hold the first j lines, and a hint is the place of one of these few.
use Rattle.rules.specs.Index.{Small}
use Rattle.rules.proofs.IndexLaws.{Columns, unit_columns}
use Rattle.rules.proofs.index.note_unit_lines.Given as goal

abbrev pub invariant-loop-j : goal.invariant-loop-j
invariant-loop-j l = record { columns : Columns l.s l.j l.units unit_columns 0; hints : Small l.hints }
