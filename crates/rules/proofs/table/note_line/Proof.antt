-- A record whose period has no bit leaves the table as it was. Assumes nothing.
use Rattle.std.proofs.Common.{ℕ, ap, ◌∙◌, ap₂, rules}
use Rattle.choice.proofs.TestsLaws.{is}
use Rattle.rules.specs.Bytes.{lines_in}
use Rattle.rules.specs.Place.{place}
use Rattle.rules.specs.Table.{has_bit}
use Rattle.rules.proofs.NotedLaws.{noted-out}
use Rattle.rules.proofs.table.note_line.Statement.{statement}
use Rattle.rules.proofs.table.note_line.Tie as tie

kind-requires : tie.Need-kind-requires
kind-requires c κs = search rules

period-requires : tie.Need-period-requires
period-requires c κs = search rules

has-bit-requires : tie.Need-has_bit-requires
has-bit-requires c κs = search rules

returns : tie.Need-returns-then-not-has_bit
returns c =
    let told = c in
    (noted-out _ _ _ (is (told.has_bit.ensures ∙ ap₂ has_bit told.kind.ensures told.period.ensures)
    c.if-not-has_bit.true)).now_noted

unit-number-requires : tie.Need-unit_number-requires
unit-number-requires c κs = search rules

find-requires : tie.Need-find-unit-requires
find-requires c κs = search rules

note-requires : tie.Need-note-was-requires
note-requires c κs =
    let found = c in
    let begun = c in (
      found.find-unit.ensures ∙ ap (λ (x : ℕ). place x 0 (lines_in begun.args.units.now)) found.unit_number.ensures,
      begun.requires.1,
    )

same_length : tie.Need-shape_of-table
same_length c = search rules

returns-2 : tie.Need-returns
returns-2 c = c.note-was.ensures.1

pub note_line_spec : {M : Type 1} → statement M
note_line_spec =
    tie.close
    (tie.spec
    kind-requires
    period-requires
    has-bit-requires
    returns
    unit-number-requires
    find-requires
    note-requires
    same_length
    returns-2)
