-- Each table is blank and has a row for each unit line.
use Rattle.std.proofs.Common.{ℕ, ◌*◌, ◌/◌, ◌≤◌, arith}
use lib.Dec.{lit≤}
use Rattle.rules.specs.Book.{unit_ok}
use Rattle.rules.proofs.BookLaws.{accepted_facts}
use Rattle.rules.proofs.LinesLaws.{rising_lines_sound}
use Rattle.rules.proofs.TableLaws.{is_table-blank, replicate_length, unit_lines-length-le}
use Rattle.job.proofs.tabled.go_by_table.Goals as goal

few-lines : {n m k : ℕ} → n ≤ m → m ≤ 32 * k → n / 32 ≤ k
few-lines h l = omega arith

pub overflow_sub-lines : goal.overflow_sub-lines
overflow_sub-lines c = (accepted_facts _ _ c.requires.opened).units_le

pub go_noting-requires-clause-blank : goal.go_noting-requires-clause-blank
go_noting-requires-clause-blank c =
    let few = few-lines {k = 8} (unit_lines-length-le c.args.h c.args.book.now) c.if-lines-le-NARROW_LINES.true in
    (is_table-blank _ 1104 8 few (lit≤ tt) (lit≤ tt), replicate_length 1104)

pub go_noting-requires-then-lines-le-MIDDLE_LINES-clause-blank : goal.go_noting-requires-then-lines-le-MIDDLE_LINES-clause-blank
go_noting-requires-then-lines-le-MIDDLE_LINES-clause-blank c =
    let few = few-lines {k = 16} (unit_lines-length-le c.args.h c.args.book.now) c.if-lines-le-MIDDLE_LINES.true in
    (is_table-blank _ 2208 16 few (lit≤ tt) (lit≤ tt), replicate_length 2208)

pub go_noting-requires-2-clause-blank : goal.go_noting-requires-2-clause-blank
go_noting-requires-2-clause-blank c =
    let few = (rising_lines_sound unit_ok _ (accepted_facts _ _ c.requires.opened).units_sound).few in
    (is_table-blank _ 8832 64 few (lit≤ tt) (lit≤ tt), replicate_length 8832)
