-- The look and the reader each give their part of the step. Assumes nothing.
use Rattle.std.proofs.Common.{rules}
use Rattle.rules.proofs.reader.take_step.Statement.{statement}
use Rattle.rules.proofs.reader.take_step.Tie as tie

look-noted-requires : tie.Need-look_noted-seen-requires
look-noted-requires c κs = search rules

find-kind-requires : tie.Need-find_kind-kind-requires
find-kind-requires c κs = search rules

go-past-requires : tie.Need-go_past-onward-requires
go-past-requires c κs = search rules

same_length : tie.Need-shape_of-table
same_length c = search rules

returns : tie.Need-returns
returns c =
    let looked = c.look_noted-seen.ensures in
    let past = c.go_past-onward.ensures in
    (looked.0, (c.find_kind-kind.ensures, (past.0, (past.1, looked.1))))

pub take_step_spec : {M : Type 1} → statement M
take_step_spec = tie.close (tie.spec look-noted-requires find-kind-requires go-past-requires same_length returns)
