-- What is no table tells nothing. Assumes nothing.
use Rattle.std.proofs.Common.{sym, refl, ◌∙◌, rules}
use Rattle.choice.proofs.TestsLaws.{also_t, also_f, is}
use Rattle.rules.specs.Marks.{told}
use Rattle.rules.proofs.TableLaws.{noting-table, noting-none}
use Rattle.rules.proofs.table.ask.Statement.{statement}
use Rattle.rules.proofs.table.ask.Tie as tie

is-table-requires : tie.Need-is_table-requires
is-table-requires c κs = search rules

same_length : tie.Need-shape_of-table-then-not-is_table
same_length c = search rules

returns : tie.Need-returns-then-not-is_table
unfolding told
returns c =
    let none = is c.is_table.ensures c.if-not-is_table.true in
    (sym (also_f _ none), sym (noting-none _ _ _ none))

note-requires : tie.Need-note-requires
note-requires c κs =
    let test = c in
    let p = test.requires in
    (p.1, is test.is_table.ensures test.if-not-is_table.false)

same-length-2 : tie.Need-shape_of-table
same-length-2 c = search rules

returns-2 : tie.Need-returns
unfolding told
returns-2 c =
    let noted-now = c in
    let test = noted-now in
    let table = is test.is_table.ensures test.if-not-is_table.false in (
      noted-now.note.ensures.0 ∙ sym (also_t table refl),
      noted-now.note.ensures.1 ∙ sym (noting-table _ _ _ table),
    )

pub ask_spec : {M : Type 1} → statement M
ask_spec =
    tie.close
    (tie.spec is-table-requires same_length returns note-requires same-length-2 returns-2)
