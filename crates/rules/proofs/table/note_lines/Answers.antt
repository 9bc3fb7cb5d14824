use Rattle.std.proofs.Common.{◌<◌, ◌/◌, length, get_or, [], take, refl, ap, ◌∙◌, arith, length-take, get_or-take}
use Rattle.rules.specs.Bytes.{lines}
use Rattle.rules.specs.Table.{noted_all}
use Rattle.rules.specs.Table.{noted as noted_in}
use Rattle.rules.proofs.TableLaws.{is_table-length, noted_all_next}
use Rattle.rules.proofs.table.note_lines.Goals as goal

pub loop-l-init : goal.loop-l-init
unfolding lines noted_all
loop-l-init c = refl

pub note_line-requires-clause-table : goal.note_line-requires-clause-table
note_line-requires-clause-table c = is_table-length _ _ _ c.loop-l.auto.table ∙ c.requires.table

pub loop-l-preserved : goal.loop-l-preserved
loop-l-preserved c =
    let a = c.args in
    let i = c.loop-l.l-index in
    let all = c.take_lines.result.now in
    let before : i < a.n = omega (arith, c.loop-l-test.true, length-take a.n all) in
    let there : i < length a.book.now / 32 = omega (arith, c.requires.there) in
    let is-line = get_or-take a.n all i [] before ∙ c.take_lines.ensures.each i there in
    noted_all_next a.book.now a.units.now a.table.now i is-line
    (c.note_line.ensures.noted ∙ ap (noted_in (get_or (take a.n all) i []) a.units.now) c.loop-l.invariant)
