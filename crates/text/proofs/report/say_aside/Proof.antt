-- 41 goes with the record and its reason. Assumes nothing.
use mathlib.Core.Path.{sym, ap, ◌∙◌}
use borrow.Author.Rules.{rules}
use Rattle.text.specs.Extended.{extended}
use Rattle.text.proofs.PageLaws.{extended_more}
use Rattle.text.proofs.ReportLaws.{refused_text_aside}
use Rattle.text.proofs.report.say_aside.Statement.{statement}
use Rattle.text.proofs.report.say_aside.Tie as tie

say-field-requires : tie.Need-say_field-q-requires
say-field-requires c κs = search rules

say-field-requires-2 : tie.Need-say_field-q-requires-2
say-field-requires-2 c κs = search rules

say-line-requires : tie.Need-say_line-requires
say-line-requires c κs = search rules

returns : tie.Need-returns
returns c =
    let a = c.args in
    let told = c.say_field-q.ensures in
    let record-i = extended_more _ _ _ told c.say_field-q-2.ensures in
    extended_more _ _ _ record-i c.say_line.ensures
    ∙ ap (extended a.p) (sym (refused_text_aside a.i a.reason))

pub say_aside_spec : {M : Type 1} → statement M
say_aside_spec =
    tie.close
    (tie.spec
    say-field-requires
    say-field-requires-2
    say-line-requires
    returns)
