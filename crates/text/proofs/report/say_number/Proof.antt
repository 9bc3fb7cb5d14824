-- A number other than 41 stands alone on its line. Assumes nothing.
use mathlib.Core.Path.{sym, ap, ◌∙◌}
use borrow.Author.Rules.{rules}
use Rattle.text.specs.Extended.{extended}
use Rattle.text.proofs.ReportLaws.{refused_text_alone}
use Rattle.text.proofs.report.say_number.Statement.{statement}
use Rattle.text.proofs.report.say_number.Tie as tie

say-line-requires : tie.Need-say_line-requires
say-line-requires c κs = search rules

returns : tie.Need-returns
returns c =
    let a = c.args in
    c.say_line.ensures ∙ ap (extended a.p) (sym (refused_text_alone a.n _ c.requires))

pub say_number_spec : {M : Type 1} → statement M
say_number_spec = tie.close (tie.spec say-line-requires returns)
