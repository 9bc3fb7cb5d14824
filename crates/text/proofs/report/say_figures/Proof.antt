-- One line behind the other. Assumes nothing.
use mathlib.Core.Path.{sym, ap, ◌∙◌}
use borrow.Author.Rules.{rules}
use Rattle.text.specs.Extended.{extended}
use Rattle.text.proofs.PageLaws.{extended_more}
use Rattle.text.proofs.ReportLaws.{figures_text_six}
use Rattle.text.proofs.report.say_figures.Statement.{statement}
use Rattle.text.proofs.report.say_figures.Tie as tie

say-line-requires : tie.Need-say_line-q-requires
say-line-requires c κs = search rules

say-line-requires-2 : tie.Need-say_line-q-requires-2
say-line-requires-2 c κs = search rules

say-line-requires-3 : tie.Need-say_line-q-requires-3
say-line-requires-3 c κs = search rules

say-line-requires-4 : tie.Need-say_line-q-requires-4
say-line-requires-4 c κs = search rules

say-line-requires-5 : tie.Need-say_line-q-requires-5
say-line-requires-5 c κs = search rules

say-line-requires-6 : tie.Need-say_line-q-requires-6
say-line-requires-6 c κs = search rules

say-line-requires-7 : tie.Need-say_line-q-requires-7
say-line-requires-7 c κs = search rules

say-decision-requires : tie.Need-say_decision-requires
say-decision-requires c κs = search rules

returns : tie.Need-returns
returns c =
    let to-5 = c in
    let to-3 = to-5 in
    let to-1 = to-3 in
    let a = to-1.args in
    let records = extended_more _ _ _ to-1.say_line-q.ensures to-3.say_line-q-2.ensures in
    let fossil = extended_more _ _ _ records to-3.say_line-q-3.ensures in
    let biomass = extended_more _ _ _ fossil to-5.say_line-q-4.ensures in
    let ch4 = extended_more _ _ _ biomass to-5.say_line-q-5.ensures in
    let n2o = extended_more _ _ _ ch4 c.say_line-q-6.ensures in
    let co2e = extended_more _ _ _ n2o c.say_line-q-7.ensures in
    extended_more _ _ _ co2e c.say_decision.ensures
    ∙ ap (extended a.p) (sym (figures_text_six a.h a.f))

pub say_figures_spec : {M : Type 1} → statement M
say_figures_spec =
    tie.close
    (tie.spec
    say-line-requires
    say-line-requires-2
    say-line-requires-3
    say-line-requires-4
    say-line-requires-5
    say-line-requires-6
    say-line-requires-7
    say-decision-requires
    returns)
