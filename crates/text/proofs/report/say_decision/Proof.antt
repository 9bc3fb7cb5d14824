-- The decision as a number is 1 or 0. Assumes nothing.
use mathlib.Core.Path.{sym, ap, ◌∙◌}
use borrow.Author.Rules.{rules}
use Rattle.text.specs.Extended.{extended}
use Rattle.text.proofs.ReportLaws.{decision_text_must, decision_text_need_not}
use Rattle.text.proofs.report.say_decision.Statement.{statement}
use Rattle.text.proofs.report.say_decision.Tie as tie

say-requires : tie.Need-say-requires
say-requires c κs = search rules

returns : tie.Need-returns-then-must
returns c = c.say.ensures ∙ ap (extended _) (sym (decision_text_must c.if-must.true))

say-requires-2 : tie.Need-say-requires-2
say-requires-2 c κs = search rules

returns-2 : tie.Need-returns
returns-2 c = c.say-2.ensures ∙ ap (extended _) (sym (decision_text_need_not c.if-must.false))

pub say_decision_spec : {M : Type 1} → statement M
say_decision_spec =
    tie.close
    (tie.spec
    say-requires
    returns
    say-requires-2
    returns-2)
