-- The number decides. Assumes nothing.
use mathlib.Core.Path.{refl, sym, ap, ◌∙◌}
use borrow.Author.Rules.{rules}
use borrow.Author.Tests.{eq-eqb, ne_eqb}
use Rattle.choice.proofs.TestsLaws.{choose_t, choose_f}
use Rattle.text.specs.Extended.{extended}
use Rattle.text.specs.Frame.{report_part}
use Rattle.text.proofs.frame.say_part.Statement.{statement}
use Rattle.text.proofs.frame.say_part.Tie as tie

say-figures-requires : tie.Need-say_figures-requires
say-figures-requires c κs = search rules

returns : tie.Need-returns-then-n-eq0
unfolding report_part
returns c = c.say_figures.ensures ∙ ap (extended _) (sym (choose_t _ (eq-eqb _ 0 c.if-n-eq0.true) refl))

say-change-requires : tie.Need-say_change-requires
say-change-requires c κs = search rules

returns-2 : tie.Need-returns
unfolding report_part
returns-2 c = c.say_change.ensures ∙ ap (extended _) (sym (choose_f _ (ne_eqb _ 0 c.if-n-eq0.false) refl))

pub say_part_spec : {M : Type 1} → statement M
say_part_spec = tie.close (tie.spec say-figures-requires returns say-change-requires returns-2)
