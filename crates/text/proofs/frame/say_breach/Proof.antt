-- Each breach has its words. Assumes nothing.
use mathlib.Core.Path.{sym, ap, ◌∙◌}
use borrow.Author.Rules.{rules}
use Rattle.text.specs.Extended.{extended}
use Rattle.text.specs.Frame.{breach_text}
use Rattle.text.proofs.frame.say_breach.Statement.{statement}
use Rattle.text.proofs.frame.say_breach.Tie as tie

enum_told : tie.Need-enum_told-1
enum_told c = search rules

say-requires : tie.Need-say-requires
say-requires c κs = search rules

enum-told-2 : tie.Need-enum_told-in-Cut
enum-told-2 c = search rules

say-requires-2 : tie.Need-say-requires-in-Cut
say-requires-2 c κs = search rules

returns : tie.Need-returns-in-Head
returns c = c.say.ensures ∙ ap (extended _) (sym (ap breach_text c.in-Head.is))

returns-2 : tie.Need-returns-in-Cut
returns-2 c = c.say-in-Cut.ensures ∙ ap (extended _) (sym (ap breach_text c.in-Cut.is))

pub say_breach_spec : {M : Type 1} → statement M
say_breach_spec =
    tie.close
    (tie.spec
    enum_told
    say-requires
    enum-told-2
    say-requires-2
    returns
    returns-2)
