-- Each ledger has its word. Assumes nothing.
use mathlib.Core.Path.{sym, ap, ◌∙◌}
use borrow.Author.Rules.{rules}
use Rattle.text.specs.Extended.{extended}
use Rattle.text.specs.Lines.{ledger_text}
use Rattle.text.proofs.lines.say_ledger.Statement.{statement}
use Rattle.text.proofs.lines.say_ledger.Tie as tie

enum_told : tie.Need-enum_told-1
enum_told c = search rules

say-requires : tie.Need-say-requires
say-requires c κs = search rules

enum-told-2 : tie.Need-enum_told-in-Biomass
enum-told-2 c = search rules

say-requires-2 : tie.Need-say-requires-in-Biomass
say-requires-2 c κs = search rules

enum-told-3 : tie.Need-enum_told-in-Nowhere
enum-told-3 c = search rules

say-requires-3 : tie.Need-say-requires-in-Nowhere
say-requires-3 c κs = search rules

returns : tie.Need-returns-in-Fossil
returns c = c.say.ensures ∙ ap (extended _) (sym (ap ledger_text c.in-Fossil.is))

returns-2 : tie.Need-returns-in-Biomass
returns-2 c = c.say-in-Biomass.ensures ∙ ap (extended _) (sym (ap ledger_text c.in-Biomass.is))

returns-3 : tie.Need-returns-in-Nowhere
returns-3 c = c.say-in-Nowhere.ensures ∙ ap (extended _) (sym (ap ledger_text c.in-Nowhere.is))

pub say_ledger_spec : {M : Type 1} → statement M
say_ledger_spec =
    tie.close
    (tie.spec
    enum_told
    say-requires
    enum-told-2
    say-requires-2
    enum-told-3
    say-requires-3
    returns
    returns-2
    returns-3)
