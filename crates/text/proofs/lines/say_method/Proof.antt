-- A record with a method is told by it, and any other by its kind. Assumes nothing.
use mathlib.Core.Path.{sym, ap, ◌∙◌}
use borrow.Author.Rules.{rules}
use Rattle.text.specs.Extended.{extended}
use Rattle.text.proofs.LinesLaws.{method_text-fuel, method_text_anodes, method_text-hour}
use Rattle.text.proofs.lines.say_method.Statement.{statement}
use Rattle.text.proofs.lines.say_method.Tie as tie

say-field-requires : tie.Need-say_field-requires
say-field-requires c κs = search rules

returns : tie.Need-returns-then-method-ne-NO_METHOD
returns c = c.say_field.ensures ∙ ap (extended _) (sym (method_text-fuel _ _ c.if-method-ne-NO_METHOD.true))

say-requires : tie.Need-say-requires
say-requires c κs = search rules

returns-2 : tie.Need-returns-then-kind-eq4
returns-2 c =
    let test = c in
    c.say.ensures ∙ ap (extended _) (sym (method_text_anodes _ _ test.if-method-ne-NO_METHOD.false test.if-kind-eq4.true))

say-requires-2 : tie.Need-say-requires-2
say-requires-2 c κs = search rules

returns-3 : tie.Need-returns
returns-3 c =
    let test = c in
    c.say-2.ensures ∙ ap (extended _) (sym (method_text-hour _ _ test.if-method-ne-NO_METHOD.false test.if-kind-eq4.false))

pub say_method_spec : {M : Type 1} → statement M
say_method_spec =
    tie.close
    (tie.spec
    say-field-requires
    returns
    say-requires
    returns-2
    say-requires-2
    returns-3)
