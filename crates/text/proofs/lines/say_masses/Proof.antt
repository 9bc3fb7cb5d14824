-- One field behind the other. Assumes nothing.
use borrow.Author.Rules.{rules}
use Rattle.text.proofs.PageLaws.{extended_more}
use Rattle.text.specs.Lines.{masses_text}
use Rattle.text.proofs.lines.say_masses.Statement.{statement}
use Rattle.text.proofs.lines.say_masses.Tie as tie

say-field-requires : tie.Need-say_field-q-requires
say-field-requires c κs = search rules

say-field-requires-2 : tie.Need-say_field-q-requires-2
say-field-requires-2 c κs = search rules

say-field-requires-3 : tie.Need-say_field-requires
say-field-requires-3 c κs = search rules

returns : tie.Need-returns
unfolding masses_text
returns c =
    let co2 = c.say_field-q.ensures in
    extended_more _ _ _ (extended_more _ _ _ co2 c.say_field-q-2.ensures) c.say_field.ensures

pub say_masses_spec : {M : Type 1} → statement M
say_masses_spec =
    tie.close
    (tie.spec
    say-field-requires
    say-field-requires-2
    say-field-requires-3
    returns)
