-- The number's digits stand behind the word. Assumes nothing.
use borrow.Author.Rules.{rules}
use Rattle.text.proofs.PageLaws.{extended_more}
use Rattle.text.proofs.number.say_field.Statement.{statement}
use Rattle.text.proofs.number.say_field.Tie as tie

say-requires : tie.Need-say-named-requires
say-requires c κs = search rules

say-decimal-requires : tie.Need-say_decimal-requires
say-decimal-requires c κs = search rules

returns : tie.Need-returns
returns c = extended_more _ _ _ c.say-named.ensures c.say_decimal.ensures

pub say_field_spec : {M : Type 1} → statement M
say_field_spec = tie.close (tie.spec say-requires say-decimal-requires returns)
