-- A line is a field and the byte that ends it. Assumes nothing.
use borrow.Author.Rules.{rules}
use Rattle.text.proofs.PageLaws.{extended_more}
use Rattle.text.proofs.number.say_line.Statement.{statement}
use Rattle.text.proofs.number.say_line.Tie as tie

say-field-requires : tie.Need-say_field-said-requires
say-field-requires c κs = search rules

say-requires : tie.Need-say-requires
say-requires c κs = search rules

returns : tie.Need-returns
returns c = extended_more _ _ _ c.say_field-said.ensures c.say.ensures

pub say_line_spec : {M : Type 1} → statement M
say_line_spec = tie.close (tie.spec say-field-requires say-requires returns)
