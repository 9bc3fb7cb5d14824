-- The index, what became of the record, and the end of the line. Assumes nothing.
use borrow.Author.Rules.{rules}
use Rattle.text.proofs.PageLaws.{extended_more}
use Rattle.text.proofs.lines.say_record.Statement.{statement}
use Rattle.text.proofs.lines.say_record.Tie as tie

say-field-requires : tie.Need-say_field-q-requires
say-field-requires c κs = search rules

say-outcome-requires : tie.Need-say_outcome-q-requires
say-outcome-requires c κs = search rules

say-requires : tie.Need-say-requires
say-requires c κs = search rules

returns : tie.Need-returns
returns c =
    let index = c.say_field-q.ensures in
    extended_more _ _ _ (extended_more _ _ _ index c.say_outcome-q.ensures) c.say.ensures

pub say_record_spec : {M : Type 1} → statement M
say_record_spec =
    tie.close
    (tie.spec
    say-field-requires
    say-outcome-requires
    say-requires
    returns)
