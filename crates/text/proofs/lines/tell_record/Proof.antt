-- The line of what is seen fits on a page. Assumes nothing.
use native.Mathlib.Omega.{arith}
use borrow.Author.Rules.{rules}
use Rattle.text.proofs.PageLaws.{extended-blank}
use Rattle.text.proofs.WordsLaws.{wider}
use Rattle.text.proofs.LinesLaws.{line_text-le}
use Rattle.text.proofs.lines.tell_record.Statement.{statement}
use Rattle.text.proofs.lines.tell_record.Tie as tie

take-blank-requires : tie.Need-take_blank-requires
take-blank-requires c κs = search rules

say-seen-requires : tie.Need-say_seen-requires
say-seen-requires c κs = search rules

returns : tie.Need-returns
returns c =
    extended-blank _ c.take_blank.ensures c.say_seen.ensures
    (wider (line_text-le c.args.i c.args.kind _) (omega arith)).le

pub tell_record_spec : {M : Type 1} → statement M
tell_record_spec = tie.close (tie.spec take-blank-requires say-seen-requires returns)
