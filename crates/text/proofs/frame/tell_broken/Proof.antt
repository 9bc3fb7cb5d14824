-- One part behind the other, and both fit on a blank page. Assumes nothing.
use native.Mathlib.Omega.{arith}
use borrow.Author.Rules.{rules}
use Rattle.text.specs.Frame.{broken_text}
use Rattle.text.proofs.PageLaws.{extended_more, extended-blank}
use Rattle.text.proofs.WordsLaws.{wider}
use Rattle.text.proofs.FrameLaws.{broken_text-le}
use Rattle.text.proofs.frame.tell_broken.Statement.{statement}
use Rattle.text.proofs.frame.tell_broken.Tie as tie

take-blank-requires : tie.Need-take_blank-requires
take-blank-requires c κs = search rules

say-field-requires : tie.Need-say_field-p-requires
say-field-requires c κs = search rules

say-breach-requires : tie.Need-say_breach-requires
say-breach-requires c κs = search rules

returns : tie.Need-returns
unfolding broken_text
returns c =
    let a = c.args in
    extended-blank _ c.take_blank.ensures
    (extended_more _ _ _ c.say_field-p.ensures c.say_breach.ensures)
    (wider (broken_text-le a.i a.x) (omega arith)).le

pub tell_broken_spec : {M : Type 1} → statement M
tell_broken_spec =
    tie.close
    (tie.spec
    take-blank-requires
    say-field-requires
    say-breach-requires
    returns)
