-- One part behind the other. Assumes nothing.
use borrow.Author.Rules.{rules}
use Rattle.text.proofs.PageLaws.{extended_more}
use Rattle.text.specs.Progress.{moved_text}
use Rattle.text.proofs.progress.say_moved.Statement.{statement}
use Rattle.text.proofs.progress.say_moved.Tie as tie

say-field-requires : tie.Need-say_field-q-requires
say-field-requires c κs = search rules

say-field-requires-2 : tie.Need-say_field-q-requires-2
say-field-requires-2 c κs = search rules

say-line-requires : tie.Need-say_line-requires
say-line-requires c κs = search rules

returns : tie.Need-returns
unfolding moved_text
returns c =
    let done = c in
    let moved = done.say_field-q.ensures in
    extended_more _ _ _ (extended_more _ _ _ moved done.say_field-q-2.ensures) c.say_line.ensures

pub say_moved_spec : {M : Type 1} → statement M
say_moved_spec =
    tie.close
    (tie.spec
    say-field-requires
    say-field-requires-2
    say-line-requires
    returns)
