-- `tell`, with what stands between the two parts. Assumes nothing.
use borrow.Author.Rules.{rules}
use Rattle.text.specs.Progress.{turn_text}
use Rattle.text.proofs.progress.tell_turn.Statement.{statement}
use Rattle.text.proofs.progress.tell_turn.Tie as tie

tell-requires : tie.Need-tell-requires
tell-requires c κs = search rules

returns : tie.Need-returns
unfolding turn_text
returns c = c.tell.ensures

pub tell_turn_spec : {M : Type 1} → statement M
tell_turn_spec = tie.close (tie.spec tell-requires returns)
