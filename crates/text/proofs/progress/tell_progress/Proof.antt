-- `tell`, with what stands between the two parts. Assumes nothing.
use borrow.Author.Rules.{rules}
use Rattle.text.specs.Progress.{progress_text}
use Rattle.text.proofs.progress.tell_progress.Statement.{statement}
use Rattle.text.proofs.progress.tell_progress.Tie as tie

tell-requires : tie.Need-tell-requires
tell-requires c κs = search rules

returns : tie.Need-returns
unfolding progress_text
returns c = c.tell.ensures

pub tell_progress_spec : {M : Type 1} → statement M
tell_progress_spec = tie.close (tie.spec tell-requires returns)
