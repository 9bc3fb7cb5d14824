-- A blank page is zeros, and none of them is written. Assumes nothing.
use mathlib.Core.Path.{refl}
use Rattle.text.specs.Page.{page_of}
use Rattle.text.proofs.page.take_blank.Statement.{statement}
use Rattle.text.proofs.page.take_blank.Tie as tie

returns : tie.Need-returns
unfolding page_of
returns c = refl

pub take_blank_spec : {M : Type 1} → statement M
take_blank_spec = tie.close (tie.spec returns)
