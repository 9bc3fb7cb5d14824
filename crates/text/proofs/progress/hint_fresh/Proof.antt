-- The line fits on a blank page. Assumes nothing.
use mathlib.Core.Path.{ap, sym, ◌∙◌}
use native.Mathlib.Omega.{arith}
use borrow.Author.Rules.{rules}
use Rattle.text.specs.Page.{page_of}
use Rattle.text.proofs.PageLaws.{extended-blank}
use Rattle.text.proofs.ProgressLaws.{hint_text-fresh}
use Rattle.text.proofs.progress.hint_fresh.Statement.{statement}
use Rattle.text.proofs.progress.hint_fresh.Tie as tie

take-blank-requires : tie.Need-take_blank-requires
take-blank-requires c κs = search rules

say-requires : tie.Need-say-requires
say-requires c κs = search rules

returns : tie.Need-returns
returns c =
    extended-blank _ c.take_blank.ensures c.say.ensures (omega arith)
    ∙ ap page_of (sym hint_text-fresh)

pub hint_fresh_spec : {M : Type 1} → statement M
hint_fresh_spec = tie.close (tie.spec take-blank-requires say-requires returns)
