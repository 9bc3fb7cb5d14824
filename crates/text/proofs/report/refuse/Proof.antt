-- The line fits on a blank page. Assumes nothing.
use native.Mathlib.Omega.{arith}
use borrow.Author.Rules.{rules}
use Rattle.text.proofs.PageLaws.{extended-blank}
use Rattle.text.proofs.WordsLaws.{wider}
use Rattle.text.proofs.ReportLaws.{refused_text-le}
use Rattle.text.proofs.report.refuse.Statement.{statement}
use Rattle.text.proofs.report.refuse.Tie as tie

take-blank-requires : tie.Need-take_blank-requires
take-blank-requires c κs = search rules

say-refusal-requires : tie.Need-say_refusal-requires
say-refusal-requires c κs = search rules

returns : tie.Need-returns
returns c =
    extended-blank _ c.take_blank.ensures c.say_refusal.ensures
    (wider (refused_text-le _ _) (omega arith)).le

pub refuse_spec : {M : Type 1} → statement M
refuse_spec = tie.close (tie.spec take-blank-requires say-refusal-requires returns)
