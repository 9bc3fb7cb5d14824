-- The code's tests are the definition's. Assumes nothing.
use Rattle.std.proofs.Common.{eqb, rules}
use Rattle.choice.proofs.TestsLaws.{any}
use Rattle.rules.specs.Repeat.{repeatable}
use Rattle.rules.proofs.repeat.is_repeatable.Statement.{statement}
use Rattle.rules.proofs.repeat.is_repeatable.Tie as tie

kind-requires : tie.Need-kind-kind-requires
kind-requires c κs = search rules

returns : tie.Need-returns
unfolding repeatable
returns c = let kind = c.kind-kind.ensures in any (λ i. eqb (kind i) 2) (λ i. eqb (kind i) 4)

pub is_repeatable_spec : {M : Type 1} → statement M
is_repeatable_spec = tie.close (tie.spec kind-requires returns)
