-- The code's row of tests is the definition's. Assumes nothing.
use Rattle.std.proofs.Common.{◌%◌, leb, get_or, rules}
use Rattle.choice.proofs.TestsLaws.{both}
use Rattle.rules.specs.AtOnce.{heat_right}
use Rattle.rules.proofs.sorting.is_heat_right.Statement.{statement}
use Rattle.rules.proofs.sorting.is_heat_right.Tie as tie

returns : tie.Need-returns
unfolding heat_right
returns c =
    let flags = c.flags-flags.ensures in
    let heat = c.heat-heat.ensures in
    let limits = c.requires in
    both (λ i. leb (flags i % 2) (heat i)) (λ i. leb (heat i) (get_or (limits i) (flags i % 8) 0))

pub is_heat_right_spec : {M : Type 1} → statement M
is_heat_right_spec =
    tie.close
    (tie.spec (λ c κs. search rules) (λ c κs. search rules) (λ c. search rules) (λ c. search rules) (λ c. search rules)
    (λ c. search rules) returns)
