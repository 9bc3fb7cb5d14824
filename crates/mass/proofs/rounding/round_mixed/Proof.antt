-- The test is those of `nearest_to` at once. Assumes nothing.
use mathlib.Core.Path.{sym}
use borrow.Author.Rules.{rules}
use Rattle.mass.proofs.RoundingLaws.{nearest_to_mixed_up, nearest_to_mixed_down}
use Rattle.mass.proofs.rounding.round_mixed.Statement.{statement}
use Rattle.mass.proofs.rounding.round_mixed.Tie as tie

mul-if1 : tie.Need-overflow_mul-r
mul-if1 c = search rules

add-if1 : tie.Need-overflow_add-r
add-if1 c = search rules

add-result : tie.Need-overflow_add-result
add-result c = search rules

returns : tie.Need-returns-then-d-r
returns c =
    let s = c.before in
    let a = s.args in
    sym (nearest_to_mixed_up a.q a.r a.d s.requires.1 c.if-d-r.true)

returns-2 : tie.Need-returns
returns-2 c =
    let s = c.before in
    let a = s.args in
    sym (nearest_to_mixed_down a.q a.r a.d s.requires.1 c.if-d-r.false)

pub round_mixed_spec : {M : Type 1} → statement M
round_mixed_spec = tie.close (tie.spec mul-if1 add-if1 add-result returns returns-2)
