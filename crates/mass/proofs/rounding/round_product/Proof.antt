-- The two products and the division of the second are the mixed number that a × b / d is, and each has
-- room. Assumes nothing.
use Prim.Native.Nat.{ℕ, ◌+◌, ◌*◌, ◌/◌, ◌%◌, ◌^◌, ◌<◌}
use mathlib.Core.Path.{ap, ◌∙◌}
use native.Mathlib.Nat.{div-le_self, mod-le, mod-lt}
use native.Mathlib.Omega.{arith}
use borrow.Author.Rules.{rules}
use Rattle.mass.specs.Rounding.{nearest_to}
use Rattle.mass.proofs.RoundingLaws.{product_mixed, product_left_lt, product_whole-lt}
use Rattle.mass.proofs.rounding.round_product.Statement.{statement}
use Rattle.mass.proofs.rounding.round_product.Tie as tie

whole-lt : (c : tie.Start) →
    let a = c.args in
    a.a * (a.b / a.d) + a.a * (a.b % a.d) / a.d < 2 ^ 63
whole-lt c = product_whole-lt c.args.a c.args.b c.args.d c.requires.1.1

left_lt : (c : tie.Start) → c.args.a * (c.args.b % c.args.d) < 2 ^ 63
left_lt c = product_left_lt c.args.a c.args.b c.args.d c.requires.0 c.requires.1.0

div-whole : tie.Need-nonzero_div-whole
div-whole c = search rules

cast-whole : tie.Need-overflow_cast-whole
cast-whole c = omega (arith, div-le_self c.args.b c.args.d, c.ranges)

mul-whole : tie.Need-overflow_mul-whole
mul-whole c = omega (arith, whole-lt c)

rem-left : tie.Need-nonzero_rem-left
rem-left c = search rules

cast-left : tie.Need-overflow_cast-left
cast-left c = omega (arith, mod-le c.args.b c.args.d, c.ranges)

mul_left : tie.Need-overflow_mul-left
mul_left c = omega (arith, left_lt c)

div-round-mixed : tie.Need-nonzero_div-left
div-round-mixed c = search rules

add-round-mixed : tie.Need-overflow_add-whole
add-round-mixed c = omega (arith, whole-lt c)

rem-round-mixed : tie.Need-nonzero_rem-left-2
rem-round-mixed c = search rules

round-mixed-requires : tie.Need-round_mixed-requires
round-mixed-requires c κs =
    let left = c.args.a * (c.args.b % c.args.d) in
    ((whole-lt c, omega (arith, mod-le left c.args.d, left_lt c)), mod-lt left c.requires.0)

returns : tie.Need-returns
returns c =
    let a = c.before.args in
    c.round_mixed.ensures ∙ ap (λ (n : ℕ). nearest_to n a.d) (product_mixed a.a a.b a.d)

pub round_product_spec : {M : Type 1} → statement M
round_product_spec =
    tie.close
    (tie.spec
    div-whole
    cast-whole
    mul-whole
    rem-left
    cast-left
    mul_left
    div-round-mixed
    add-round-mixed
    rem-round-mixed
    round-mixed-requires
    returns)
