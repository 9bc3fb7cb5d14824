-- Below the least exponent the multiple is under a half. From there on the fraction is the same in
-- smaller numbers: k × digits is below 2^63, and 16 to 63 places are shifted. Assumes nothing.
use Prim.Native.Nat.{ℕ, ◌+◌, ◌-◌, ◌*◌, ◌%◌, ◌^◌, ◌≤◌, ◌<◌}
use mathlib.Core.Path.{◌≡◌, sym, ap, ◌∙◌, subst}
use native.Mathlib.Nat.{mod-lt, one-mul, mul-le-mul_right}
use native.Mathlib.Omega.{arith}
use lib.Dec.{T, lit<}
use lib.Pow.{pow_pos, shl_exact}
use lib.Ieee.{binary64, to_bits}
use borrow.Author.Rules.{rules}
use Rattle.mass.specs.Rounding.{nearest_to}
use Rattle.mass.specs.Units.{units_in, field_units}
use Rattle.mass.proofs.ReadingLaws.{natural→number}
use Rattle.mass.proofs.MultipleLaws.{exponent, digits, units_in-to_bits, multiple_vanishes, exponent_le, multiple_reduced}
use Rattle.mass.proofs.rounding.round_multiple.Statement.{statement}
use Rattle.mass.proofs.rounding.round_multiple.Tie as tie

abbrev bits : tie.Start → ℕ
bits c = to_bits binary64 c.args.p

units : (c : tie.Start)
    → units_in binary64 c.args.p ≡ field_units binary64 (exponent (bits c)) (digits (bits c))
units c = units_in-to_bits c.args.p (subst T (sym c.well_formed.1.0.1) tt) c.requires.1.0

few : (c : tie.Start) → digits (bits c) < 2 ^ 52
few c = mod-lt _ (pow_pos 52)

at_most : (c : tie.Start) → exponent (bits c) ≤ 1059
at_most c =
    let units_le = subst (λ (u : ℕ). u ≤ 100000000000 * 2 ^ 1074) (units c) c.requires.1.1 in
    exponent_le (exponent (bits c)) (digits (bits c)) units_le

room : (c : tie.Start) → c.args.k * (2 ^ 52 + digits (bits c)) < 2 ^ 63
room c = omega (arith, few c, mul-le-mul_right (2 ^ 52 + digits (bits c)) c.requires.0)

float-to-bits-bits : tie.Need-float_to_bits-bits
float-to-bits-bits c = natural→number c.args.p c.requires.1.0

returns : tie.Need-returns-then-exponent-lt-LEAST
returns c =
    let s = c.before in
    let k = s.args.k in
    sym (multiple_vanishes k (exponent (bits s)) (digits (bits s)) s.requires.0 (few s) c.if-exponent-lt-LEAST.true)
    ∙ ap (λ (u : ℕ). nearest_to (k * u) (2 ^ 1074)) (sym (units s))

add-digits : tie.Need-overflow_add-digits
add-digits c = search rules

abbrev divisor : tie.Start → ℕ
divisor c = 1 * 2 ^ (1075 - exponent (bits c)) % 2 ^ 64

-- No bit of it is shifted out.
power : (c : tie.Start) → 1012 ≤ exponent (bits c) → divisor c ≡ 2 ^ (1075 - exponent (bits c))
power c h =
    let places = 1075 - exponent (bits c) in
    shl_exact 1 places 64 (lit< tt) (omega arith) ∙ one-mul (2 ^ places)

mul-round-fraction : tie.Need-overflow_mul-k
mul-round-fraction c = omega (arith, room c.before)

sub-round-fraction : tie.Need-overflow_sub-exponent
sub-round-fraction c = omega (arith, at_most c.before)

shl-round-fraction : tie.Need-overflow_shl-exponent
shl-round-fraction c = search rules

round-fraction-requires : tie.Need-round_fraction-requires
round-fraction-requires c κs = (
  room c.before,
  omega (arith, power c.before c.if-exponent-lt-LEAST.false, pow_pos (1075 - exponent (bits c.before))),
)

returns-2 : tie.Need-returns
returns-2 c =
    let e = c.before in
    let s = e.before in
    let k = s.args.k in
    c.round_fraction.ensures
    ∙ ap (nearest_to (k * (2 ^ 52 + digits (bits s)))) (power s e.if-exponent-lt-LEAST.false)
    ∙ multiple_reduced k (exponent (bits s)) (digits (bits s)) e.if-exponent-lt-LEAST.false (at_most s)
    ∙ ap (λ (u : ℕ). nearest_to (k * u) (2 ^ 1074)) (sym (units s))

pub round_multiple_spec : {M : Type 1} → statement M
round_multiple_spec = tie.close (tie.spec
    float-to-bits-bits
    returns
    add-digits
    mul-round-fraction
    sub-round-fraction
    shl-round-fraction
    round-fraction-requires
    returns-2)
