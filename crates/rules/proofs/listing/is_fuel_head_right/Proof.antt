-- The code's row of tests, of the fields that it read, is the definition's. Assumes nothing.
use Rattle.std.proofs.Common.{leb, ap, ◌∙◌, ap₂, rules}
use Rattle.choice.proofs.TestsLaws.{both}
use Rattle.rules.specs.Book.{kind_class_ok, molar_volume_ok, fuel_head_ok}
use Rattle.rules.proofs.listing.is_fuel_head_right.Statement.{statement}
use Rattle.rules.proofs.listing.is_fuel_head_right.Tie as tie

fuel-kind-requires : tie.Need-fuel_kind-requires
fuel-kind-requires c κs = search rules

fuel-class-requires : tie.Need-fuel_class-requires
fuel-class-requires c κs = search rules

do-agree-requires : tie.Need-do_agree-fits-requires
do-agree-requires c κs = search rules

default-heat-requires : tie.Need-default_heat-heat-requires
default-heat-requires c κs = search rules

co2-factor-requires : tie.Need-co2_factor-co2-requires
co2-factor-requires c κs = search rules

ch4-factor-requires : tie.Need-ch4_factor-ch4-requires
ch4-factor-requires c κs = search rules

n2o-factor-requires : tie.Need-n2o_factor-n2o-requires
n2o-factor-requires c κs = search rules

molar-volume-requires : tie.Need-molar_volume-requires
molar-volume-requires c κs = search rules

is-molar-volume-right-requires : tie.Need-is_molar_volume_right-volume_right-requires
is-molar-volume-right-requires c κs = search rules

returns : tie.Need-returns
unfolding fuel_head_ok
returns c =
    let factors = c in
    let agreed = factors in
    let kind = agreed.fuel_kind.ensures in
    let class = agreed.fuel_class.ensures in
    let agree = agreed.do_agree-fits.ensures ∙ ap₂ kind_class_ok kind class in
    let heat = factors.default_heat-heat.ensures in
    let co2 = factors.co2_factor-co2.ensures in
    let ch4 = factors.ch4_factor-ch4.ensures in
    let n2o = factors.n2o_factor-n2o.ensures in
    let volume = c.is_molar_volume_right-volume_right.ensures ∙ ap molar_volume_ok c.molar_volume.ensures in
    both
    (both
    (both
    (both
    (both
    (both agree (λ i. leb (heat i) 200000))
    (λ i. leb 1 (co2 i)))
    (λ i. leb (co2 i) 200000))
    (λ i. leb (ch4 i) 200000))
    (λ i. leb (n2o i) 200000))
    volume

pub is_fuel_head_right_spec : {M : Type 1} → statement M
is_fuel_head_right_spec =
    tie.close
    (tie.spec
    fuel-kind-requires
    fuel-class-requires
    do-agree-requires
    default-heat-requires
    co2-factor-requires
    ch4-factor-requires
    n2o-factor-requires
    molar-volume-requires
    is-molar-volume-right-requires
    returns)
