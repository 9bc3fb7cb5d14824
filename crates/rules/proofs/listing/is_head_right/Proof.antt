-- Either sort has its own row of tests. Assumes nothing.
use Rattle.std.proofs.Common.{sym, ◌∙◌, rules}
use Rattle.rules.specs.Listing.{head_ok}
use Rattle.rules.proofs.listing.is_head_right.Statement.{statement}
use Rattle.rules.proofs.listing.is_head_right.Tie as tie

enum_told : tie.Need-enum_told-1
enum_told c = search rules

is-unit-head-right-requires : tie.Need-is_unit_head_right-requires
is-unit-head-right-requires c κs = search rules

enum-told-2 : tie.Need-enum_told-in-Fuel
enum-told-2 c = search rules

is-fuel-head-right-requires : tie.Need-is_fuel_head_right-requires
is-fuel-head-right-requires c κs = search rules

returns : tie.Need-returns-in-Unit
returns c =
    let a = c.args in
    let unit = c.in-Unit.is in
    c.is_unit_head_right.ensures ∙ sym (λ i. head_ok (unit i) a.l.now)

returns-2 : tie.Need-returns-in-Fuel
returns-2 c =
    let a = c.args in
    let fuel = c.in-Fuel.is in
    c.is_fuel_head_right.ensures ∙ sym (λ i. head_ok (fuel i) a.l.now)

pub is_head_right_spec : {M : Type 1} → statement M
is_head_right_spec =
    tie.close
    (tie.spec
    enum_told
    is-unit-head-right-requires
    enum-told-2
    is-fuel-head-right-requires
    returns
    returns-2)
