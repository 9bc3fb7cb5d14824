-- By the hints and the columns the tests are those of the record, its unit and its fuel.
use Rattle.std.proofs.Common.{ℕ, ◌+◌, ◌-◌, ◌*◌, ◌/◌, ◌%◌, ◌<◌, get_or, refl, ◌∙◌, arith}
use Rattle.mass.specs.Gas.{co2_of_gas}
use Rattle.rules.specs.Bytes.{byte}
use Rattle.rules.proofs.BookLaws.{accepted_facts}
use Rattle.rules.proofs.StandsLaws.{Found}
use Rattle.rules.proofs.SortedGasLaws.{Tested, tested, way_found_le, gas_in_reach, settled_gas}
use Rattle.rules.proofs.sorting.sort_gas.Goals as goal
use Rattle.rules.proofs.sorting.sort_gas.Goals.{Else-not-unit_right-fuel_right}

pub take_line-l-requires : goal.take_line-l-requires
take_line-l-requires c = let k = accepted_facts _ _ c.requires.opened in record { there = omega (arith, c.requires.there.0) }

-- All tests are passed.
tests : (c : Else-not-unit_right-fuel_right) →
    Tested c.take_line-l.result.now c.args.units.now c.args.fuels.now
    c.unit_number.result c.fuel_number.result c.look_up-j.result.0 c.look_up-k.result.0
tests c =
    tested _ _ _ _ _ _ _ c.look_up-j.ensures.right c.look_up-k.ensures.right c.is_gas_right.ensures.right
    c.is_heat_right-heat_right.ensures.right c.is_allowed-allowed.ensures.allowed c.if-not-unit_right-fuel_right.false

found : (c : Else-not-unit_right-fuel_right) → ((b : ℕ) → byte c.args.book.now b < 256) →
    Found c.args.h c.args.book.now c.args.i c.take_line-l.result.now c.args.units.now c.args.fuels.now
    c.look_up-j.result.0 c.look_up-k.result.0
found c bytes = record {
  unit = record {
    book = c.requires.opened;
    bytes = bytes;
    line_is = c.take_line-l.ensures.line;
    units = c.requires.units.0;
    few = c.look_up-j.ensures.few;
    has = (tests c).unit_has ∙ c.unit_number.ensures.field;
  };
  fuels = c.requires.fuels.0;
  few = c.look_up-k.ensures.few;
  has = (tests c).fuel_has ∙ c.fuel_number.ensures.field;
}

pub overflow_sub-counted : goal.overflow_sub-counted
overflow_sub-counted c =
    let passed = (goal.at.overflow_sub-counted c).Else-not-unit_right-fuel_right in
    omega (arith, way_found_le (found passed (λ b. (c.type_inv.book b).fits)) (tests passed) c.requires.there.1)

pub weigh-co2-requires : goal.weigh-co2-requires
weigh-co2-requires c =
    let passed = (goal.at.weigh-co2-requires c).Else-not-unit_right-fuel_right in
    record {
      reach = gas_in_reach (found passed (λ b. (c.type_inv.book b).fits)) (tests passed) c.requires.there.1
          c.amount.ensures.field c.carbon.ensures.field c.molecular_weight.ensures.field;
    }

pub returns : goal.returns
returns c =
    let passed = (goal.at.returns c).Else-not-unit_right-fuel_right in
    let way = get_or c.args.units.now (128 + c.look_up-j.result.0) 0 in
    let volume = get_or c.args.fuels.now (256 + c.look_up-k.result.0) 0 in
    let co2 = c.weigh-co2.ensures.exact
    ∙ λ i. co2_of_gas (record { 0 = c.amount.ensures.field i * (1 - way / 4) }) (record { 0 = c.carbon.ensures.field i })
    (record { 0 = c.molecular_weight.ensures.field i }) (record { 0 = volume }) in
    record {
      settled = settled_gas (found passed (λ b. (c.type_inv.book b).fits)) (tests passed) c.requires.there.1 _
          refl (λ i. 2 + c.flags.ensures.field i % 2) c.find_burned.ensures.burned refl co2;
    }
