-- By the hints and the columns the tests are those of the record, its unit and its fuel.
use Rattle.std.proofs.Common.{ℕ, ◌*◌, ◌%◌, ◌<◌, refl, ◌∙◌, arith, lit≤}
use Rattle.rules.specs.Bytes.{byte}
use Rattle.rules.proofs.BookLaws.{accepted_facts}
use Rattle.rules.proofs.IndexLaws.{column_le}
use Rattle.rules.proofs.EntryLaws.{carbon_limit-le}
use Rattle.rules.proofs.StandsLaws.{Found}
use Rattle.rules.proofs.SortedFuelLaws.{Tested, tested, settled_fuel}
use Rattle.rules.proofs.sorting.sort_fuel.Goals as goal
use Rattle.rules.proofs.sorting.sort_fuel.Goals.{Else-not-unit_right-fuel_right}

pub take_line-l-requires : goal.take_line-l-requires
take_line-l-requires c = let k = accepted_facts _ _ c.requires.opened in record { there = omega (arith, c.requires.there.0) }

-- All tests are passed.
tests : (c : Else-not-unit_right-fuel_right) →
    Tested c.take_line-l.result.now c.args.units.now c.args.fuels.now
    c.unit_number.result c.fuel_number.result c.look_up-j.result.0 c.look_up-k.result.0
tests c =
    tested _ _ _ _ _ _ _ c.look_up-j.ensures.right c.look_up-k.ensures.right c.is_form_right.ensures.right
    c.is_heat_right-heat_right.ensures.right c.is_carbon_right-carbon_right.ensures.right c.is_allowed-allowed.ensures.allowed c.if-not-unit_right-fuel_right.false

found : (c : Else-not-unit_right-fuel_right) → ((b : ℕ) → byte c.args.book.now b < 256) →
    Found c.args.h c.args.book.now c.args.i c.take_line-l.result.now c.args.units.now c.args.fuels.now
    c.look_up-j.result.0 c.look_up-k.result.0
found c bytes = record {
  unit = record {
    book = c.requires.opened;
    bytes = bytes;
    line_is = c.take_line-l.ensures.line;
    units = c.requires.units.0;
    few = c.look_up-j.ensures.few;
    has = (tests c).unit_has ∙ c.unit_number.ensures.field;
  };
  fuels = c.requires.fuels.0;
  few = c.look_up-k.ensures.few;
  has = (tests c).fuel_has ∙ c.fuel_number.ensures.field;
}

pub is_carbon_right-carbon_right-requires : goal.is_carbon_right-carbon_right-requires
is_carbon_right-carbon_right-requires c = record {
  small = column_le c.requires.fuels.0.carbon c.look_up-k.ensures.few 4000000 (lit≤ tt) (λ j. carbon_limit-le _);
}

pub returns-clause-settled : goal.returns-clause-settled
returns-clause-settled c =
    let passed = (goal.at.returns-clause-settled c).Else-not-unit_right-fuel_right in
    settled_fuel (found passed (λ b. (c.type_inv.book b).fits)) (tests passed) _ c.requires.there.1 refl
    (λ i. c.flags.ensures.field i % 4) c.find_burned.ensures.burned
    (λ i. c.amount.ensures.field i * c.carbon.ensures.field i) refl
