use Rattle.std.proofs.Common.{◌/◌, length, ◌<◌, arith, lit≤}
use Rattle.rules.proofs.IndexLaws.{fuel_columns, columns-blank, fuel_columns_next, fuels_noted_all, small-blank, small-set, number-line-lt}
use Rattle.rules.proofs.index.note_fuel_lines.Goals as goal

pub loop-j-init : goal.loop-j-init
loop-j-init c =
    let blank = c.requires.blank in
    record { columns = columns-blank fuel_columns _ 0 320 (lit≤ tt) blank.0; hints = small-blank blank.1 }

pub overflow_cast-fuels : goal.overflow_cast-fuels
overflow_cast-fuels c =
    let there : c.loop-j.j < length c.args.s.now / 32 = omega (arith, c.take_lines-f-items.ensures.count) in
    let below = number-line-lt c.args.s.now c.loop-j.j (λ i. (c.type_inv.s i).fits) (c.take_lines-f-items.ensures.each c.loop-j.j there) c.number-number.ensures.field in
    omega arith

pub loop-j-preserved : goal.loop-j-preserved
loop-j-preserved c =
    let there : c.loop-j.j < length c.args.s.now / 32 = omega (arith, c.take_lines-f-items.ensures.count) in
    let few : c.loop-j.j < 64 = omega (arith, c.requires.rising.few) in
    let inv = c.loop-j.invariant in
    record {
      columns = fuel_columns_next few inv.columns (c.take_lines-f-items.ensures.each c.loop-j.j there)
          c.number-number.ensures.field
          c.find_large.ensures.large
          c.find_allowed.ensures.allowed
          c.find_carbon_limit.ensures.limit
          c.find_volume.ensures.volume;
      hints = small-set _ inv.hints few;
    }

pub returns : goal.returns
returns c = record { noted = (fuels_noted_all (omega (arith, c.take_lines-f-items.ensures.count)) c.loop-j.invariant.columns, c.loop-j.invariant.hints) }
