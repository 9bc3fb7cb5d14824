-- Each answer is told of the line at the head of what is left. Assumes nothing.
use Rattle.std.proofs.Common.{rules, arith, sym, refl, ◌∙◌, ◌<◌}
use Rattle.roster.specs.Plants.{verdict_on}
use Rattle.roster.proofs.BytesLaws.{rest_lt}
use Rattle.roster.proofs.VerdictLaws.{verdict_on_end, verdict_on-unended, verdict_on_many, verdict_on_wrong, verdict_on_again, verdict_on_next}
use Rattle.roster.proofs.plants.judge.Goals as goal

pub loop-left-init : goal.loop-left-init
unfolding verdict_on
loop-left-init c = (search rules, refl)

pub returns-then-i-eq-MOST_PLANTS : goal.returns-then-i-eq-MOST_PLANTS
returns-then-i-eq-MOST_PLANTS c =
    let at = c.loop-left in
    record { verdict = verdict_on_many _ at.i at.left.now at.invariant.1 (search rules) (omega arith) }

pub returns-in_default : goal.returns-in_default
returns-in_default c =
    let at = c.loop-left in
    record {
      verdict =
          search rules
          ∙ verdict_on-unended _ at.i at.left.now at.invariant.1 c.in_default.ensures.cut (search rules) (grind arith);
    }

pub returns-then-not-is_plant : goal.returns-then-not-is_plant
returns-then-not-is_plant c =
    let at = c.loop-left in
    let cut = c.in-Some.ensures.cut in
    record {
      verdict =
          verdict_on_wrong _ at.i at.left.now at.invariant.1 cut.0 cut.1 (grind arith)
          (sym c.if-not-is_plant.ensures.plant);
    }

pub returns-then-is_named_before : goal.returns-then-is_named_before
returns-then-is_named_before c =
    let at = c.loop-left in
    let cut = c.in-Some.ensures.cut in
    record {
      verdict =
          verdict_on_again _ at.i at.left.now at.invariant.1 cut.0 cut.1 (grind arith)
          (sym c.if-not-is_plant.ensures.plant) (sym c.if-is_named_before.ensures.named);
    }

pub loop-left-smaller : goal.loop-left-smaller
loop-left-smaller c =
    let cut = c.in-Some.ensures.cut in
    rest_lt _ c.loop-left.left.now cut.2 cut.0

pub loop-left-preserved : goal.loop-left-preserved
loop-left-preserved c =
    let at = c.loop-left in
    let cut = c.in-Some.ensures.cut in
    let few : at.i < 16 = grind arith in (
      omega arith,
      verdict_on_next _ at.i at.left.now at.invariant.1 cut.0 cut.1 few
          (sym c.if-not-is_plant.ensures.plant) (sym c.if-is_named_before.ensures.named) cut.2,
    )

pub returns : goal.returns
returns c =
    let at = c.loop-left in
    record { verdict = verdict_on_end _ at.i at.left.now at.invariant.1 (search rules) }
