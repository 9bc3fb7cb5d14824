use Rattle.std.proofs.Common.{◌<◌, ◌/◌, length, ℕ, ◌%◌, ap, ◌∙◌, arith}
use Rattle.rules.specs.Fields.{number}
use Rattle.rules.proofs.HintsLaws.{hinted-zero, hinted_next, hints_in-all}
use Rattle.rules.proofs.hints.note.Goals as goal

pub loop-i-init : goal.loop-i-init
loop-i-init c = hinted-zero _ _

pub loop-i-preserved : goal.loop-i-preserved
loop-i-preserved c =
    let there : c.loop-i.i < length c.args.s.now / 32 = omega (arith, c.take_lines-l-items.ensures.count) in
    let is-line = c.take_lines-l-items.ensures.each c.loop-i.i there in
    hinted_next _ _ _ (ap (λ (x : ℕ). x % 1024) (c.number.ensures.field ∙ ap number is-line)) c.loop-i.invariant

pub returns : goal.returns
returns c =
    record { noted = c.loop-i.invariant ∙ hints_in-all _ _ _ (omega (arith, c.take_lines-l-items.ensures.count)) }
