-- Each byte of the word goes on behind those before it.
use Rattle.std.proofs.Common.{refl, ap, ◌∙◌}
use lib.Seq.{take_all}
use Rattle.text.specs.Extended.{extended}
use Rattle.text.proofs.PageLaws.{extended-take}
use Rattle.text.proofs.page.say.Goals as goal

pub loop-b-init : goal.loop-b-init
unfolding extended
loop-b-init c = refl

pub loop-b-preserved : goal.loop-b-preserved
loop-b-preserved c =
    let at = c.loop-b in
    extended-take c.args.p c.args.word.now at.b-index c.loop-b-test.true at.invariant c.say_byte-next.ensures.said

pub returns : goal.returns
returns c =
    let at = c.loop-b in
    record { said = at.invariant ∙ ap (extended c.args.p) (take_all at.b-index c.args.word.now c.loop-b-test.false) }
