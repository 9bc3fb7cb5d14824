-- What isn't left after i lines is those lines. Assumes nothing.
use Rattle.roster.proofs.LinesLaws.{after-le, through-take}
use Rattle.roster.proofs.lines.take_through.Goals as goal

pub overflow_sub-n : goal.overflow_sub-n
overflow_sub-n c = after-le c.args.i c.args.text.now c.take_after.ensures.after

pub returns : goal.returns
returns c = record { through = through-take c.args.i c.args.text.now c.take_after.ensures.after }
