-- The decision is a figure too: 1 where the site must report, else 0. Assumes nothing.
use Rattle.std.proofs.Common.{refl, sym}
use Rattle.choice.proofs.TestsLaws.{choose_t, choose_f}
use Rattle.job.proofs.ReplyLaws.{figure_values_six}
use Rattle.wetherstep.proofs.face.list.Goals as goal

pub returns-then-f : goal.returns-then-f
returns-then-f c = record { values = sym (figure_values_six _ (choose_t 0 c.if-f.true refl)) }

pub returns-else-f : goal.returns-else-f
returns-else-f c = record { values = sym (figure_values_six _ (choose_f 1 c.if-f.false refl)) }
