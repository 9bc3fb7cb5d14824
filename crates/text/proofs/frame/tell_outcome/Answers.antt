-- A reason is told by its number. Assumes nothing.
use Rattle.std.proofs.Common.{rules}
use Rattle.text.specs.Frame.{told_of}
use Rattle.text.proofs.frame.tell_outcome.Goals as goal

pub returns-in-Err : goal.returns-in-Err
unfolding told_of
returns-in-Err c = search rules
