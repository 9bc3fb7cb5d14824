-- A reason is said by its number. Assumes nothing.
use Rattle.std.proofs.Common.{rules}
use Rattle.text.specs.Lines.{outcome_text}
use Rattle.text.proofs.lines.say_outcome.Goals as goal

pub returns-in-Err : goal.returns-in-Err
unfolding outcome_text
returns-in-Err c = search rules
