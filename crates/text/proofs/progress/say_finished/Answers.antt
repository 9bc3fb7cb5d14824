-- The two are said one behind the other. Assumes nothing.
use Rattle.text.proofs.PageLaws.{extended_more}
use Rattle.text.proofs.progress.say_finished.Goals as goal

pub returns : goal.returns
returns c = record { said = extended_more _ _ _ c.say_moved-q.ensures.said c.say_reported.ensures.said }
