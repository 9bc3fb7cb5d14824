-- One part behind the other. Assumes nothing.
use Rattle.text.proofs.PageLaws.{extended_more}
use Rattle.text.proofs.plants.say_of_line.Goals as goal

pub returns : goal.returns
returns c = record { said = extended_more c.args.p _ _ c.say_field-p.ensures.said c.say.ensures.said }
