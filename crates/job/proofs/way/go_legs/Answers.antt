-- How few are few is told for a book that is open.
use Rattle.std.proofs.Common.{arith}
use Rattle.rules.proofs.BookLaws.{accepted_facts}
use Rattle.job.proofs.way.go_legs.Goals as goal

pub find_few-requires : goal.find_few-requires
find_few-requires c = let k = accepted_facts _ _ c.requires.opened in record { within = (omega arith, omega arith) }
