-- Where fuel lines would start is told for a book that is open.
use Rattle.std.proofs.Common.{arith}
use Rattle.rules.proofs.BookLaws.{accepted_facts}
use Rattle.job.proofs.tabled.go_known.Goals as goal

pub has_no_fuel-requires : goal.has_no_fuel-requires
has_no_fuel-requires c = let k = accepted_facts _ _ c.requires.opened in record { within = omega arith }
