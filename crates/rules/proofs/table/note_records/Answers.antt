-- A book that was opened has room for its records.
use Rattle.std.proofs.Common.{arith}
use Rattle.rules.proofs.BookLaws.{accepted_facts}
use Rattle.rules.proofs.table.note_records.Goals as goal

pub note_lines-requires-clause-there : goal.note_lines-requires-clause-there
note_lines-requires-clause-there c = let k = accepted_facts _ _ c.requires.opened in omega arith
