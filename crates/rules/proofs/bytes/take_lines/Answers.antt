-- A line is the chunk of its index.
use Rattle.rules.proofs.BytesLaws.{line-chunk}
use Rattle.rules.proofs.bytes.take_lines.Goals as goal

pub returns-clause-each : goal.returns-clause-each
returns-clause-each c = λ k there. rw c.as_chunks.ensures.front (line-chunk _ _ _ there)
