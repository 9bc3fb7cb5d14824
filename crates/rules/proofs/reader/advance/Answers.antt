-- The place after the reader's is what `step_from` gives. Assumes nothing.
use Rattle.std.proofs.Common.{ap}
use Rattle.rules.specs.Reader.{advanced}
use Rattle.rules.proofs.reader.advance.Goals as goal

pub returns : goal.returns
unfolding advanced
returns c = record { moved = ap (λ n. record { book = c.args.r.book; next = n }) c.step_from-next.ensures.after }
