-- What `advance` says of the reader, field by field. Assumes nothing.
use Rattle.std.proofs.Common.{◌∙◌, ap}
use Rattle.rules.specs.Reader.{advanced, left_from}
use Rattle.rules.specs.declared.reader.Reader.{Reader}
use Rattle.rules.proofs.reader.go_past.Goals as goal

pub returns-clause-after : goal.returns-clause-after
unfolding advanced
returns-clause-after c = ap (λ (r : Reader). r.next) c.advance-after.ensures.moved

pub returns-clause-left : goal.returns-clause-left
unfolding advanced
returns-clause-left c =
    c.count_left.ensures.left
    ∙ ap (λ (r : Reader). left_from r.book.now c.advance-after.result.next) c.advance-after.ensures.moved
