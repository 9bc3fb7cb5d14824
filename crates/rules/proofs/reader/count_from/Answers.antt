-- A refused book has no record, and of another those before i don't count. Assumes nothing.
use Rattle.std.proofs.Common.{sym, ap, ◌∙◌}
use Rattle.rules.specs.Book.{Answer}
use Rattle.rules.specs.Reader.{left_by, left_from}
use Rattle.rules.proofs.BookLaws.{opened_open, opened_wrong}
use Rattle.rules.proofs.reader.count_from.Goals as goal

pub returns-in-Err : goal.returns-in-Err
unfolding left_from left_by
returns-in-Err c =
    record { left = sym (ap (λ (x : Answer). left_by x c.args.i) (opened_wrong _ c.open.ensures.answered c.in-Err.is)) }

pub returns-in-Ok : goal.returns-in-Ok
unfolding left_from left_by
returns-in-Ok c =
    let answered = opened_open _ c.open.ensures.answered c.in-Ok.is in
    record { left = c.saturating_sub.ensures ∙ sym (ap (λ (x : Answer). left_by x c.args.i) answered) }
