-- A book that opens leaves the table to say what is due, and any other is refused.
use Rattle.std.proofs.lemmas.Result.{err_from_is_err_and}
use Rattle.rules.proofs.BookLaws.{opened_open, opened_wrong}
use Rattle.files.proofs.GuardLaws.{due_of_due}
use Rattle.files.proofs.kept.find_due.Goals as goal

pub returns-in-Err : goal.returns-in-Err
returns-in-Err g c = record { due = opened_wrong _ c.open.ensures.answered c.in-Err.is }

pub returns-in_err-check_apart-in-Ok : goal.returns-in_err-check_apart-in-Ok
returns-in_err-check_apart-in-Ok g c =
    let p = err_from_is_err_and c.from_residual.result c.from_residual.ensures.1 in
    let opens = opened_open _ c.open.ensures.answered c.in-Ok.is in
    record { due = rw (p.1, p.2, c.in_err-check_apart-in-Ok.ensures.failed) (record { head = _; opens = opens }) }

pub returns-in_err-compare-in-Ok : goal.returns-in_err-compare-in-Ok
returns-in_err-compare-in-Ok g c =
    let p = err_from_is_err_and c.from_residual-in_err-compare-in-Ok.result c.from_residual-in_err-compare-in-Ok.ensures.1 in
    let opens = opened_open _ c.open.ensures.answered c.in-Ok.is in
    record { due = rw (p.1, p.2, c.in_err-compare-in-Ok.ensures.failed) (record { head = _; opens = opens }) }

pub returns-in_ok-compare-in-Ok : goal.returns-in_ok-compare-in-Ok
returns-in_ok-compare-in-Ok g c =
    let opens = opened_open _ c.open.ensures.answered c.in-Ok.is in
    record { due = rw c.decide.ensures.due (due_of_due _ _ _ (record { head = _; opens = opens })) }
