-- The wake's answer is passed up, and only one that was accepted is saved.
use Rattle.std.proofs.lemmas.Result.{err_from_is_err_and}
use Rattle.files.proofs.KeptLaws.{saved_passed}
use Rattle.files.proofs.kept.wake.Goals as goal

pub returns-in_err-moved-clause-saved : goal.returns-in_err-moved-clause-saved
returns-in_err-moved-clause-saved g c =
    let told = saved_passed c.wake.result c.map_err.result c.wake.ensures.reply c.map_err.ensures.cases in
    let p = err_from_is_err_and c.from_residual.result c.from_residual.ensures.1 in
    rw (p.1, p.2) (rw c.in_err-moved.was at told)

pub returns-in_err-settle-clause-saved : goal.returns-in_err-settle-clause-saved
returns-in_err-settle-clause-saved g c =
    let told = saved_passed c.wake.result c.map_err.result c.wake.ensures.reply c.map_err.ensures.cases in
    let p = err_from_is_err_and c.from_residual-in_err-settle.result c.from_residual-in_err-settle.ensures.1 in
    rw (p.1, p.2, c.in_err-settle.ensures.failed) (record { moved = _; accepts = rw c.in_ok-moved.was at told })

pub returns-in_err-save-clause-saved : goal.returns-in_err-save-clause-saved
returns-in_err-save-clause-saved g c =
    let told = saved_passed c.wake.result c.map_err.result c.wake.ensures.reply c.map_err.ensures.cases in
    let p = err_from_is_err_and c.from_residual-in_err-save.result c.from_residual-in_err-save.ensures.1 in
    rw (p.1, p.2) (record { moved = _; accepts = rw c.in_ok-moved.was at told })

pub returns-clause-saved : goal.returns-clause-saved
returns-clause-saved g c =
    let told = saved_passed c.wake.result c.map_err.result c.wake.ensures.reply c.map_err.ensures.cases in
    rw c.in_ok-moved.was at told
