-- A fresh start's answer is taken over.
use Rattle.std.proofs.Common.{length}
use Rattle.std.proofs.lemmas.Result.{err_from_is_err_and}
use Rattle.files.proofs.KeptLaws.{placed-refused, placed_at}
use Rattle.files.proofs.kept.begin.Goals as goal

pub returns-in_err-fresh-clause-place : goal.returns-in_err-fresh-clause-place
returns-in_err-fresh-clause-place c =
    let p = err_from_is_err_and c.from_residual.result c.from_residual.ensures.1 in
    rw (p.1, p.2) (placed-refused _ c.fresh.ensures.reply c.in_err-fresh.was)

pub returns-clause-place : goal.returns-clause-place
returns-clause-place c =
    rw c.fresh.auto.out (placed_at (length c.args.out.now) c.fresh.ensures.reply c.in_ok-fresh.was)
