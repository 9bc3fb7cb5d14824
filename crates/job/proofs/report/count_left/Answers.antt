-- The book is asked first, then the checkpoint, which has no more records done than its book has. Assumes nothing.
use Rattle.std.proofs.Common.{◌-◌, [], ◌∷◌, sym, ap, ◌∙◌, arith}
use Rattle.std.proofs.lemmas.Result.{err_from_is_err_and}
use Rattle.rules.proofs.BookLaws.{opened_open, opened_wrong}
use Rattle.job.specs.declared.counts.Counts.{Counts}
use Rattle.job.specs.Reply.{reply, remaining}
use Rattle.job.proofs.WakeLaws.{records_le}
use Rattle.job.proofs.AdmissionLaws.{admitted_for-refused, admitted_for-accepted, admitted_for-whole, admitted_for-done}
use Rattle.job.proofs.ReportLaws.{left_reply_book, left_reply_open, left_for-refused, left_for-sound}
use Rattle.job.proofs.report.count_left.Goals as goal

pub returns-in_err-h : goal.returns-in_err-h
unfolding remaining
returns-in_err-h c =
    let told = err_from_is_err_and c.from_residual.result c.from_residual.ensures.1 in
    record { reply = rw (told.1, told.2) (sym (left_reply_book _ _ (opened_wrong _ c.open.ensures.answered c.in_err-h.was))) }

pub returns-in_err-admit : goal.returns-in_err-admit
unfolding remaining
returns-in_err-admit c =
    let told = err_from_is_err_and c.from_residual-in_err-admit.result c.from_residual-in_err-admit.ensures.1 in
    let opens = opened_open _ c.open.ensures.answered c.in_ok-h.was in
    let away = left_for-refused _ _ (admitted_for-refused _ _ c.admit.ensures.admitted c.in_err-admit.was) in
    record { reply = rw (told.1, told.2) (sym (left_reply_open _ _ opens ∙ away)) }

pub read_counts-t-requires : goal.read_counts-t-requires
read_counts-t-requires c =
    record { whole = admitted_for-whole _ _ (admitted_for-accepted _ _ c.admit.ensures.admitted c.in_ok-admit.was) }

pub overflow_cast-left : goal.overflow_cast-left
overflow_cast-left c = let few = records_le _ _ (opened_open _ c.open.ensures.answered c.in_ok-h.was) in omega arith

pub overflow_sub-left : goal.overflow_sub-left
overflow_sub-left c =
    let within = admitted_for-done _ _ (admitted_for-accepted _ _ c.admit.ensures.admitted c.in_ok-admit.was) in
    omega (arith, ap (λ (t : Counts). t.done) c.read_counts-t.ensures.counts)

pub returns : goal.returns
unfolding remaining
returns c =
    let opens = opened_open _ c.open.ensures.answered c.in_ok-h.was in
    let sound = admitted_for-accepted _ _ c.admit.ensures.admitted c.in_ok-admit.was in
    let counted = ap (λ (t : Counts). reply 0 ((c.in_ok-h.h.n - t.done) ∷ [])) c.read_counts-t.ensures.counts in
    record { reply = counted ∙ sym (left_reply_open _ _ opens ∙ left_for-sound _ _ sound) }
