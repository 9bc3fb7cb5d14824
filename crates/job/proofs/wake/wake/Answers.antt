-- The book is asked first, then the checkpoint, then the buffer's length. Past them the checkpoint's place is in the
-- book, so that no more records than are left are gone through. Assumes nothing.
use Rattle.std.proofs.Common.{ℕ, ◌-◌, min, [], ◌∷◌, sym, ap, ◌∙◌, arith}
use Rattle.std.proofs.lemmas.Result.{err_from_is_err_and}
use Rattle.rules.proofs.BookLaws.{opened_open, opened_wrong}
use Rattle.job.specs.declared.counts.Counts.{Counts}
use Rattle.job.specs.State.{run}
use Rattle.job.specs.Checkpoint.{decode, encode}
use Rattle.job.specs.Reply.{reply, woken}
use Rattle.job.specs.Wake.{moves, wake_reply, wake_bytes}
use Rattle.job.proofs.WakeLaws.{wake_admitted_book, wake_admitted-refused, wake_admitted_short, wake_admitted-whole, records_le}
use Rattle.job.proofs.AdmissionLaws.{admitted_for-refused, admitted_for-accepted, admitted_for-whole, admitted_for-done}
use Rattle.job.proofs.wake.wake.Goals as goal

pub returns-in_err-h-clause-reply : goal.returns-in_err-h-clause-reply
unfolding woken wake_reply
returns-in_err-h-clause-reply c =
    let told = err_from_is_err_and c.from_residual.result c.from_residual.ensures.1 in
    rw (told.1, told.2) (sym (wake_admitted_book _ _ _ _ _ (opened_wrong _ c.open.ensures.answered c.in_err-h.was)))

pub returns-in_err-h-clause-bytes : goal.returns-in_err-h-clause-bytes
unfolding wake_bytes
returns-in_err-h-clause-bytes c =
    sym (wake_admitted_book _ _ _ _ _ (opened_wrong _ c.open.ensures.answered c.in_err-h.was))

pub returns-in_err-admit-clause-reply : goal.returns-in_err-admit-clause-reply
unfolding woken wake_reply
returns-in_err-admit-clause-reply c =
    let told = err_from_is_err_and c.from_residual-in_err-admit.result c.from_residual-in_err-admit.ensures.1 in
    let opens = opened_open _ c.open.ensures.answered c.in_ok-h.was in
    let away = admitted_for-refused _ _ c.admit.ensures.admitted c.in_err-admit.was in
    rw (told.1, told.2) (sym (wake_admitted-refused _ _ _ _ _ opens away))

pub returns-in_err-admit-clause-bytes : goal.returns-in_err-admit-clause-bytes
unfolding wake_bytes
returns-in_err-admit-clause-bytes c =
    let opens = opened_open _ c.open.ensures.answered c.in_ok-h.was in
    sym (wake_admitted-refused _ _ _ _ _ opens (admitted_for-refused _ _ c.admit.ensures.admitted c.in_err-admit.was))

pub returns-then-out-ne-SIZE-clause-reply : goal.returns-then-out-ne-SIZE-clause-reply
unfolding woken wake_reply
returns-then-out-ne-SIZE-clause-reply c =
    let opens = opened_open _ c.open.ensures.answered c.in_ok-h.was in
    let sound = admitted_for-accepted _ _ c.admit.ensures.admitted c.in_ok-admit.was in
    sym (wake_admitted_short _ _ _ _ _ opens sound c.if-out-ne-SIZE.true)

pub returns-then-out-ne-SIZE-clause-bytes : goal.returns-then-out-ne-SIZE-clause-bytes
unfolding wake_bytes
returns-then-out-ne-SIZE-clause-bytes c =
    let opens = opened_open _ c.open.ensures.answered c.in_ok-h.was in
    let sound = admitted_for-accepted _ _ c.admit.ensures.admitted c.in_ok-admit.was in
    sym (wake_admitted_short _ _ _ _ _ opens sound c.if-out-ne-SIZE.true)

pub read_counts-c-requires : goal.read_counts-c-requires
read_counts-c-requires c =
    record { whole = admitted_for-whole _ _ (admitted_for-accepted _ _ c.admit.ensures.admitted c.in_ok-admit.was) }

pub overflow_cast-left : goal.overflow_cast-left
overflow_cast-left c = let few = records_le _ _ (opened_open _ c.open.ensures.answered c.in_ok-h.was) in omega arith

pub overflow_sub-left : goal.overflow_sub-left
overflow_sub-left c =
    let within = admitted_for-done _ _ (admitted_for-accepted _ _ c.admit.ensures.admitted c.in_ok-admit.was) in
    omega (arith, ap (λ (t : Counts). t.done) c.read_counts-c.ensures.counts)

pub go_through-requires-clause-opened : goal.go_through-requires-clause-opened
go_through-requires-clause-opened c = opened_open _ c.open.ensures.answered c.in_ok-h.was

pub go_through-requires-clause-sound : goal.go_through-requires-clause-sound
go_through-requires-clause-sound c = (
  admitted_for-accepted _ _ c.admit.ensures.admitted c.in_ok-admit.was,
  c.read_counts-c.ensures.counts,
)

-- As many records as there are left, at most.
pub go_through-requires-clause-left : goal.go_through-requires-clause-left
go_through-requires-clause-left c =
    let within = admitted_for-done _ _ (admitted_for-accepted _ _ c.admit.ensures.admitted c.in_ok-admit.was) in
    omega (arith, ap (λ (t : Counts). t.done) c.read_counts-c.ensures.counts)

pub returns-clause-reply : goal.returns-clause-reply
unfolding woken wake_reply moves
returns-clause-reply c =
    let opens = opened_open _ c.open.ensures.answered c.in_ok-h.was in
    let sound = admitted_for-accepted _ _ c.admit.ensures.admitted c.in_ok-admit.was in
    let n = c.min-n.ensures ∙ ap (λ (t : Counts). min c.args.budget (c.in_ok-h.h.n - t.done)) c.read_counts-c.ensures.counts in
    ap (λ (m : ℕ). reply 0 (m ∷ [])) n ∙ sym (wake_admitted-whole _ _ _ _ _ opens sound c.if-out-ne-SIZE.false)

pub returns-clause-bytes : goal.returns-clause-bytes
unfolding wake_bytes moves
returns-clause-bytes c =
    let opens = opened_open _ c.open.ensures.answered c.in_ok-h.was in
    let sound = admitted_for-accepted _ _ c.admit.ensures.admitted c.in_ok-admit.was in
    let n = c.min-n.ensures ∙ ap (λ (t : Counts). min c.args.budget (c.in_ok-h.h.n - t.done)) c.read_counts-c.ensures.counts in
    c.go_through.ensures.written
    ∙ ap (λ (m : ℕ). encode c.in_ok-h.h (run c.in_ok-h.h c.args.book.now (decode c.args.from.now) m)) n
    ∙ sym (wake_admitted-whole _ _ _ _ _ opens sound c.if-out-ne-SIZE.false)
