-- The book is asked before the buffer's length, and past both `write` fills the buffer. Assumes nothing.
use Rattle.std.proofs.Common.{sym, ap, ◌∙◌}
use Rattle.std.proofs.lemmas.Result.{err_from_is_err_and}
use Rattle.rules.proofs.BookLaws.{opened_open, opened_wrong}
use Rattle.job.specs.Checkpoint.{encode}
use Rattle.job.specs.Reply.{started}
use Rattle.job.specs.Wake.{fresh_reply, fresh_bytes}
use Rattle.job.proofs.WakeLaws.{fresh_admitted_book, fresh_admitted_32, fresh_admitted_go, head_fits}
use Rattle.job.proofs.RunLaws.{state_on-fresh, light_fresh}
use Rattle.job.proofs.wake.fresh.Goals as goal

pub returns-in_err-h-clause-reply : goal.returns-in_err-h-clause-reply
unfolding started fresh_reply
returns-in_err-h-clause-reply c =
    let told = err_from_is_err_and c.from_residual.result c.from_residual.ensures.1 in
    rw (told.1, told.2) (sym (fresh_admitted_book _ _ _ _ (opened_wrong _ c.open.ensures.answered c.in_err-h.was)))

pub returns-in_err-h-clause-bytes : goal.returns-in_err-h-clause-bytes
unfolding fresh_bytes
returns-in_err-h-clause-bytes c =
    sym (fresh_admitted_book _ _ _ _ (opened_wrong _ c.open.ensures.answered c.in_err-h.was))

pub returns-then-out-ne-SIZE-clause-reply : goal.returns-then-out-ne-SIZE-clause-reply
unfolding started fresh_reply
returns-then-out-ne-SIZE-clause-reply c =
    let opens = opened_open _ c.open.ensures.answered c.in_ok-h.was in
    sym (fresh_admitted_32 _ _ _ _ opens c.if-out-ne-SIZE.true)

pub returns-then-out-ne-SIZE-clause-bytes : goal.returns-then-out-ne-SIZE-clause-bytes
unfolding fresh_bytes
returns-then-out-ne-SIZE-clause-bytes c =
    let opens = opened_open _ c.open.ensures.answered c.in_ok-h.was in
    sym (fresh_admitted_32 _ _ _ _ opens c.if-out-ne-SIZE.true)

pub write-requires-clause-fits : goal.write-requires-clause-fits
write-requires-clause-fits c = head_fits _ _ (opened_open _ c.open.ensures.answered c.in_ok-h.was)

pub write-requires-clause-light : goal.write-requires-clause-light
write-requires-clause-light c = light_fresh

pub returns-clause-reply : goal.returns-clause-reply
unfolding started fresh_reply
returns-clause-reply c =
    let opens = opened_open _ c.open.ensures.answered c.in_ok-h.was in
    sym (fresh_admitted_go _ _ _ _ opens c.if-out-ne-SIZE.false)

pub returns-clause-bytes : goal.returns-clause-bytes
unfolding fresh_bytes
returns-clause-bytes c =
    let opens = opened_open _ c.open.ensures.answered c.in_ok-h.was in
    c.write.ensures.written ∙ ap (encode c.in_ok-h.h) state_on-fresh ∙ sym (fresh_admitted_go _ _ _ _ opens c.if-out-ne-SIZE.false)
