-- What `open` answers decides; a record below n is judged by the table and noted in it, and there is none past it.
-- Assumes nothing.
use Rattle.std.proofs.Common.{sym, refl, ap, ◌∙◌, arith, lt-ltb, le-ltb}
use Rattle.std.proofs.lemmas.Result.{err_from_is_err_and}
use Rattle.choice.proofs.TestsLaws.{choose_t, choose_f}
use Rattle.rules.specs.Book.{Answer}
use Rattle.rules.specs.Reader.{numbered, shown, sight_by, sight_at, sight}
use Rattle.rules.specs.Table.{noting_by, noting_at}
use Rattle.rules.proofs.BookLaws.{opened_open, opened_wrong}
use Rattle.rules.proofs.reader.look_noted.Goals as goal

pub returns-in_err-h-clause-shown : goal.returns-in_err-h-clause-shown
unfolding sight_at sight_by sight
returns-in_err-h-clause-shown c =
    let told = err_from_is_err_and c.from_residual.result c.from_residual.ensures.1 in
    let answered = opened_wrong _ c.open.ensures.answered c.in_err-h.was in
    rw (told.1, told.2) (sym (ap (λ (x : Answer). sight_by x c.args.book.now c.args.i) answered))

pub returns-in_err-h-clause-noted : goal.returns-in_err-h-clause-noted
unfolding noting_at noting_by
returns-in_err-h-clause-noted c =
    let answered = opened_wrong _ c.open.ensures.answered c.in_err-h.was in
    sym (ap (λ (x : Answer). noting_by x c.args.book.now c.args.i c.args.table.now) answered)

pub judge_next-requires-clause-opened : goal.judge_next-requires-clause-opened
judge_next-requires-clause-opened c = opened_open _ c.open.ensures.answered c.in_ok-h.was

pub judge_next-requires-clause-known : goal.judge_next-requires-clause-known
judge_next-requires-clause-known c =
    let there = c.if-i-h.true in
    c.requires.known.of_book c.in_ok-h.h (opened_open _ c.open.ensures.answered c.in_ok-h.was) (omega arith)

pub returns-then-i-h-clause-shown : goal.returns-then-i-h-clause-shown
unfolding sight_at sight_by sight
returns-then-i-h-clause-shown c =
    let answered = opened_open _ c.open.ensures.answered c.in_ok-h.was in
    sym (choose_t _ (lt-ltb _ _ c.if-i-h.true) (ap shown (sym (c.number.ensures.numbered ∙ ap numbered c.judge_next.ensures.outcome))))
    ∙ sym (ap (λ (x : Answer). sight_by x c.args.book.now c.args.i) answered)

pub returns-then-i-h-clause-noted : goal.returns-then-i-h-clause-noted
unfolding noting_at noting_by
returns-then-i-h-clause-noted c =
    let answered = opened_open _ c.open.ensures.answered c.in_ok-h.was in
    sym (choose_t _ (lt-ltb _ _ c.if-i-h.true) (sym c.judge_next.ensures.noted))
    ∙ sym (ap (λ (x : Answer). noting_by x c.args.book.now c.args.i c.args.table.now) answered)

pub returns-clause-shown : goal.returns-clause-shown
unfolding sight_at sight_by sight
returns-clause-shown c =
    let answered = opened_open _ c.open.ensures.answered c.in_ok-h.was in
    sym (choose_f _ (le-ltb _ _ c.if-i-h.false) refl)
    ∙ sym (ap (λ (x : Answer). sight_by x c.args.book.now c.args.i) answered)

pub returns-clause-noted : goal.returns-clause-noted
unfolding noting_at noting_by
returns-clause-noted c =
    let answered = opened_open _ c.open.ensures.answered c.in_ok-h.was in
    sym (choose_f _ (le-ltb _ _ c.if-i-h.false) refl)
    ∙ sym (ap (λ (x : Answer). noting_by x c.args.book.now c.args.i c.args.table.now) answered)
