-- What `open` answers decides; a record below n is judged, and there is none past it. Assumes nothing.
use Rattle.std.proofs.Common.{sym, refl, ap, ◌∙◌, lt-ltb, le-ltb}
use Rattle.std.proofs.lemmas.Result.{err_from_is_err_and}
use Rattle.choice.proofs.TestsLaws.{choose_t, choose_f}
use Rattle.rules.specs.Book.{Answer}
use Rattle.rules.specs.Reader.{numbered, shown, sight_by, sight_at, sight}
use Rattle.rules.proofs.BookLaws.{opened_open, opened_wrong}
use Rattle.rules.proofs.reader.look.Goals as goal

pub returns-in_err-h : goal.returns-in_err-h
unfolding sight_at sight_by sight
returns-in_err-h c =
    let told = err_from_is_err_and c.from_residual.result c.from_residual.ensures.1 in
    let answered = opened_wrong _ c.open.ensures.answered c.in_err-h.was in
    record { shown = rw (told.1, told.2) (sym (ap (λ (x : Answer). sight_by x c.args.book.now c.args.i) answered)) }

pub judge-requires-clause-opened : goal.judge-requires-clause-opened
judge-requires-clause-opened c = opened_open _ c.open.ensures.answered c.in_ok-h.was

pub returns-then-i-h : goal.returns-then-i-h
unfolding sight_at sight_by sight
returns-then-i-h c =
    let answered = opened_open _ c.open.ensures.answered c.in_ok-h.was in
    record {
      shown =
          sym (choose_t _ (lt-ltb _ _ c.if-i-h.true) (ap shown (sym (c.number.ensures.numbered ∙ ap numbered c.judge.ensures.outcome))))
          ∙ sym (ap (λ (x : Answer). sight_by x c.args.book.now c.args.i) answered);
    }

pub returns : goal.returns
unfolding sight_at sight_by sight
returns c =
    let answered = opened_open _ c.open.ensures.answered c.in_ok-h.was in
    record {
      shown =
          sym (choose_f _ (le-ltb _ _ c.if-i-h.false) refl)
          ∙ sym (ap (λ (x : Answer). sight_by x c.args.book.now c.args.i) answered);
    }
