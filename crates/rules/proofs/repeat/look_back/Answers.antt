-- What is set aside stays so, and of a record that would count the lines before are looked at. Assumes nothing.
use Rattle.std.proofs.Common.{sym, ◌∙◌}
use Rattle.std.proofs.lemmas.Result.{err_from_is_err_and}
use Rattle.rules.proofs.OnceLaws.{unless_repeated_aside, unless_repeated_again, unless_repeated-first}
use Rattle.rules.proofs.repeat.look_back.Goals as goal

pub returns-in_err-entry : goal.returns-in_err-entry
returns-in_err-entry c =
    let from = err_from_is_err_and c.from_residual.result c.from_residual.ensures.1 in
    record { outcome = rw (from.1, from.2) (sym (unless_repeated_aside _ c.in_err-entry.was)) }

pub returns-then-is_repeated : goal.returns-then-is_repeated
returns-then-is_repeated c = record {
  outcome = sym (unless_repeated_again (sym c.is_repeated.ensures.repeated ∙ c.if-is_repeated.true) c.in_ok-entry.was);
}

pub returns : goal.returns
returns c = record {
  outcome =
      sym c.in_ok-entry.was ∙ sym (unless_repeated-first _ (sym c.is_repeated.ensures.repeated ∙ c.if-is_repeated.false));
}
