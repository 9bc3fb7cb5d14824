-- Each sight is told as the definition says. Assumes nothing.
use Rattle.std.proofs.Common.{sym, ap, ◌∙◌}
use Rattle.rules.specs.Reader.{sight}
use Rattle.rules.proofs.ReaderLaws.{seen_known}
use Rattle.text.specs.Frame.{told_of}
use Rattle.text.proofs.FrameLaws.{told_of-refused, told_of-missing, told_of_record}
use Rattle.text.proofs.frame.tell.Goals as goal

pub returns-in-Err : goal.returns-in-Err
returns-in-Err c =
    let told = told_of-refused _ c.number_fault.ensures.number c.tell_uncounted.ensures.told in
    record { told = told ∙ sym (ap (λ x. told_of (sight x)) c.in-Err.is) }

pub returns-in-Ok-None : goal.returns-in-Ok-None
returns-in-Ok-None c =
    let seen = seen_known c.in-Ok-None.is (rw c.in-Ok-None.is at c.in-Ok-None.field-0-is) in
    record { told = told_of-missing c.tell_uncounted-in-Ok-None.ensures.told ∙ sym (ap (λ x. told_of (sight x)) seen) }

pub returns-in-Ok-Some : goal.returns-in-Ok-Some
returns-in-Ok-Some c =
    let seen = seen_known c.in-Ok-Some.is (rw c.in-Ok-Some.is at c.in-Ok-Some.field-0-is) in
    record { told = told_of_record _ c.tell_outcome.ensures.told ∙ sym (ap (λ x. told_of (sight x)) seen) }
