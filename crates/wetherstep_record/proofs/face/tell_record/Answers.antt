-- Each sight has its word; where no record is shown nothing is written. Assumes nothing.
use Rattle.std.proofs.Common.{sym, ap, ◌∙◌}
use Rattle.rules.specs.Reader.{Sight, sight}
use Rattle.rules.proofs.ReaderLaws.{seen_known, sight-refused, sight-missing, sight_record}
use Rattle.wetherstep_record.specs.Face.{record_word, masses_after}
use Rattle.wetherstep_record.proofs.FaceLaws.{record_word-refused, masses_after-refused, record_word-missing, masses_after-missing}
use Rattle.wetherstep_record.proofs.face.tell_record.Goals as goal

pub returns-in-Err-clause-word : goal.returns-in-Err-clause-word
returns-in-Err-clause-word c =
    record_word-refused (ap sight c.in-Err.is ∙ sight-refused _) c.number_fault.ensures.number c.pack.ensures.word

pub returns-in-Err-clause-masses : goal.returns-in-Err-clause-masses
returns-in-Err-clause-masses c = sym (masses_after-refused (ap sight c.in-Err.is ∙ sight-refused _) _)

pub returns-in-Ok-None-clause-word : goal.returns-in-Ok-None-clause-word
returns-in-Ok-None-clause-word c =
    record_word-missing (ap sight (seen_known c.in-Ok-None.is (rw c.in-Ok-None.is at c.in-Ok-None.field-0-is)) ∙ sight-missing) c.pack-in-Ok-None.ensures.word

pub returns-in-Ok-None-clause-masses : goal.returns-in-Ok-None-clause-masses
returns-in-Ok-None-clause-masses c = sym (masses_after-missing (ap sight (seen_known c.in-Ok-None.is (rw c.in-Ok-None.is at c.in-Ok-None.field-0-is)) ∙ sight-missing) _)

pub returns-in-Ok-Some-clause-word : goal.returns-in-Ok-Some-clause-word
returns-in-Ok-Some-clause-word c =
    c.tell_outcome.ensures.word ∙ ap record_word (sym (ap sight (seen_known c.in-Ok-Some.is (rw c.in-Ok-Some.is at c.in-Ok-Some.field-0-is)) ∙ sight_record _))

pub returns-in-Ok-Some-clause-masses : goal.returns-in-Ok-Some-clause-masses
returns-in-Ok-Some-clause-masses c =
    let before = c.args.masses.now in
    c.tell_outcome.ensures.masses
    ∙ ap (λ (x : Sight). masses_after x before) (sym (ap sight (seen_known c.in-Ok-Some.is (rw c.in-Ok-Some.is at c.in-Ok-Some.field-0-is)) ∙ sight_record _))
