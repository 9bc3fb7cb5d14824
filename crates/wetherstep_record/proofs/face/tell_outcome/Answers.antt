-- Each outcome has its word; what is set aside writes nothing. Assumes nothing.
use Rattle.std.proofs.Common.{sym, ap, ◌∙◌}
use Rattle.rules.specs.Reader.{shown}
use Rattle.wetherstep_record.proofs.FaceLaws.{record_word_aside, masses_after_aside, masses_after-counted}
use Rattle.wetherstep_record.proofs.face.tell_outcome.Goals as goal

pub returns-in-Err-clause-word : goal.returns-in-Err-clause-word
returns-in-Err-clause-word c = record_word_aside (ap shown c.in-Err.is) c.pack.ensures.word

pub returns-in-Err-clause-masses : goal.returns-in-Err-clause-masses
returns-in-Err-clause-masses c = sym (masses_after_aside (ap shown c.in-Err.is) _)

pub returns-in-Ok-clause-masses : goal.returns-in-Ok-clause-masses
returns-in-Ok-clause-masses c =
    c.tell_counted.ensures.masses ∙ sym (masses_after-counted (ap shown c.in-Ok.is) _)
