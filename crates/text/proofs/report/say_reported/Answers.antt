-- Each answer has its text. Assumes nothing.
use Rattle.std.proofs.Common.{sym, ap, ◌∙◌}
use Rattle.job.proofs.ReplyLaws.{report_known}
use Rattle.text.specs.Extended.{extended}
use Rattle.text.proofs.ReportLaws.{reply_text-reported_refused, reply_text_unfinished, reply_text_record_aside, reply_text-given}
use Rattle.text.proofs.report.say_reported.Goals as goal

pub returns-in-Err : goal.returns-in-Err
returns-in-Err c =
    record { said = c.say_refusal.ensures.said ∙ ap (extended _) (sym (reply_text-reported_refused _ _ c.in-Err.is)) }

pub returns-in-Ok-Unfinished : goal.returns-in-Ok-Unfinished
returns-in-Ok-Unfinished c =
    let told = report_known c.in-Ok-Unfinished.is (rw c.in-Ok-Unfinished.is at c.in-Ok-Unfinished.field-0-is) in
    record { said = c.say_number.ensures.said ∙ ap (extended _) (sym (reply_text_unfinished _ _ told)) }

pub returns-in-Ok-RecordAside : goal.returns-in-Ok-RecordAside
returns-in-Ok-RecordAside c =
    let told = report_known c.in-Ok-RecordAside.is (rw c.in-Ok-RecordAside.is at c.in-Ok-RecordAside.field-0-is) in
    record { said = c.say_aside.ensures.said ∙ ap (extended _) (sym (reply_text_record_aside _ _ _ told)) }

pub returns-in-Ok-Given : goal.returns-in-Ok-Given
returns-in-Ok-Given c =
    let told = report_known c.in-Ok-Given.is (rw c.in-Ok-Given.is at c.in-Ok-Given.field-0-is) in
    record { said = c.say_figures.ensures.said ∙ ap (extended _) (sym (reply_text-given _ _ told)) }
