-- Each answer to a report says how far the job is. Assumes nothing.
use Rattle.std.proofs.Common.{sym, ap, ◌∙◌}
use Rattle.job.proofs.ReplyLaws.{report_known}
use Rattle.text.specs.Extended.{extended}
use Rattle.text.proofs.ProgressLaws.{progress_by-refused, progress_by_unfinished, progress_by_record_aside, progress_by-given}
use Rattle.text.proofs.progress.say_progress.Goals as goal

pub returns-in-Err : goal.returns-in-Err
returns-in-Err c =
    record { said = c.say_refusal.ensures.said ∙ ap (extended _) (sym (progress_by-refused _ _ _ _ c.in-Err.is)) }

pub returns-in-Ok-Unfinished : goal.returns-in-Ok-Unfinished
returns-in-Ok-Unfinished c =
    let told = report_known c.in-Ok-Unfinished.is (rw c.in-Ok-Unfinished.is at c.in-Ok-Unfinished.field-0-is) in
    record { said = c.say_moved.ensures.said ∙ ap (extended _) (sym (progress_by_unfinished _ _ _ _ told)) }

pub returns-in-Ok-RecordAside : goal.returns-in-Ok-RecordAside
returns-in-Ok-RecordAside c =
    let told = report_known c.in-Ok-RecordAside.is (rw c.in-Ok-RecordAside.is at c.in-Ok-RecordAside.field-0-is) in
    record { said = c.say_finished.ensures.said ∙ ap (extended _) (sym (progress_by_record_aside _ _ _ _ _ told)) }

pub returns-in-Ok-Given : goal.returns-in-Ok-Given
returns-in-Ok-Given c =
    let told = report_known c.in-Ok-Given.is (rw c.in-Ok-Given.is at c.in-Ok-Given.field-0-is) in
    record { said = c.say_finished-in-Ok-Given.ensures.said ∙ ap (extended _) (sym (progress_by-given _ _ _ _ told)) }
