-- Each answer has one reply, with its word and its figures; what gives no figures writes nothing.
-- Assumes nothing.
use Rattle.std.proofs.Common.{refl, sym, ap, ◌∙◌}
use Rattle.job.specs.Reply.{reported}
use Rattle.job.proofs.ReplyLaws.{report_known, woken-refused, reported-refused, reported_unfinished, reported_record_aside, reported-given}
use Rattle.wetherstep.specs.Face.{word_of}
use Rattle.wetherstep.proofs.FaceLaws.{word_of_count, word_of_aside, word_of-given, figures_after-kept, figures_after-given}
use Rattle.wetherstep.proofs.face.tell_report.Goals as goal

pub returns-in-Err-clause-word : goal.returns-in-Err-clause-word
returns-in-Err-clause-word c =
    let told = ap reported c.in-Err.is ∙ reported-refused _ in
    c.tell_count.ensures.word ∙ ap word_of (woken-refused _ ∙ sym told)

pub returns-in-Err-clause-figures : goal.returns-in-Err-clause-figures
returns-in-Err-clause-figures c = sym (figures_after-kept _ (ap reported c.in-Err.is ∙ reported-refused _) refl)

pub returns-in-Ok-Unfinished-clause-word : goal.returns-in-Ok-Unfinished-clause-word
returns-in-Ok-Unfinished-clause-word c =
    let told = ap reported (report_known c.in-Ok-Unfinished.is (rw c.in-Ok-Unfinished.is at c.in-Ok-Unfinished.field-0-is)) ∙ reported_unfinished _ in
    word_of_count told c.pack.ensures.word

pub returns-in-Ok-Unfinished-clause-figures : goal.returns-in-Ok-Unfinished-clause-figures
returns-in-Ok-Unfinished-clause-figures c =
    let told = ap reported (report_known c.in-Ok-Unfinished.is (rw c.in-Ok-Unfinished.is at c.in-Ok-Unfinished.field-0-is)) ∙ reported_unfinished _ in
    sym (figures_after-kept _ told refl)

pub returns-in-Ok-RecordAside-clause-word : goal.returns-in-Ok-RecordAside-clause-word
returns-in-Ok-RecordAside-clause-word c =
    let told = ap reported (report_known c.in-Ok-RecordAside.is (rw c.in-Ok-RecordAside.is at c.in-Ok-RecordAside.field-0-is)) ∙ reported_record_aside _ _ in
    word_of_aside told c.pack-in-Ok-RecordAside.ensures.word

pub returns-in-Ok-RecordAside-clause-figures : goal.returns-in-Ok-RecordAside-clause-figures
returns-in-Ok-RecordAside-clause-figures c =
    let told = ap reported (report_known c.in-Ok-RecordAside.is (rw c.in-Ok-RecordAside.is at c.in-Ok-RecordAside.field-0-is)) ∙ reported_record_aside _ _ in
    sym (figures_after-kept _ told refl)

pub returns-in-Ok-Given-clause-word : goal.returns-in-Ok-Given-clause-word
returns-in-Ok-Given-clause-word c =
    let told = ap reported (report_known c.in-Ok-Given.is (rw c.in-Ok-Given.is at c.in-Ok-Given.field-0-is)) ∙ reported-given _ in
    word_of-given _ told c.pack-in-Ok-Given.ensures.word

pub returns-in-Ok-Given-clause-figures : goal.returns-in-Ok-Given-clause-figures
returns-in-Ok-Given-clause-figures c =
    let told = ap reported (report_known c.in-Ok-Given.is (rw c.in-Ok-Given.is at c.in-Ok-Given.field-0-is)) ∙ reported-given _ in
    c.list.ensures.values ∙ sym (figures_after-given _ told _)
