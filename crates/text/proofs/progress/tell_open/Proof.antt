-- The reply to a report of what was saved says how far the job is, and its text fits on a page.
-- Assumes nothing.
use mathlib.Core.Path.{sym, ap, ◌∙◌}
use native.Mathlib.Omega.{arith}
use borrow.Author.Rules.{rules}
use Rattle.job.specs.Reply.{Reply}
use Rattle.job.proofs.WakeLaws.{if_open-accepted}
use Rattle.text.specs.Page.{page_of}
use Rattle.text.specs.Progress.{progress_by, progress_with}
use Rattle.text.proofs.PageLaws.{extended-blank}
use Rattle.text.proofs.WordsLaws.{wider}
use Rattle.text.proofs.ProgressLaws.{progress_by-le}
use Rattle.text.proofs.progress.tell_open.Statement.{statement}
use Rattle.text.proofs.progress.tell_open.Tie as tie

report-requires : tie.Need-report-r-requires
report-requires c κs = search rules

take-blank-requires : tie.Need-take_blank-requires
take-blank-requires c κs = search rules

say-progress-requires : tie.Need-say_progress-requires
say-progress-requires c κs = search rules

returns : tie.Need-returns
unfolding progress_with
returns c =
    let start = c in
    let a = start.args in
    extended-blank _ c.take_blank.ensures c.say_progress.ensures
    (wider (progress_by-le _ a.h a.moved start.requires.0 _) (omega arith)).le
    ∙ ap (λ (x : Reply). page_of (progress_by a.gap.now a.h a.moved x)) c.report-r.ensures
    ∙ ap page_of (sym (if_open-accepted _ _ _ start.requires.1))

pub tell_open_spec : {M : Type 1} → statement M
tell_open_spec =
    tie.close (tie.spec report-requires take-blank-requires say-progress-requires returns)
