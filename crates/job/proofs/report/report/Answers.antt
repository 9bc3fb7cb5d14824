-- The book is asked first, then the checkpoint; 40 is asked before 41, and the figures are of the ledgers that the
-- state stands for. Assumes nothing.
use Rattle.std.proofs.Common.{◌≡◌, ℕ, List, refl, sym, ap, ◌∙◌, subst, lt-ltb, le-ltb}
use Rattle.std.proofs.lemmas.Result.{err_from_is_err_and}
use Rattle.choice.proofs.TestsLaws.{choose_t, choose_f}
use Rattle.mass.specs.declared.figures.Figures.{Figures}
use Rattle.mass.specs.Figures.{AllSound, Mild, figures_of}
use Rattle.rules.specs.declared.book.Head.{Head}
use Rattle.rules.proofs.BookLaws.{opened_open, opened_wrong}
use Rattle.job.specs.declared.counts.Counts.{Counts}
use Rattle.job.specs.Checkpoint.{decode, counts_in}
use Rattle.job.specs.Reply.{reply, reported, figure_values}
use Rattle.job.specs.Report.{figures_at, reply_at}
use Rattle.job.proofs.CheckpointLaws.{fit_for_sound, totals_in-sound, sound-ledgers_of}
use Rattle.job.proofs.WakeLaws.{records_le}
use Rattle.job.proofs.AdmissionLaws.{admitted_for-refused, admitted_for-accepted, admitted_for-whole, admitted_for_so}
use Rattle.job.proofs.ReportLaws.{report_reply_book, report_reply_open, report_for-refused, report_for-sound, mild_warming_of}
use Rattle.job.proofs.report.report.Goals as goal

-- The reply is that to the counts as they were read.
by-counts : (h : Head) (k : List ℕ) {t : Counts} → t ≡ counts_in k
    → reply_at h (record { counts = t; masses = (decode k).masses }) ≡ reply_at h (decode k)
unfolding decode
by-counts h k e i = reply_at h (record { counts = e i; masses = (decode k).masses })

pub returns-in_err-h : goal.returns-in_err-h
unfolding reported
returns-in_err-h c =
    let told = err_from_is_err_and c.from_residual.result c.from_residual.ensures.1 in
    record { reply = rw (told.1, told.2) (sym (report_reply_book _ _ (opened_wrong _ c.open.ensures.answered c.in_err-h.was))) }

pub returns-in_err-admit : goal.returns-in_err-admit
unfolding reported
returns-in_err-admit c =
    let told = err_from_is_err_and c.from_residual-in_err-admit.result c.from_residual-in_err-admit.ensures.1 in
    let opens = opened_open _ c.open.ensures.answered c.in_ok-h.was in
    let away = report_for-refused _ _ (admitted_for-refused _ _ c.admit.ensures.admitted c.in_err-admit.was) in
    record { reply = rw (told.1, told.2) (sym (report_reply_open _ _ opens ∙ away)) }

pub read_counts-t-requires : goal.read_counts-t-requires
read_counts-t-requires c =
    record { whole = admitted_for-whole _ _ (admitted_for-accepted _ _ c.admit.ensures.admitted c.in_ok-admit.was) }

pub returns-then-t-h : goal.returns-then-t-h
unfolding reported reply_at
returns-then-t-h c =
    let opens = opened_open _ c.open.ensures.answered c.in_ok-h.was in
    let sound = admitted_for-accepted _ _ c.admit.ensures.admitted c.in_ok-admit.was in
    record {
      reply =
          sym (choose_t _ (lt-ltb _ _ c.if-t-h.true) refl)
          ∙ by-counts _ _ c.read_counts-t.ensures.counts
          ∙ sym (report_reply_open _ _ opens ∙ report_for-sound _ _ sound);
    }

pub returns-then-t-gt0 : goal.returns-then-t-gt0
unfolding reported reply_at
returns-then-t-gt0 c =
    let opens = opened_open _ c.open.ensures.answered c.in_ok-h.was in
    let sound = admitted_for-accepted _ _ c.admit.ensures.admitted c.in_ok-admit.was in
    record {
      reply =
          sym (choose_f _ (le-ltb _ _ c.if-t-h.false) (choose_t _ (lt-ltb _ _ c.if-t-gt0.true) refl))
          ∙ by-counts _ _ c.read_counts-t.ensures.counts
          ∙ sym (report_reply_open _ _ opens ∙ report_for-sound _ _ sound);
    }

pub find_totals-requires : goal.find_totals-requires
find_totals-requires c =
    record { whole = admitted_for-whole _ _ (admitted_for-accepted _ _ c.admit.ensures.admitted c.in_ok-admit.was) }

pub work_out-requires-clause-sound : goal.work_out-requires-clause-sound
work_out-requires-clause-sound c =
    let sound = admitted_for_so _ _ (admitted_for-accepted _ _ c.admit.ensures.admitted c.in_ok-admit.was) in
    let few = records_le _ _ (opened_open _ c.open.ensures.answered c.in_ok-h.was) in
    subst AllSound (sym (c.find_totals.ensures.totals ∙ totals_in-sound _ _ sound))
    (sound-ledgers_of _ _ (fit_for_sound _ _ sound) few)

pub work_out-requires-clause-mild : goal.work_out-requires-clause-mild
work_out-requires-clause-mild c = subst Mild (sym c.find_warming.ensures.pair) (mild_warming_of _)

pub returns : goal.returns
unfolding reported reply_at figures_at
returns c =
    let opens = opened_open _ c.open.ensures.answered c.in_ok-h.was in
    let sound = admitted_for-accepted _ _ c.admit.ensures.admitted c.in_ok-admit.was in
    let totals = c.find_totals.ensures.totals ∙ totals_in-sound _ _ (admitted_for_so _ _ sound) in
    let figures = c.work_out.ensures.exact ∙ λ i. figures_of (totals i) (c.find_warming.ensures.pair i) in
    record {
      reply =
          ap (λ (f : Figures). reply 0 (figure_values f)) figures
          ∙ sym (choose_f _ (le-ltb _ _ c.if-t-h.false) (choose_f _ (le-ltb _ _ c.if-t-gt0.false) refl))
          ∙ by-counts c.in_ok-h.h _ c.read_counts-t.ensures.counts
          ∙ sym (report_reply_open _ _ opens ∙ report_for-sound _ _ sound);
    }
