-- The one wake goes through every record, so that its report is that of the whole book, and the text
-- fits on a page. Assumes nothing.
use mathlib.Core.Path.{ap, refl, ◌∙◌}
use native.Mathlib.Omega.{arith}
use borrow.Author.Rules.{rules}
use Rattle.text.specs.Page.{page_of}
use Rattle.text.proofs.PageLaws.{extended-blank}
use Rattle.text.proofs.WordsLaws.{wider}
use Rattle.text.proofs.ReportLaws.{reply_text-le, year_text-whole}
use Rattle.text.proofs.report.tell_open.Statement.{statement}
use Rattle.text.proofs.report.tell_open.Tie as tie

slice-aggregate-fresh : tie.Need-slice_bounds-fresh-end
slice-aggregate-fresh c = search rules

fresh-requires : tie.Need-fresh-requires
fresh-requires c κs = search rules

slice-aggregate-wake : tie.Need-slice_bounds-wake-end
slice-aggregate-wake c = search rules

slice-aggregate-wake-2 : tie.Need-slice_bounds-wake-end-2
slice-aggregate-wake-2 c = search rules

wake-requires : tie.Need-wake-requires
wake-requires c κs = search rules

slice-aggregate-report : tie.Need-slice_bounds-report-end
slice-aggregate-report c = search rules

report-requires : tie.Need-report-r-requires
report-requires c κs = search rules

take-blank-requires : tie.Need-take_blank-requires
take-blank-requires c κs = search rules

say-reported-requires : tie.Need-say_reported-requires
say-reported-requires c κs = search rules

returns : tie.Need-returns
returns c =
    let woke = c in
    let begun = woke in
    let start = begun in
    extended-blank _ c.take_blank.ensures c.say_reported.ensures
    (wider (reply_text-le start.args.h _) (omega arith)).le
    ∙ ap page_of (year_text-whole _ start.requires _ _ refl refl
    begun.fresh.ensures.1 woke.wake.ensures.1 c.report-r.ensures)

pub tell_open_spec : {M : Type 1} → statement M
tell_open_spec =
    tie.close
    (tie.spec
    slice-aggregate-fresh
    fresh-requires
    slice-aggregate-wake
    slice-aggregate-wake-2
    wake-requires
    slice-aggregate-report
    report-requires
    take-blank-requires
    say-reported-requires
    returns)
