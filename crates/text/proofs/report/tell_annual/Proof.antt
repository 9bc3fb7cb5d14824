-- What is longer than `annual` takes is refused by its length. Assumes nothing.
use mathlib.Core.Path.{sym, ap, ◌∙◌}
use borrow.Author.Rules.{rules}
use Rattle.text.specs.Page.{page_of}
use Rattle.text.proofs.ReportLaws.{annual_held_more, annual_held_long, annual_held-year}
use Rattle.text.proofs.report.tell_annual.Statement.{statement}
use Rattle.text.proofs.report.tell_annual.Tie as tie

refuse-book-requires : tie.Need-refuse_book-requires
refuse-book-requires c κs = search rules

returns : tie.Need-returns-then-more
returns c = c.refuse_book.ensures ∙ ap page_of (sym (annual_held_more _ c.if-more.true))

refuse-book-requires-2 : tie.Need-refuse_book-requires-then-book-gt-ANNUAL_MOST
refuse-book-requires-2 c κs = search rules

returns-2 : tie.Need-returns-then-book-gt-ANNUAL_MOST
returns-2 c =
    c.refuse_book-then-book-gt-ANNUAL_MOST.ensures
    ∙ ap page_of (sym (annual_held_long _ c.if-more.false c.if-book-gt-ANNUAL_MOST.true))

tell-year-requires : tie.Need-tell_year-requires
tell-year-requires c κs = search rules

returns-3 : tie.Need-returns
returns-3 c =
    c.tell_year.ensures
    ∙ ap page_of (sym (annual_held-year _ c.if-more.false c.if-book-gt-ANNUAL_MOST.false))

pub tell_annual_spec : {M : Type 1} → statement M
tell_annual_spec =
    tie.close
    (tie.spec
    refuse-book-requires
    returns
    refuse-book-requires-2
    returns-2
    tell-year-requires
    returns-3)
