-- What `open` answers decides. Assumes nothing.
use mathlib.Core.Path.{sym, ap, ◌∙◌}
use borrow.Author.Rules.{rules}
use Rattle.rules.proofs.BookLaws.{opened_open, opened_wrong}
use Rattle.job.proofs.WakeLaws.{if_open-refused}
use Rattle.text.specs.Page.{page_of}
use Rattle.text.specs.Report.{year_text}
use Rattle.text.proofs.report.tell_year.Statement.{statement}
use Rattle.text.proofs.report.tell_year.Tie as tie

open-requires : tie.Need-open-requires
open-requires c κs = search rules

enum-known-fault : tie.Need-enum_known-fault
enum-known-fault c = search rules

refuse-book-requires : tie.Need-refuse_book-requires
refuse-book-requires c κs = search rules

enum-known-h : tie.Need-enum_known-h
enum-known-h c = search rules

tell-open-requires : tie.Need-tell_open-requires
tell-open-requires c κs = opened_open _ c.«open».ensures c.in-Ok.is

returns : tie.Need-returns-in-Err
unfolding year_text
returns c =
    c.refuse_book.ensures
    ∙ ap page_of (sym (if_open-refused _ _ _
    (opened_wrong _ c.«open».ensures c.in-Err.is)))

returns-2 : tie.Need-returns-in-Ok
returns-2 c = search rules

pub tell_year_spec : {M : Type 1} → statement M
tell_year_spec =
    tie.close
    (tie.spec
    open-requires
    enum-known-fault
    refuse-book-requires
    enum-known-h
    tell-open-requires
    returns
    returns-2)
