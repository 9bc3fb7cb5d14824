-- 30 and 31 have a hint, and no other number has one. Assumes nothing.
use mathlib.Core.Path.{ap, sym, ◌∙◌}
use borrow.Author.Rules.{rules}
use Rattle.text.specs.Page.{page_of}
use Rattle.text.proofs.ProgressLaws.{hint_text_book, hint_text_30, hint_text_31, hint_text_32}
use Rattle.text.proofs.progress.hint.Statement.{statement}
use Rattle.text.proofs.progress.hint.Tie as tie

enum_told : tie.Need-enum_told-1
enum_told c = search rules

take-blank-requires : tie.Need-take_blank-requires
take-blank-requires c κs = search rules

enum-told-2 : tie.Need-enum_told-in-CheckpointLength
enum-told-2 c = search rules

hint-fresh-requires : tie.Need-hint_fresh-requires
hint-fresh-requires c κs = search rules

enum-told-3 : tie.Need-enum_told-in-CheckpointUnsound
enum-told-3 c = search rules

hint-fresh-requires-2 : tie.Need-hint_fresh-requires-in-CheckpointUnsound
hint-fresh-requires-2 c κs = search rules

enum-told-4 : tie.Need-enum_told-in-BufferLength
enum-told-4 c = search rules

take-blank-requires-2 : tie.Need-take_blank-requires-in-BufferLength
take-blank-requires-2 c κs = search rules

returns : tie.Need-returns-in-Book
returns c = c.take_blank.ensures ∙ ap page_of (sym (hint_text_book c.in-Book.is))

returns-2 : tie.Need-returns-in-CheckpointLength
returns-2 c = c.hint_fresh.ensures ∙ ap page_of (sym (hint_text_30 c.in-CheckpointLength.is))

returns-3 : tie.Need-returns-in-CheckpointUnsound
returns-3 c = c.hint_fresh-in-CheckpointUnsound.ensures ∙ ap page_of (sym (hint_text_31 c.in-CheckpointUnsound.is))

returns-4 : tie.Need-returns-in-BufferLength
returns-4 c = c.take_blank-in-BufferLength.ensures ∙ ap page_of (sym (hint_text_32 c.in-BufferLength.is))

pub hint_spec : {M : Type 1} → statement M
hint_spec =
    tie.close
    (tie.spec
    enum_told
    take-blank-requires
    enum-told-2
    hint-fresh-requires
    enum-told-3
    hint-fresh-requires-2
    enum-told-4
    take-blank-requires-2
    returns
    returns-2
    returns-3
    returns-4)
