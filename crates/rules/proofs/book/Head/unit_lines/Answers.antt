-- The part is within the book, and its lines were held against the rules when the book was opened.
use Rattle.std.proofs.Common.{refl, arith}
use Rattle.rules.specs.Book.{unit_ok}
use Rattle.rules.proofs.BookLaws.{accepted_facts}
use Rattle.rules.proofs.LinesLaws.{rising_lines_sound}
use Rattle.rules.proofs.book.Head.unit_lines.Goals as goal

pub slice_bounds-result-count : goal.slice_bounds-result-count
slice_bounds-result-count c = (accepted_facts _ _ c.requires.opened).units_le

pub slice_bounds-result-start : goal.slice_bounds-result-start
slice_bounds-result-start c = (accepted_facts _ _ c.requires.opened).units_le

pub slice_bounds-result-end : goal.slice_bounds-result-end
slice_bounds-result-end c = let k = accepted_facts _ _ c.requires.opened in omega arith

pub returns : goal.returns
returns c =
    let sound = (accepted_facts _ _ c.requires.opened).units_sound in
    record { lines = refl; sound = sound; rising = rising_lines_sound unit_ok _ sound }
