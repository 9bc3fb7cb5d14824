-- The part is within the book, and its lines were held against the rules when the book was opened.
use Rattle.std.proofs.Common.{refl, arith}
use Rattle.rules.specs.Book.{fuel_ok}
use Rattle.rules.proofs.BookLaws.{accepted_facts}
use Rattle.rules.proofs.LinesLaws.{rising_lines_sound}
use Rattle.rules.proofs.book.Head.fuel_lines.Goals as goal

pub overflow_sub-result : goal.overflow_sub-result
overflow_sub-result c = let k = accepted_facts _ _ c.requires.opened in omega arith

pub slice_bounds-result-count : goal.slice_bounds-result-count
slice_bounds-result-count c = (accepted_facts _ _ c.requires.opened).fuels_le

pub slice_bounds-result-start : goal.slice_bounds-result-start
slice_bounds-result-start c = (accepted_facts _ _ c.requires.opened).fuels_le

pub slice_bounds-result-end : goal.slice_bounds-result-end
slice_bounds-result-end c = let k = accepted_facts _ _ c.requires.opened in omega arith

pub returns : goal.returns
returns c =
    let sound = (accepted_facts _ _ c.requires.opened).fuels_sound in
    record { lines = refl; sound = sound; rising = rising_lines_sound fuel_ok _ sound }
