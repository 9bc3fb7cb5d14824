-- The room is as long as its array, which no search could see of so long a one.
use Rattle.std.proofs.Common.{ℕ, ◌+◌, sym}
use lib.ListN.{length-replicate}
use Rattle.rules.specs.Book.{longest_book}
use Rattle.lines.proofs.run.Goals as goal

pub slice_bounds-print_book-end : goal.slice_bounds-print_book-end
slice_bounds-print_book-end g c = sym (length-replicate {A = ℕ} (longest_book + 1) 0)
