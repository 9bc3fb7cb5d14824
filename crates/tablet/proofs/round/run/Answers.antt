-- The room is as long as its array, which no search could see of so long a one.
use Rattle.std.proofs.Common.{ℕ, ◌+◌, sym}
use lib.ListN.{length-replicate}
use Rattle.rules.specs.Book.{longest_book}
use Rattle.tablet.proofs.round.run.Goals as goal

pub slice_bounds-run_in-end : goal.slice_bounds-run_in-end
slice_bounds-run_in-end g c = sym (length-replicate {A = ℕ} (longest_book + 1) 0)
