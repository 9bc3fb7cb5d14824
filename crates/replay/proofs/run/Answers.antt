-- The rooms are as long as their arrays, which no search could see of such long ones.
use Rattle.std.proofs.Common.{ℕ, sym}
use lib.ListN.{length-replicate}
use Rattle.replay.proofs.run.Goals as goal

pub slice_bounds-answer_all-end : goal.slice_bounds-answer_all-end
slice_bounds-answer_all-end g c = sym (length-replicate {A = ℕ} 5242880 0)

pub slice_bounds-answer_all-end-2 : goal.slice_bounds-answer_all-end-2
slice_bounds-answer_all-end-2 g c = sym (length-replicate {A = ℕ} 2621440 0)
