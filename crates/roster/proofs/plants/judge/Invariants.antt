-- The lines passed are right, and what is left says what is told of the whole. Assumes nothing.
use Rattle.std.proofs.Common.{◌≡◌, ◌≤◌, map, length}
use Rattle.roster.specs.Lines.{split, lines_of}
use Rattle.roster.specs.Plants.{most_plants, checkpoint_of, verdict_from, verdict_on}
use Rattle.roster.proofs.plants.judge.Given as goal

abbrev pub invariant-loop-left : goal.invariant-loop-left
invariant-loop-left l =
    (l.i ≤ most_plants)
    × (verdict_from (map checkpoint_of (lines_of l.list)) l.i (lines_of l.left) (split l.left).unended ≡ verdict_on l.list)

abbrev pub decreases-loop-left : goal.decreases-loop-left
decreases-loop-left l = length l.left
