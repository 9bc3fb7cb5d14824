-- The place found so far, and then the lines that are left, say what the whole kept text says. Assumes nothing.
use Rattle.std.proofs.Common.{◌≡◌}
use Rattle.roster.specs.Lines.{lines_of}
use Rattle.roster.specs.Place.{place_from, placed}
use Rattle.roster.proofs.place.find.Given as goal

abbrev pub invariant-loop-line : goal.invariant-loop-line
invariant-loop-line l =
    (goal.iterator-loop-line).can_next l.line-iterator
    × (goal.iterator-loop-line).is_finite l.line-iterator
    × (place_from l.place (lines_of l.list) (lines_of l.line-iterator.0.now) ≡ placed l.list l.kept)
