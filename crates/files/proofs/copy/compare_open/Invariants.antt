-- So much of the copy is the book's, and each piece more leaves less of the book.
use Rattle.std.proofs.Common.{◌≡◌, ◌-◌, ◌≤◌, length, take}
use Rattle.std.specs.Io.KnownBytes.{Consumes}
use Rattle.files.proofs.copy.compare_open.Given as goal

abbrev pub invariant-loop-file : goal.invariant-loop-file
invariant-loop-file g l =
    (l.n ≤ length l.book) × (length l.piece ≡ 4096) × Consumes (g.F.Read.remaining l.initial.file) (g.F.Read.remaining l.file) (take l.n l.book)

abbrev pub decreases-loop-file : goal.decreases-loop-file
decreases-loop-file g l = length l.book - l.n
