-- Each line passed leaves the whole as sound as what is left.
use Rattle.std.proofs.Common.{◌≡◌, ◌-◌, ◌*◌, true, drop}
use Rattle.rules.specs.Bytes.{lines}
use Rattle.rules.specs.Book.{lines_ok, lines_sound}
use Rattle.rules.specs.Listing.{line_ok}
use Rattle.rules.proofs.listing.are_sound.Given as goal

abbrev pub invariant-lines : goal.invariant-lines
invariant-lines l = record {
  ok : l.ok ≡ true;
  left : lines_sound (line_ok l.sort) l.s ≡ lines_ok (line_ok l.sort) l.before (lines (l.n - l.i) (drop (32 * l.i) l.s));
}
