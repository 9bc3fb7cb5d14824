-- A line that has the number is the only one, however it was come upon. Assumes nothing.
use Rattle.std.proofs.Common.{◌%◌, ap, ◌∙◌, arith, rules}
use Rattle.rules.specs.Fields.{number}
use Rattle.rules.proofs.ListingLaws.{place_mid}
use Rattle.rules.proofs.listing.find.Statement.{statement}
use Rattle.rules.proofs.listing.find.Tie as tie

shared-slice-read-hint : tie.Need-bounds-hints-last
shared-slice-read-hint c = search rules

cast-hint : tie.Need-overflow_cast-hint
cast-hint c = omega (arith, c.shared_slice_known-then-last-hints-1.given (c.args.x % 1024))

take-line-requires : tie.Need-take_line-requires
take-line-requires c κs = search rules

number-requires : tie.Need-number-requires
number-requires c κs = search rules

returns : tie.Need-returns-then-number-x
returns c =
    let read = c in
    let there = read in
    let number_is = read.number.ensures ∙ ap number read.take_line.ensures in
    let rising = there.requires in
    place_mid _ _ _ _ rising there.if-hint-s.true number_is c.if-number-x.true

halve-requires : tie.Need-halve-requires
halve-requires c κs = search rules

returns-2 : tie.Need-returns
returns-2 c = search rules

pub find_spec : {M : Type 1} → statement M
find_spec =
    tie.close
    (tie.spec
    shared-slice-read-hint
    cast-hint
    take-line-requires
    number-requires
    returns
    halve-requires
    returns-2)
