-- Two bytes are the word's definition written out. Assumes nothing.
use Rattle.std.proofs.Common.{rules}
use Rattle.rules.specs.Bytes.{word}
use Rattle.rules.proofs.bytes.read_two.Statement.{statement}
use Rattle.rules.proofs.bytes.read_two.Tie as tie

shared-slice-read-widen : tie.Need-bounds-s-at
shared-slice-read-widen c = search rules

widen-requires : tie.Need-widen-low-requires
widen-requires c κs = search rules

add-widen : tie.Need-overflow_add-at
add-widen c = search rules

shared-slice-read-widen-2 : tie.Need-bounds-s-at-2
shared-slice-read-widen-2 c = search rules

widen-requires-2 : tie.Need-widen-high-requires
widen-requires-2 c κs = search rules

mul-result : tie.Need-overflow_mul-result
mul-result c = search rules

add-result : tie.Need-overflow_add-result
add-result c = search rules

returns : tie.Need-returns
unfolding word
returns c = search rules

pub read_two_spec : {M : Type 1} → statement M
read_two_spec =
    tie.close
    (tie.spec
    shared-slice-read-widen
    widen-requires
    add-widen
    shared-slice-read-widen-2
    widen-requires-2
    mul-result
    add-result
    returns)
