-- A word is its low half and its high half. Assumes nothing.
use Rattle.std.proofs.Common.{rules}
use Rattle.rules.proofs.BytesLaws.{word_halves}
use Rattle.rules.proofs.bytes.read_eight.Statement.{statement}
use Rattle.rules.proofs.bytes.read_eight.Tie as tie

read-four-requires : tie.Need-read_four-low-requires
read-four-requires c κs = search rules

add-read-four : tie.Need-overflow_add-at
add-read-four c = search rules

read-four-requires-2 : tie.Need-read_four-high-requires
read-four-requires-2 c κs = search rules

mul-result : tie.Need-overflow_mul-result
mul-result c = search rules

add-result : tie.Need-overflow_add-result
add-result c = search rules

returns : tie.Need-returns
returns c =
    let a = c.args in
    let low = c.read_four-low in
    let high = c.read_four-high in
    word_halves a.s.now a.at 4 low.result high.result low.ensures.0 high.ensures.0 low.ensures.1
    high.ensures.1

pub read_eight_spec : {M : Type 1} → statement M
read_eight_spec =
    tie.close
    (tie.spec read-four-requires add-read-four read-four-requires-2 mul-result add-result returns)
