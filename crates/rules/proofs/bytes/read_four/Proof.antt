-- A word is its low half and its high half. Assumes nothing.
use Rattle.std.proofs.Common.{rules}
use Rattle.rules.proofs.BytesLaws.{word_halves}
use Rattle.rules.proofs.bytes.read_four.Statement.{statement}
use Rattle.rules.proofs.bytes.read_four.Tie as tie

read-two-requires : tie.Need-read_two-low-requires
read-two-requires c κs = search rules

add-read-two : tie.Need-overflow_add-at
add-read-two c = search rules

read-two-requires-2 : tie.Need-read_two-high-requires
read-two-requires-2 c κs = search rules

mul-result : tie.Need-overflow_mul-result
mul-result c = search rules

add-result : tie.Need-overflow_add-result
add-result c = search rules

returns : tie.Need-returns
returns c =
    let a = c.args in
    let low = c.read_two-low in
    let high = c.read_two-high in
    word_halves a.s.now a.at 2 low.result high.result low.ensures.0 high.ensures.0 low.ensures.1
    high.ensures.1

pub read_four_spec : {M : Type 1} → statement M
read_four_spec =
    tie.close
    (tie.spec read-two-requires add-read-two read-two-requires-2 mul-result add-result returns)
