-- Each width has its own reader, whose word is that of n bytes. Assumes nothing.
use Rattle.std.proofs.Common.{rules}
use Rattle.rules.proofs.BytesLaws.{word_width}
use Rattle.rules.proofs.bytes.read_word.Statement.{statement}
use Rattle.rules.proofs.bytes.read_word.Tie as tie

read-four-requires : tie.Need-read_four-requires
read-four-requires c κs = search rules

returns : tie.Need-returns-then-n-eq4
returns c =
    let a = c.args in
    word_width a.s.now a.at 4 a.n c.read_four.result c.if-n-eq4.true c.read_four.ensures

read-two-requires : tie.Need-read_two-requires
read-two-requires c κs = search rules

returns-2 : tie.Need-returns-then-n-eq2
returns-2 c =
    let a = c.args in
    word_width a.s.now a.at 2 a.n c.read_two.result c.if-n-eq2.true c.read_two.ensures

read-eight-requires : tie.Need-read_eight-requires
read-eight-requires c κs = search rules

returns-3 : tie.Need-returns-then-n-eq8
returns-3 c =
    let a = c.args in
    word_width a.s.now a.at 8 a.n c.read_eight.result c.if-n-eq8.true c.read_eight.ensures

read-bytes-requires : tie.Need-read_bytes-requires
read-bytes-requires c κs = search rules

returns-4 : tie.Need-returns
returns-4 c = search rules

pub read_word_spec : {M : Type 1} → statement M
read_word_spec =
    tie.close
    (tie.spec
    read-four-requires
    returns
    read-two-requires
    returns-2
    read-eight-requires
    returns-3
    read-bytes-requires
    returns-4)
