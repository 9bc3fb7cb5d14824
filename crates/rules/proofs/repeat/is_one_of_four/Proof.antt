-- Four lines are three and one more, and so on down to one. Assumes nothing.
use Rattle.std.proofs.Common.{rules}
use Rattle.rules.proofs.KeyLaws.{stands_in_more}
use Rattle.rules.proofs.repeat.is_one_of_four.Statement.{statement}
use Rattle.rules.proofs.repeat.is_one_of_four.Tie as tie

has-key-requires : tie.Need-has_key-a-requires
has-key-requires c κs = search rules

add-has-key : tie.Need-overflow_add-j
add-has-key c = search rules

has-key-requires-2 : tie.Need-has_key-b-requires
has-key-requires-2 c κs = search rules

add-has-key-2 : tie.Need-overflow_add-j-2
add-has-key-2 c = search rules

has-key-requires-3 : tie.Need-has_key-c-requires
has-key-requires-3 c κs = search rules

add-has-key-3 : tie.Need-overflow_add-j-3
add-has-key-3 c = search rules

has-key-requires-4 : tie.Need-has_key-d-requires
has-key-requires-4 c κs = search rules

returns : tie.Need-returns
returns c = λ l h.
    let first = c in
    let a = first.args in
    let j = a.j in
    let s = a.book.now in
    let two = stands_in_more l j s 1 (first.has_key-a.ensures l h) (c.has_key-b.ensures l h) in
    let three = stands_in_more l j s 2 two (c.has_key-c.ensures l h) in
    stands_in_more l j s 3 three (c.has_key-d.ensures l h)

pub is_one_of_four_spec : {M : Type 1} → statement M
is_one_of_four_spec =
    tie.close
    (tie.spec
    has-key-requires
    add-has-key
    has-key-requires-2
    add-has-key-2
    has-key-requires-3
    add-has-key-3
    has-key-requires-4
    returns)
