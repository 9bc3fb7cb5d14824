-- The bytes are one word of at most three, or one of four and one of what is left. Assumes nothing.
use Rattle.std.proofs.Common.{eqb, sym, refl, ◌∙◌, arith, rules}
use Rattle.choice.specs.Tests.{◌also◌}
use Rattle.rules.proofs.BytesLaws.{zeros-split, zero_or}
use Rattle.rules.proofs.bytes.gather_few.Statement.{statement}
use Rattle.rules.proofs.bytes.gather_few.Tie as tie

sub-if1 : tie.Need-overflow_sub-to
sub-if1 c = search rules

sub-read-word : tie.Need-overflow_sub-to-then-to-from-lt4
sub-read-word c = search rules

read-word-requires : tie.Need-read_word-requires
read-word-requires c κs = search rules

returns : tie.Need-returns-then-to-from-lt4
returns c i = eqb (c.read_word.ensures.0 i) 0

add_at : tie.Need-overflow_add-at
add_at c = search rules

read-word-requires-2 : tie.Need-read_word-requires-2
read-word-requires-2 c κs = search rules

sub-read-word-2 : tie.Need-overflow_sub-to-2
sub-read-word-2 c = search rules

read-word-requires-3 : tie.Need-read_word-requires-3
read-word-requires-3 c κs = search rules

returns-2 : tie.Need-returns
returns-2 c =
    let four = c.read_word-2 in
    let left = c.read_word-3 in
    zero_or four.result left.result
    ∙ (λ i. eqb (four.ensures.0 i) 0 also eqb (left.ensures.0 i) 0)
    ∙ sym (zeros-split _ _ 4 _ _ _ refl (omega arith))

pub gather_few_spec : {M : Type 1} → statement M
gather_few_spec =
    tie.close
    (tie.spec
    sub-if1
    sub-read-word
    read-word-requires
    returns
    add_at
    read-word-requires-2
    sub-read-word-2
    read-word-requires-3
    returns-2)
