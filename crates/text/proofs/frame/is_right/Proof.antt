-- The row of tests is that of the definition, each test of what was read. Assumes nothing.
use Prim.Native.Nat.{◌+◌}
use mathlib.Core.Path.{ap₂, ◌∙◌}
use lib.Dec.{leb}
use borrow.Author.Rules.{rules}
use Rattle.choice.proofs.TestsLaws.{both}
use Rattle.text.specs.Frame.{most_behind, argument_ok, head_ok}
use Rattle.text.proofs.frame.is_right.Statement.{statement}
use Rattle.text.proofs.frame.is_right.Tie as tie

read-word-requires : tie.Need-read_word-call-requires
read-word-requires c κs = search rules

are-zero-requires : tie.Need-are_zero-gap-requires
are-zero-requires c κs = search rules

read-word-requires-2 : tie.Need-read_word-requires
read-word-requires-2 c κs = search rules

is-argument-right-requires : tie.Need-is_argument_right-argument_right-requires
is-argument-right-requires c κs = search rules

read-word-requires-3 : tie.Need-read_word-book-requires
read-word-requires-3 c κs = search rules

read-word-requires-4 : tie.Need-read_word-checkpoint-requires
read-word-requires-4 c κs = search rules

read-word-requires-5 : tie.Need-read_word-out-requires
read-word-requires-5 c κs = search rules

are-zero-requires-2 : tie.Need-are_zero-blank-requires
are-zero-requires-2 c κs = search rules

add-result : tie.Need-overflow_add-result
add-result c = search rules

add-result-2 : tie.Need-overflow_add-result-2
add-result-2 c = search rules

returns : tie.Need-returns
unfolding head_ok
returns c =
    let out = c in
    let checkpoint = out in
    let book = checkpoint in
    let right = book in
    let argument = right in
    let gap = argument in
    let call = gap in
    let call-read = call.read_word-call.ensures.0 in
    let argument-read = argument.read_word.ensures.0 in
    let book-read = book.read_word-book.ensures.0 in
    let checkpoint-read = checkpoint.read_word-checkpoint.ensures.0 in
    let out-read = out.read_word-out.ensures.0 in
    let argument-right = right.is_argument_right-argument_right.ensures ∙ ap₂ argument_ok call-read argument-read in
    let known = both (λ i. leb 1 (call-read i)) (λ i. leb (call-read i) 4) in
    let asked = both (both known gap.are_zero-gap.ensures) argument-right in
    both (both asked (λ i. leb (book-read i + checkpoint-read i + out-read i) most_behind)) c.are_zero-blank.ensures

pub is_right_spec : {M : Type 1} → statement M
is_right_spec =
    tie.close
    (tie.spec
    read-word-requires
    are-zero-requires
    read-word-requires-2
    is-argument-right-requires
    read-word-requires-3
    read-word-requires-4
    read-word-requires-5
    are-zero-requires-2
    add-result
    add-result-2
    returns)
