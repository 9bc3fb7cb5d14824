-- The shifted one is the power of two of the bit. Assumes nothing.
use Rattle.std.proofs.Common.{ℕ, ◌+◌, ◌*◌, ◌/◌, ◌%◌, get_or, set, ap, arith, rules}
use lib.Bits.{bit_or}
use Rattle.rules.specs.Table.{row_words, with_mark}
use Rattle.rules.proofs.BitLaws.{one_shifted}
use Rattle.rules.proofs.table.mark.Statement.{statement}
use Rattle.rules.proofs.table.mark.Tie as tie

mul-word : tie.Need-overflow_mul-word
mul-word c = search rules

add-word : tie.Need-overflow_add-word
add-word c = search rules

mul-table : tie.Need-offset_bounds-table-word
mul-table c = search rules

slice-read-table : tie.Need-bounds-table-word
slice-read-table c = search rules

shl-table : tie.Need-overflow_shl-table
shl-table c = search rules

mul-table-2 : tie.Need-offset_bounds-table-word-2
mul-table-2 c = search rules

slice-write-table : tie.Need-bounds-table-word-2
slice-write-table c = search rules

same_length : tie.Need-shape_of-table
same_length c = search rules

returns : tie.Need-returns
unfolding with_mark
returns c =
    let a = c.args in
    let word = row_words * a.j + a.bit / 64 in
    ap (λ (m : ℕ). set a.table.now word (bit_or (get_or a.table.now word 0) m)) (one_shifted (a.bit % 64) (omega arith))

pub mark_spec : {M : Type 1} → statement M
mark_spec =
    tie.close
    (tie.spec
    mul-word
    add-word
    mul-table
    slice-read-table
    shl-table
    mul-table-2
    slice-write-table
    same_length
    returns)
