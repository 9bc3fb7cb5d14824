-- The shifted word's last bit is the bit asked for. Assumes nothing.
use Rattle.std.proofs.Common.{ℕ, ◌+◌, ◌*◌, ◌/◌, ◌%◌, eqb, get_or, ap, rules}
use Rattle.rules.specs.Table.{row_words}
use Rattle.rules.specs.Marks.{marked}
use Rattle.rules.proofs.BitLaws.{bit_at-and}
use Rattle.rules.proofs.table.is_marked.Statement.{statement}
use Rattle.rules.proofs.table.is_marked.Tie as tie

mul-result : tie.Need-overflow_mul-result
mul-result c = search rules

add-result : tie.Need-overflow_add-result
add-result c = search rules

mul-result-2 : tie.Need-offset_bounds-table-j
mul-result-2 c = search rules

shared-slice-read-result : tie.Need-bounds-table-j
shared-slice-read-result c = search rules

shr-result : tie.Need-overflow_shr-result
shr-result c = search rules

returns : tie.Need-returns
unfolding marked
returns c =
    let a = c.args in
    ap (λ (b : ℕ). eqb b 1) (bit_at-and (get_or a.table.now (row_words * a.j + a.bit / 64) 0) (a.bit % 64))

pub is_marked_spec : {M : Type 1} → statement M
is_marked_spec =
    tie.close
    (tie.spec mul-result add-result mul-result-2 shared-slice-read-result shr-result returns)
