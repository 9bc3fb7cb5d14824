-- What has a bit is no hour or month 0, and no month past 12. Assumes nothing.
use Rattle.std.proofs.Common.{sym, refl, arith, rules, eq-eqb, ne_eqb}
use Rattle.choice.proofs.TestsLaws.{choose_t, choose_f}
use Rattle.rules.specs.Table.{bit_of}
use Rattle.rules.proofs.RowLaws.{has_bit-first, has_bit_last}
use Rattle.rules.proofs.table.find_bit.Statement.{statement}
use Rattle.rules.proofs.table.find_bit.Tie as tie

add-result : tie.Need-overflow_add-result
add-result c = omega (arith, has_bit_last _ _ c.requires)

sub-result : tie.Need-overflow_sub-result
sub-result c = search rules

returns : tie.Need-returns-then-kind-eq4
unfolding bit_of
returns c = sym (choose_t _ (eq-eqb _ _ c.if-kind-eq4.true) refl)

sub-result-2 : tie.Need-overflow_sub-result-2
sub-result-2 c = omega (arith, has_bit-first _ _ c.requires)

returns-2 : tie.Need-returns
unfolding bit_of
returns-2 c = sym (choose_f _ (ne_eqb _ _ c.if-kind-eq4.false) refl)

pub find_bit_spec : {M : Type 1} → statement M
find_bit_spec = tie.close (tie.spec add-result sub-result returns sub-result-2 returns-2)
