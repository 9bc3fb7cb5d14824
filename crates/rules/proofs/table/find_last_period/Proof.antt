-- The kind decides, in the order of the definition. Assumes nothing.
use Rattle.std.proofs.Common.{sym, refl, eq-eqb, ne_eqb}
use Rattle.choice.proofs.TestsLaws.{choose_t, choose_f}
use Rattle.rules.specs.Table.{last_period}
use Rattle.rules.proofs.table.find_last_period.Statement.{statement}
use Rattle.rules.proofs.table.find_last_period.Tie as tie

returns : tie.Need-returns-then-kind-eq2
unfolding last_period
returns c = sym (choose_t _ (eq-eqb _ _ c.if-kind-eq2.true) refl)

returns-2 : tie.Need-returns-then-kind-eq4
unfolding last_period
returns-2 c = sym (choose_f _ (ne_eqb _ _ c.if-kind-eq2.false) (choose_t _ (eq-eqb _ _ c.if-kind-eq4.true) refl))

returns-3 : tie.Need-returns
unfolding last_period
returns-3 c = sym (choose_f _ (ne_eqb _ _ c.if-kind-eq2.false) (choose_f _ (ne_eqb _ _ c.if-kind-eq4.false) refl))

pub find_last_period_spec : {M : Type 1} → statement M
find_last_period_spec = tie.close (tie.spec returns returns-2 returns-3)
