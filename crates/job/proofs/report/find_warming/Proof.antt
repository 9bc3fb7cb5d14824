-- The code tests the set as the definition does. Assumes nothing.
use mathlib.Core.Path.{refl, sym}
use borrow.Author.Tests.{eq-eqb, ne_eqb}
use Rattle.choice.proofs.TestsLaws.{choose_t, choose_f}
use Rattle.job.specs.Report.{warming_of}
use Rattle.job.proofs.report.find_warming.Statement.{statement}
use Rattle.job.proofs.report.find_warming.Tie as tie

returns : tie.Need-returns-then-set-eq0
unfolding warming_of
returns c = sym (choose_t _ (eq-eqb _ _ c.if-set-eq0.true) refl)

returns-2 : tie.Need-returns
unfolding warming_of
returns-2 c = sym (choose_f _ (ne_eqb _ _ c.if-set-eq0.false) refl)

pub find_warming_spec : {M : Type 1} → statement M
find_warming_spec = tie.close (tie.spec returns returns-2)
