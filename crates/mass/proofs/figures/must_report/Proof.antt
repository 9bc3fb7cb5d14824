-- Whole tonnes decide, since 10,000 t are whole. Assumes nothing.
use mathlib.Core.Path.{ap, ◌∙◌}
use lib.Dec.{leb}
use borrow.Author.Rules.{rules}
use Rattle.mass.specs.declared.ledger.Ledger.{Ledger}
use Rattle.mass.specs.Ledger.{total}
use Rattle.mass.proofs.FiguresLaws.{must_report_tonnes}
use Rattle.mass.proofs.figures.must_report.Statement.{statement}
use Rattle.mass.proofs.figures.must_report.Tie as tie

leave-out-requires : tie.Need-leave_out-left-requires
leave-out-requires c κs = search rules

returns : tie.Need-returns
returns c =
    let a = c.before.before.args in
    ap (λ (g : Ledger). leb 10000 g.tonnes) c.before.leave_out-left.ensures
    ∙ must_report_tonnes (total a.all) (total a.biomass)

pub must_report_spec : {M : Type 1} → statement M
must_report_spec = tie.close (tie.spec leave-out-requires returns)
