-- Each figure is its callee's, from its own ledger. The CO2 equivalent is in reach and holds the
-- biomass CO2. Assumes nothing.
use Prim.Native.Nat.{ℕ}
use mathlib.Core.Path.{◌≡◌, ap, ◌∙◌}
use borrow.Author.Rules.{rules}
use Rattle.mass.specs.Ledger.{total, Canonical}
use Rattle.mass.specs.Figures.{kg_of, co2e_of, must_report, figures_of}
use Rattle.mass.proofs.LedgerLaws.{total-ledger_of, canonical-ledger_of}
use Rattle.mass.proofs.FiguresLaws.{biomass-le-co2e_of, co2e_of_tonnes_le}
use Rattle.mass.proofs.figures.work_out.Statement.{statement}
use Rattle.mass.proofs.figures.work_out.Tie as tie

abbrev entry : tie.After-sum_co2e-all → tie.Start
entry c = c.before.before.before.before.before

canonical : (c : tie.After-sum_co2e-all) → Canonical c.sum_co2e-all.result
canonical c = rw c.sum_co2e-all.ensures (canonical-ledger_of (co2e_of (entry c).args.t (entry c).args.w))

whole : (c : tie.After-sum_co2e-all) → total c.sum_co2e-all.result ≡ co2e_of (entry c).args.t (entry c).args.w
whole c = ap total c.sum_co2e-all.ensures ∙ total-ledger_of _

sum-co2e-requires : tie.Need-sum_co2e-all-requires
sum-co2e-requires c κs = search rules

round-to-kg-requires : tie.Need-round_to_kg-requires
round-to-kg-requires c κs = search rules

round-to-kg-requires-2 : tie.Need-round_to_kg-requires-2
round-to-kg-requires-2 c κs = search rules

round-to-kg-requires-3 : tie.Need-round_to_kg-requires-3
round-to-kg-requires-3 c κs = search rules

round-to-kg-requires-4 : tie.Need-round_to_kg-requires-4
round-to-kg-requires-4 c κs = search rules

round-to-kg-requires-5 : tie.Need-round_to_kg-requires-5
round-to-kg-requires-5 c κs =
    let s = c.before.before.before.before in
    let a = (entry s).args in
    let h = (entry s).requires in
    (canonical s, rw s.sum_co2e-all.ensures (co2e_of_tonnes_le a.t a.w h.0 h.1))

must-report-requires : tie.Need-must_report-requires
must-report-requires c κs =
    let s = c.before.before.before.before.before in
    let a = (entry s).args in
    let h = (entry s).requires in
    ((canonical s, h.0.biomass_sound.canonical), rw (whole s) (biomass-le-co2e_of a.t a.w))

returns : tie.Need-returns
unfolding figures_of
returns c =
    let s = c.before.before.before.before.before.before in
    let co2e = c.before.round_to_kg-5.ensures ∙ ap kg_of (whole s) in
    let biomass = total (entry s).args.t.biomass in
    let decided = c.must_report.ensures ∙ ap (λ (v : ℕ). must_report v biomass) (whole s) in
    λ i. record {
      fossil = c.before.before.before.before.before.round_to_kg.ensures i;
      biomass = c.before.before.before.before.round_to_kg-2.ensures i;
      ch4 = c.before.before.before.round_to_kg-3.ensures i;
      n2o = c.before.before.round_to_kg-4.ensures i;
      co2e = co2e i;
      reportable = decided i;
    }

pub work_out_spec : {M : Type 1} → statement M
work_out_spec = tie.close (tie.spec
    sum-co2e-requires
    round-to-kg-requires
    round-to-kg-requires-2
    round-to-kg-requires-3
    round-to-kg-requires-4
    round-to-kg-requires-5
    must-report-requires
    returns)
