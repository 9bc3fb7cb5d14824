-- From 25,000 t on nothing is left out; below, what `cap` leaves of the biomass CO2, which is a
-- part of the whole. Assumes nothing.
use Prim.Native.Nat.{ℕ, ◌-◌, ◌*◌, min}
use mathlib.Core.Path.{◌≡◌, sym, ap, ◌∙◌}
use native.Mathlib.Omega.{arith}
use borrow.Author.Rules.{rules}
use Rattle.mass.specs.Ledger.{tonne, total, Canonical, ledger_of}
use Rattle.mass.proofs.LedgerLaws.{total-ledger_of, canonical-ledger_of, ledger_of-total}
use Rattle.mass.proofs.FiguresLaws.{decisive-large, decisive-small}
use Rattle.mass.proofs.figures.leave_out.Statement.{statement}
use Rattle.mass.proofs.figures.leave_out.Tie as tie

capped : (c : tie.After-cap)
    → total c.cap.result ≡ min (total c.before.before.before.args.biomass) (15000 * tonne)
capped c = ap total c.cap.ensures ∙ total-ledger_of _

returns : tie.Need-returns-then-all-ge-REPORT_ALL_FROM
unfolding total
returns c =
    let a = c.before.before.args in
    sym (ap ledger_of (decisive-large (total a.all) (total a.biomass) (omega arith))
    ∙ ledger_of-total a.all c.before.before.requires.0.0)

cap-requires : tie.Need-cap-requires
cap-requires c κs = search rules

subtract-requires : tie.Need-subtract-requires
subtract-requires c κs =
    let canonical : Canonical c.cap.result = rw c.cap.ensures (canonical-ledger_of _) in
    let h = c.before.before.before.requires in
    ((h.0.0, canonical), omega (arith, capped c))

returns-2 : tie.Need-returns
unfolding total
returns-2 c =
    let a = c.before.before.before.before.args in
    c.subtract.ensures
    ∙ ap (λ (x : ℕ). ledger_of (total a.all - x)) (capped c.before)
    ∙ sym (ap ledger_of (decisive-small (total a.all) (total a.biomass) (omega arith)))

pub leave_out_spec : {M : Type 1} → statement M
leave_out_spec = tie.close (tie.spec returns cap-requires subtract-requires returns-2)
