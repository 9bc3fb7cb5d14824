-- The code asks in the order of the definition. Assumes nothing.
use Rattle.std.proofs.Common.{sym, refl, rules, eq-eqb, ne_eqb}
use Rattle.choice.proofs.TestsLaws.{choose_t, choose_f, eq_of, ne_of}
use Rattle.rules.specs.Entry.{destination_by}
use Rattle.rules.proofs.entry.find_destination.Statement.{statement}
use Rattle.rules.proofs.entry.find_destination.Tie as tie

returns : tie.Need-returns-then-by-eq4
unfolding destination_by
returns c = sym (choose_t _ (eq-eqb _ _ c.if-by-eq4.true) refl)

fuel-class-requires : tie.Need-fuel_class-requires
fuel-class-requires c κs = search rules

returns-2 : tie.Need-returns-then-fuel_class-eq3
unfolding destination_by
returns-2 c =
    sym (choose_f _ (ne_eqb _ _ c.if-by-eq4.false)
    (choose_t _ (eq_of c.fuel_class.ensures c.if-fuel_class-eq3.true) refl))

returns-3 : tie.Need-returns
unfolding destination_by
returns-3 c =
    sym (choose_f _ (ne_eqb _ _ c.if-by-eq4.false)
    (choose_f _ (ne_of c.fuel_class.ensures c.if-fuel_class-eq3.false) refl))

pub find_destination_spec : {M : Type 1} → statement M
find_destination_spec = tie.close (tie.spec returns fuel-class-requires returns-2 returns-3)
