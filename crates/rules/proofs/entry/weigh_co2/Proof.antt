-- The ranges keep the products in reach, and each method is its own mass. Assumes nothing.
use Rattle.std.proofs.Common.{◌≡◌, sym, refl, ◌∙◌, le_trans, le_of_eq, arith, rules, eq-eqb, ne_eqb}
use Rattle.choice.proofs.TestsLaws.{choose_t, choose_f}
use Rattle.mass.specs.Fuel.{co2_of_heat}
use Rattle.rules.specs.Entry.{heat_in_use, co2_by}
use Rattle.rules.proofs.EntryLaws.{reach}
use Rattle.rules.proofs.entry.weigh_co2.Statement.{statement}
use Rattle.rules.proofs.entry.weigh_co2.Tie as tie

abbrev entry : tie.After-amount → tie.Start
entry c = c.before.before.before

used : (c : tie.After-amount) → (entry c).args.h ≡ heat_in_use (entry c).args.l.now (entry c).args.f.now
used c = (entry c).requires.1.1

returns : tie.Need-returns-then-method-eq4
unfolding co2_by
returns c = sym (choose_t _ (eq-eqb _ _ c.if-method-eq4.true) refl)

weigh-carbon-requires : tie.Need-weigh_carbon-requires
weigh-carbon-requires c κs =
    let h = c.requires in
    (h.0, h.1.0)

returns-2 : tie.Need-returns-then-method-eq3
unfolding co2_by
returns-2 c =
    c.weigh_carbon.ensures
    ∙ sym (choose_f _ (ne_eqb _ _ c.if-method-eq4.false) (choose_t _ (eq-eqb _ _ c.if-method-eq3.true) refl))

amount-requires : tie.Need-amount-requires
amount-requires c κs = search rules

co2-factor-requires : tie.Need-co2_factor-requires
co2-factor-requires c κs = search rules

weigh-by-heat-requires : tie.Need-weigh_by_heat-requires
weigh-by-heat-requires c κs =
    let a = c in
    let amount = a.amount.ensures in
    let factor = c.co2_factor.ensures in
    let h = (entry a.before).requires in
    let r = (reach _ _ h.0 h.1.0).by_co2 in
    let heat-in = le_trans (le_of_eq (λ i. (used a.before i).0)) r.heat_le in
    record { amount_le = omega arith; heat_le = heat-in; factor_le = omega arith }

returns-3 : tie.Need-returns
unfolding co2_by
returns-3 c =
    let a = c in
    let amount = a.amount.ensures in
    let heat = used a.before.before in
    let factor = c.co2_factor.ensures in
    c.weigh_by_heat.ensures
    ∙ (λ i. co2_of_heat (record { 0 = amount i }) (heat i) (record { 0 = factor i }))
    ∙ sym (choose_f _ (ne_eqb _ _ a.if-method-eq4.false) (choose_f _ (ne_eqb _ _ a.if-method-eq3.false) refl))

pub weigh_co2_spec : {M : Type 1} → statement M
weigh_co2_spec =
    tie.close
    (tie.spec
    returns
    weigh-carbon-requires
    returns-2
    amount-requires
    co2-factor-requires
    weigh-by-heat-requires
    returns-3)
