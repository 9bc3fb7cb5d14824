-- The flag decides whether the heat is taken as it stands, and a low value in its range is one that `mass`
-- takes. Assumes nothing.
use Rattle.std.proofs.Common.{sym, refl, ◌∙◌, le_trans, le_of_eq, rules}
use Rattle.choice.proofs.TestsLaws.{is, choose_t, choose_f}
use Rattle.mass.specs.Fuel.{high_of}
use Rattle.rules.specs.Entry.{measured_heat}
use Rattle.rules.proofs.EntryLaws.{heat_limit-low}
use Rattle.rules.proofs.entry.find_measured.Statement.{statement}
use Rattle.rules.proofs.entry.find_measured.Tie as tie

heat-requires : tie.Need-heat-heat-requires
heat-requires c κs = search rules

is-heat-low-requires : tie.Need-is_heat_low-requires
is-heat-low-requires c κs = search rules

find-high-requires : tie.Need-find_high-requires
find-high-requires c κs =
    let h = c in
    let low = is c.is_heat_low.ensures c.if-is_heat_low.true in
    le_trans (le_of_eq h.heat-heat.ensures) (heat_limit-low _ low h.requires)

returns : tie.Need-returns-then-is_heat_low
unfolding measured_heat
returns c =
    let low = c in
    let heat = low.heat-heat.ensures in
    c.find_high.ensures
    ∙ (λ i. high_of (record { 0 = heat i }))
    ∙ sym (choose_t _ (is low.is_heat_low.ensures c.if-is_heat_low.true) refl)

returns-2 : tie.Need-returns
unfolding measured_heat
returns-2 c =
    let heat = c.heat-heat.ensures in
    (λ i. record { 0 = heat i })
    ∙ sym (choose_f _ (is c.is_heat_low.ensures c.if-is_heat_low.false) refl)

pub find_measured_spec : {M : Type 1} → statement M
find_measured_spec =
    tie.close (tie.spec heat-requires is-heat-low-requires find-high-requires returns returns-2)
