-- Each field is its callee's, and the ranges keep the products in reach. Assumes nothing.
use Rattle.std.proofs.Common.{◌≡◌, ◌∙◌, le_trans, le_of_eq, arith, rules}
use Rattle.mass.specs.Fuel.{trace_of_heat}
use Rattle.rules.specs.Entry.{heat_in_use, entry_by}
use Rattle.rules.proofs.EntryLaws.{Reach, reach}
use Rattle.rules.proofs.entry.make_entry.Statement.{statement}
use Rattle.rules.proofs.entry.make_entry.Tie as tie

abbrev entry : tie.After-amount → tie.Start
entry c = c.before.before.before

in_reach : (c : tie.After-amount) → Reach (entry c).args.l.now (entry c).args.f.now
in_reach c = let h = (entry c).requires in reach _ _ h.0 h.1.0

used : (c : tie.After-amount) → (entry c).args.h ≡ heat_in_use (entry c).args.l.now (entry c).args.f.now
used c = (entry c).requires.1.1

find-destination-requires : tie.Need-find_destination-destination-requires
find-destination-requires c κs = search rules

weigh-co2-requires : tie.Need-weigh_co2-co2-requires
weigh-co2-requires c κs = search rules

amount-requires : tie.Need-amount-requires
amount-requires c κs = search rules

ch4-factor-requires : tie.Need-ch4_factor-requires
ch4-factor-requires c κs = search rules

weigh-trace-requires : tie.Need-weigh_trace-ch4-requires
weigh-trace-requires c κs =
    let amount = c.amount.ensures in
    let factor = c.ch4_factor.ensures in
    let r = (in_reach c.before).by_ch4 in
    let heat-in = le_trans (le_of_eq (λ i. (used c.before i).0)) r.heat_le in
    record { amount_le = omega arith; heat_le = heat-in; factor_le = omega arith }

n2o-factor-requires : tie.Need-n2o_factor-requires
n2o-factor-requires c κs = search rules

weigh-trace-requires-2 : tie.Need-weigh_trace-n2o-requires
weigh-trace-requires-2 c κs =
    let a = c in
    let amount = a.amount.ensures in
    let factor = c.n2o_factor.ensures in
    let r = (in_reach a.before.before.before).by_n2o in
    let heat-in = le_trans (le_of_eq (λ i. (used a.before.before.before i).0)) r.heat_le in
    record { amount_le = omega arith; heat_le = heat-in; factor_le = omega arith }

returns : tie.Need-returns
unfolding entry_by
returns c =
    let a = c in
    let amount = a.amount.ensures in
    let heat = used a.before.before.before.before in
    let ch4-factor = c.ch4_factor.ensures in
    let n2o-factor = c.n2o_factor.ensures in
    let destination = a.find_destination-destination.ensures in
    let co2 = a.weigh_co2-co2.ensures in
    let ch4 = c.weigh_trace-ch4.ensures
    ∙ (λ i. trace_of_heat (record { 0 = amount i }) (heat i) (record { 0 = ch4-factor i })) in
    let n2o = c.weigh_trace-n2o.ensures
    ∙ (λ i. trace_of_heat (record { 0 = amount i }) (heat i) (record { 0 = n2o-factor i })) in
    λ i. record { method = (entry a.before.before.before.before).args.method; destination = destination i; co2 = co2 i; ch4 = ch4 i; n2o = n2o i }

pub make_entry_spec : {M : Type 1} → statement M
make_entry_spec =
    tie.close
    (tie.spec
    find-destination-requires
    weigh-co2-requires
    amount-requires
    ch4-factor-requires
    weigh-trace-requires
    n2o-factor-requires
    weigh-trace-requires-2
    returns)
