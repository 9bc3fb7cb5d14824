-- Two results that a public contract allows are equal: each contract names its answer. `Post` is
-- the contract's own reading. Assumes nothing.
use mathlib.Core.Path.{◌≡◌, sym, ◌∙◌}
use Rattle.mass.proofs.fuel.weigh_by_heat.Reads as weigh-by-heat
use Rattle.mass.proofs.fuel.weigh_by_carbon.Reads as weigh-by-carbon
use Rattle.mass.proofs.fuel.weigh_trace.Reads as weigh-trace
use Rattle.mass.proofs.fuel.find_high.Reads as find-high
use Rattle.mass.proofs.gas.weigh.Reads as weigh-gas
use Rattle.mass.proofs.anode.weigh.Reads as weigh-anodes
use Rattle.mass.proofs.hour.judge.Reads as judge
use Rattle.mass.proofs.hour.weigh.Reads as weigh
use Rattle.mass.proofs.hour.round.Reads as round
use Rattle.mass.proofs.ledger.add_ug.Reads as add-ug
use Rattle.mass.proofs.ledger.add_ng.Reads as add-ng
use Rattle.mass.proofs.figures.work_out.Reads as work-out

pub weigh_by_heat_unique : (κs : _) (a : _) (r s : _) (x y : _) → weigh-by-heat.Post κs a r x
    → weigh-by-heat.Post κs a s y → r ≡ s
weigh_by_heat_unique κs a r s x y p q = p ∙ sym q

pub weigh_by_carbon_unique : (κs : _) (a : _) (r s : _) (x y : _) → weigh-by-carbon.Post κs a r x
    → weigh-by-carbon.Post κs a s y → r ≡ s
weigh_by_carbon_unique κs a r s x y p q = p ∙ sym q

pub weigh_trace_unique : (κs : _) (a : _) (r s : _) (x y : _) → weigh-trace.Post κs a r x
    → weigh-trace.Post κs a s y → r ≡ s
weigh_trace_unique κs a r s x y p q = p ∙ sym q

pub find_high_unique : (κs : _) (a : _) (r s : _) (x y : _) → find-high.Post κs a r x → find-high.Post κs a s y
    → r ≡ s
find_high_unique κs a r s x y p q = p ∙ sym q

pub weigh_gas_unique : (κs : _) (a : _) (r s : _) (x y : _) → weigh-gas.Post κs a r x → weigh-gas.Post κs a s y
    → r ≡ s
weigh_gas_unique κs a r s x y p q = p ∙ sym q

pub weigh_anodes_unique : (κs : _) (a : _) (r s : _) (x y : _) → weigh-anodes.Post κs a r x
    → weigh-anodes.Post κs a s y → r ≡ s
weigh_anodes_unique κs a r s x y p q = p ∙ sym q

pub judge_unique : (κs : _) (a : _) (r s : _) (x y : _) → judge.Post κs a r x → judge.Post κs a s y → r ≡ s
judge_unique κs a r s x y p q = p ∙ sym q

pub weigh_unique : (κs : _) (a : _) (r s : _) (x y : _) → weigh.Post κs a r x → weigh.Post κs a s y → r ≡ s
weigh_unique κs a r s x y p q = p ∙ sym q

pub round_unique : (κs : _) (a : _) (r s : _) (x y : _) → round.Post κs a r x → round.Post κs a s y → r ≡ s
round_unique κs a r s x y p q = p ∙ sym q

pub add_ug_unique : (κs : _) (a : _) (r s : _) (x y : _) → add-ug.Post κs a r x → add-ug.Post κs a s y → r ≡ s
add_ug_unique κs a r s x y p q = p ∙ sym q

pub add_ng_unique : (κs : _) (a : _) (r s : _) (x y : _) → add-ng.Post κs a r x → add-ng.Post κs a s y → r ≡ s
add_ng_unique κs a r s x y p q = p ∙ sym q

pub work_out_unique : (κs : _) (a : _) (r s : _) (x y : _) → work-out.Post κs a r x → work-out.Post κs a s y
    → r ≡ s
work_out_unique κs a r s x y p q = p ∙ sym q
