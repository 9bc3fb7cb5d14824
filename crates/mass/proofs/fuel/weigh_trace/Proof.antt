-- The definition is `multiply`'s product under a type. Assumes nothing.
use borrow.Author.Rules.{rules}
use Rattle.mass.specs.Fuel.{trace_of_heat}
use Rattle.mass.proofs.fuel.weigh_trace.Statement.{statement}
use Rattle.mass.proofs.fuel.weigh_trace.Tie as tie

multiply-requires : tie.Need-multiply-trace-requires
multiply-requires c κs = search rules

returns : tie.Need-returns
unfolding trace_of_heat
returns c = λ i. record { 0 = c.multiply-trace.ensures i }

pub weigh_trace_spec : {M : Type 1} → statement M
weigh_trace_spec = tie.close (tie.spec multiply-requires returns)
