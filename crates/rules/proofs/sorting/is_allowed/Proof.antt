-- The code's test is the definition's. Assumes nothing.
use Rattle.std.proofs.Common.{◌/◌, ◌%◌, ◌^◌, eqb, rules}
use Rattle.rules.specs.AtOnce.{allowed_by}
use Rattle.rules.proofs.sorting.is_allowed.Statement.{statement}
use Rattle.rules.proofs.sorting.is_allowed.Tie as tie

returns : tie.Need-returns
unfolding allowed_by
returns c =
    let flags = c.flags.ensures in
    λ i. eqb (c.args.allowed / 2 ^ (flags i % 32) % 2) 1

pub is_allowed_spec : {M : Type 1} → statement M
is_allowed_spec = tie.close (tie.spec (λ c κs. search rules) (λ c. search rules) (λ c. search rules) returns)
