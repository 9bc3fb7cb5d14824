-- Three numbers below 65,536 add up to one below 2^32. Assumes nothing.
use Rattle.std.proofs.Common.{◌+◌, rules}
use Rattle.rules.specs.Entry.{impurities}
use Rattle.rules.proofs.entry.sum_impurities.Statement.{statement}
use Rattle.rules.proofs.entry.sum_impurities.Tie as tie

sulphur-requires : tie.Need-sulphur-sulphur-requires
sulphur-requires c κs = search rules

ash-requires : tie.Need-ash-ash-requires
ash-requires c κs = search rules

other-impurities-requires : tie.Need-other_impurities-other-requires
other-impurities-requires c κs = search rules

add-result : tie.Need-overflow_add-result
add-result c = search rules

add-result-2 : tie.Need-overflow_add-result-2
add-result-2 c = search rules

cast-result : tie.Need-overflow_cast-result
cast-result c = search rules

returns : tie.Need-returns
unfolding impurities
returns c =
    let sulphur = c.sulphur-sulphur.ensures.0 in
    let ash = c.ash-ash.ensures.0 in
    let other = c.other_impurities-other.ensures.0 in
    λ i. sulphur i + ash i + other i

pub sum_impurities_spec : {M : Type 1} → statement M
sum_impurities_spec =
    tie.close
    (tie.spec
    sulphur-requires
    ash-requires
    other-impurities-requires
    add-result
    add-result-2
    cast-result
    returns)
