-- The fuel's kind decides. Assumes nothing.
use Rattle.std.proofs.Common.{sym, refl, rules}
use Rattle.choice.proofs.TestsLaws.{choose_t, choose_f, eq_of, ne_of}
use Rattle.rules.specs.Index.{volume_of}
use Rattle.rules.proofs.index.find_volume.Statement.{statement}
use Rattle.rules.proofs.index.find_volume.Tie as tie

returns : tie.Need-returns-then-fuel_kind-eq3
unfolding volume_of
returns c =
    let gas = eq_of c.fuel_kind.ensures c.if-fuel_kind-eq3.true in
    sym (choose_t _ gas (sym c.molar_volume.ensures))

returns-2 : tie.Need-returns
unfolding volume_of
returns-2 c = sym (choose_f _ (ne_of c.fuel_kind.ensures c.if-fuel_kind-eq3.false) refl)

pub find_volume_spec : {M : Type 1} → statement M
find_volume_spec = tie.close (tie.spec (λ c κs. search rules) (λ c κs. search rules) returns returns-2)
