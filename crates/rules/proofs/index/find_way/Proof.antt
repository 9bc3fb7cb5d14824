-- The monitor decides. Assumes nothing.
use Rattle.std.proofs.Common.{sym, refl, rules}
use Rattle.choice.proofs.TestsLaws.{choose_t, choose_f, is}
use Rattle.rules.specs.Index.{way_of}
use Rattle.rules.proofs.index.find_way.Statement.{statement}
use Rattle.rules.proofs.index.find_way.Tie as tie

returns : tie.Need-returns-then-is_monitored
unfolding way_of
returns c = sym (choose_t _ (is c.is_monitored.ensures c.if-is_monitored.true) refl)

returns-2 : tie.Need-returns
unfolding way_of
returns-2 c = sym (choose_f _ (is c.is_monitored.ensures c.if-is_monitored.false) refl)

pub find_way_spec : {M : Type 1} → statement M
find_way_spec = tie.close (tie.spec (λ c κs. search rules) returns returns-2)
