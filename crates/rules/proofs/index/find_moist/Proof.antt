-- The monitor decides, then whether it measures dry. Assumes nothing.
use Rattle.std.proofs.Common.{sym, refl, rules}
use Rattle.choice.proofs.TestsLaws.{choose_t, choose_f, is}
use Rattle.rules.specs.Index.{moist_below}
use Rattle.rules.proofs.index.find_moist.Statement.{statement}
use Rattle.rules.proofs.index.find_moist.Tie as tie

returns : tie.Need-returns-then-not-is_monitored
unfolding moist_below
returns c = sym (choose_f _ (is c.is_monitored.ensures c.if-not-is_monitored.true) refl)

returns-2 : tie.Need-returns-then-is_dry
unfolding moist_below
returns-2 c =
    let monitor = is c.is_monitored.ensures c.if-not-is_monitored.false in
    sym (choose_t _ monitor (choose_t _ (is c.is_dry.ensures c.if-is_dry.true) refl))

returns-3 : tie.Need-returns
unfolding moist_below
returns-3 c =
    let monitor = is c.is_monitored.ensures c.if-not-is_monitored.false in
    sym (choose_t _ monitor (choose_f _ (is c.is_dry.ensures c.if-is_dry.false) refl))

pub find_moist_spec : {M : Type 1} → statement M
find_moist_spec =
    tie.close (tie.spec (λ c κs. search rules) returns (λ c κs. search rules) returns-2 returns-3)
