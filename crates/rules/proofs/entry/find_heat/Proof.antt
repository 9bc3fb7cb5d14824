-- The flag decides between the two heats, and a measured one is in its range. Assumes nothing.
use Rattle.std.proofs.Common.{sym, refl, ◌∙◌, rules}
use Rattle.choice.proofs.TestsLaws.{is, choose_t, choose_f}
use Rattle.rules.specs.Entry.{heat_in_use}
use Rattle.rules.proofs.EntryLaws.{heat_limit-le}
use Rattle.rules.proofs.entry.find_heat.Statement.{statement}
use Rattle.rules.proofs.entry.find_heat.Tie as tie

is-heat-measured-requires : tie.Need-is_heat_measured-requires
is-heat-measured-requires c κs = search rules

find-measured-requires : tie.Need-find_measured-requires
find-measured-requires c κs =
    let h = c.requires in
    heat_limit-le _ _ h (is c.is_heat_measured.ensures c.if-is_heat_measured.true)

returns : tie.Need-returns-then-is_heat_measured
unfolding heat_in_use
returns c =
    c.find_measured.ensures
    ∙ sym (choose_t _ (is c.is_heat_measured.ensures c.if-is_heat_measured.true) refl)

default-heat-requires : tie.Need-default_heat-requires
default-heat-requires c κs = search rules

returns-2 : tie.Need-returns
unfolding heat_in_use
returns-2 c =
    let heat = c.default_heat.ensures in
    (λ i. record { 0 = heat i })
    ∙ sym (choose_f _ (is c.is_heat_measured.ensures c.if-is_heat_measured.false) refl)

pub find_heat_spec : {M : Type 1} → statement M
find_heat_spec =
    tie.close
    (tie.spec is-heat-measured-requires find-measured-requires returns default-heat-requires returns-2)
