-- What a look at a record finds is what the record gives. Assumes nothing.
use mathlib.Core.Path.{sym, ◌∙◌}
use borrow.Author.Rules.{rules}
use Rattle.job.proofs.WakeLaws.{records_le}
use Rattle.job.proofs.LegLaws.{aside_lt}
use Rattle.job.proofs.TakingLaws.{room_sorted, co2_sorted, taking_fuel, taking_gas, light_grained, taking_grained}
use Rattle.job.proofs.leg.take_quickly.Statement.{statement}
use Rattle.job.proofs.leg.take_quickly.Tie as tie

abbrev start : tie.After-find_kind-kind → tie.Start
start c = c.before.before.before.before

-- ---- fuel
sort-fuel-requires : tie.Need-sort_fuel-sorted-requires
sort-fuel-requires c κs =
    let p = (start c.before).requires in
    (p.0, ((p.1.0.0, sym c.find_kind-kind.ensures ∙ c.if-kind-eq1.true), (p.1.1.0, p.1.1.1.0)))

take-fuel-requires : tie.Need-take_fuel-requires
take-fuel-requires c κs =
    let sort = c in
    let s = start sort.before.before.before in
    let a = s.args in
    room_sorted a.h a.book.now a.place s.requires.0 sort.sort_fuel-sorted.result sort.sort_fuel-sorted.ensures.0 s.requires.1.1.1.1.1.0

returns : tie.Need-returns-then-kind-eq1
returns c =
    let sort = c in
    let kinds = sort in
    let s = start kinds.before.before.before.before in
    let a = s.args in
    let kind = sym kinds.find_kind-kind.ensures ∙ sort.if-kind-eq1.true in
    let room = s.requires.1.1.1.1.1 in
    let sorted = sort.sort_fuel-sorted in
    taking_fuel a.h a.book.now a.place s.requires.0 a.stop a.aside.now a.w.now a.shares.now a.table.now
    room.1 room.0 kind sorted.result sorted.ensures.0 sorted.ensures.1
    c.take_fuel.ensures.0 c.take_fuel.ensures.1

-- ---- analysed gas
sort-gas-requires : tie.Need-sort_gas-sorted-requires
sort-gas-requires c κs =
    let kinds = c in
    let p = (start kinds.before.before).requires in
    (p.0, ((p.1.0.0, sym kinds.find_kind-kind.ensures ∙ c.if-kind-eq3.true), (p.1.1.0, p.1.1.1.0)))

take-gas-requires : tie.Need-take_gas-requires
take-gas-requires c κs =
    let sort = c in
    let s = start sort.before.before.before.before.before in
    let a = s.args in
    let room = s.requires.1.1.1.1.1 in
    let settled = sort.sort_gas-sorted.ensures in (
      room_sorted a.h a.book.now a.place s.requires.0 sort.sort_gas-sorted.result settled room.0,
      room.1,
      co2_sorted a.h a.book.now a.place s.requires.0 sort.sort_gas-sorted.result settled,
    )

returns-2 : tie.Need-returns-then-kind-eq3
returns-2 c =
    let take = c in
    let sort = take in
    let kinds = sort in
    let s = start kinds.before.before.before.before.before.before.before.before in
    let a = s.args in
    let kind = sym kinds.find_kind-kind.ensures ∙ sort.if-kind-eq3.true in
    let room = s.requires.1.1.1.1.1 in
    taking_gas a.h a.book.now a.place s.requires.0 a.stop a.aside.now a.w.now a.shares.now a.table.now
    room.1 room.0 kind sort.sort_gas-sorted.result sort.sort_gas-sorted.ensures
    take.take_gas.ensures.0 take.take_gas.ensures.1

-- ---- hours
abbrev before-hour : tie.Then-kind-eq2 → tie.After-find_kind-kind
before-hour c = c.before.before.before.before.before.before

grain-hour-requires : tie.Need-grain_hour-grained-requires
grain-hour-requires c κs =
    let test = c in
    let kinds = before-hour test.before in
    let serve = test in
    let served = test.if-not-does_serve.false in
    let p = (start kinds).requires in
    let table = sym serve.does_serve.ensures ∙ served in
    (p.0, (p.1.0.0, (p.1.1.0, (p.1.1.1.1.0, table))))

take-grained-requires : tie.Need-take_grained-requires
take-grained-requires c κs =
    let weigh = c in
    let s = start (before-hour weigh.before.before.before.before.before.before) in
    let a = s.args in
    let there = s.requires.1.0 in (
      aside_lt there.1.aside_le there.0 (records_le a.book.now a.h s.requires.0),
      s.requires.1.1.1.1.1.1,
      light_grained a.h a.book.now a.place s.requires.0 518 weigh.grain_hour-grained.result a.table.now _ weigh.grain_hour-grained.ensures.0,
    )

returns-5 : tie.Need-returns-then-kind-eq2
returns-5 c =
    let take = c in
    let weigh = take in
    let s = start (before-hour weigh.before.before.before.before.before.before.before.before.before) in
    let a = s.args in
    let taken = take.take_grained.ensures in
    taking_grained a.h a.book.now a.place s.requires.0 a.stop a.aside.now a.w.now a.shares.now
    s.requires.1.1.1.1.1.1 518 weigh.grain_hour-grained.result a.table.now _ _ weigh.grain_hour-grained.ensures.0 taken.0 taken.1

-- ---- anodes
abbrev before-anodes : tie.Then-kind-eq4 → tie.After-find_kind-kind
before-anodes c = c.before.before.before.before.before.before.before

grain-anodes-requires : tie.Need-grain_anodes-grained-requires
grain-anodes-requires c κs =
    let test = c in
    let kinds = before-anodes test.before in
    let serve = test in
    let served = test.if-not-does_serve.false in
    let p = (start kinds).requires in
    let table = sym serve.does_serve.ensures ∙ served in
    (p.0, (p.1.0.0, (p.1.1.0, (p.1.1.1.1.0, table))))

take-grained-requires-2 : tie.Need-take_grained-requires-then-kind-eq4
take-grained-requires-2 c κs =
    let weigh = c in
    let s = start (before-anodes weigh.before.before.before.before.before.before) in
    let a = s.args in
    let there = s.requires.1.0 in (
      aside_lt there.1.aside_le there.0 (records_le a.book.now a.h s.requires.0),
      s.requires.1.1.1.1.1.1,
      light_grained a.h a.book.now a.place s.requires.0 1 weigh.grain_anodes-grained.result a.table.now _ weigh.grain_anodes-grained.ensures,
    )

returns-6 : tie.Need-returns-then-kind-eq4
returns-6 c =
    let take = c in
    let weigh = take in
    let s = start (before-anodes weigh.before.before.before.before.before.before.before.before.before) in
    let a = s.args in
    let taken = take.take_grained-then-kind-eq4.ensures in
    taking_grained a.h a.book.now a.place s.requires.0 a.stop a.aside.now a.w.now a.shares.now
    s.requires.1.1.1.1.1.1 1 weigh.grain_anodes-grained.result a.table.now _ _ weigh.grain_anodes-grained.ensures taken.0 taken.1

pub take_quickly_spec : {M : Type 1} → statement M
take_quickly_spec =
    tie.close
    (tie.spec
    (λ c κs. search rules)
    sort-fuel-requires
    take-fuel-requires
    returns
    sort-gas-requires
    take-gas-requires
    (λ c. search rules)
    returns-2
    (λ c. search rules)
    (λ c κs. search rules)
    (λ c. search rules)
    (λ c. search rules)
    grain-hour-requires
    take-grained-requires
    (λ c. search rules)
    (λ c. search rules)
    returns-5
    grain-anodes-requires
    take-grained-requires-2
    (λ c. search rules)
    (λ c. search rules)
    returns-6
    (λ c. search rules)
    (λ c. search rules))
