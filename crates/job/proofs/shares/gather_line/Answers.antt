-- Four products are weighed one after the other, and each leaves room for the next.
use Rattle.std.proofs.Common.{◌+◌, ◌*◌, ◌≡◌, refl, ◌∙◌, arith, get_or}
use Rattle.job.specs.State.{ch4, n2o}
use Rattle.job.specs.Shares.{counted_in, other_in, weighed, gathered}
use Rattle.job.proofs.WeighedLaws.{Room, room_as}
use Rattle.job.proofs.GatheredLaws.{Ready, all-lt, room_once, room_twice, room_thrice, room_last, once, twice, thrice}
use Rattle.job.proofs.shares.gather_line.Goals as goal
use Rattle.job.proofs.shares.gather_line.Goals.{Start, After-find_co2-co2, After-weigh, After-weigh-2, After-weigh-3}

ready : (c : Start) → let a = c.args in Ready a.f a.k a.d.now a.sums.now
ready c = let p = c.requires in (p.there, (p.held, p.room))

pub overflow_add-all : goal.overflow_add-all
overflow_add-all c =
    let counted = c.find_counted-counted.ensures.counted in
    let other = c.find_other.ensures.other in
    omega (arith, counted, other, all-lt _ _ _ _ (ready (goal.at.overflow_add-all c).Start))

room-first : (c : After-find_co2-co2) → let a = c.args in Ready a.f a.k a.d.now a.sums.now
    → Room a.sums.now c.find_co2-co2.result c.find_counted-counted.result a.f.co2
room-first c r =
    room_as {s = c.args.sums.now} _ refl c.find_co2-co2.ensures.place c.find_counted-counted.ensures.counted
    (room_once _ _ _ _ r)

pub weigh-requires-clause-there : goal.weigh-requires-clause-there
weigh-requires-clause-there c =
    let at = goal.at.weigh-requires-clause-there c in
    (room-first at.After-find_co2-co2 (ready at.Start)).0

pub weigh-requires-clause-room : goal.weigh-requires-clause-room
weigh-requires-clause-room c =
    let at = goal.at.weigh-requires-clause-room c in
    (room-first at.After-find_co2-co2 (ready at.Start)).1

-- What the sums are after one product, after two and after three.
is-once : (c : After-weigh) → let a = c.args in c.weigh.new.sums ≡ once a.f a.k a.d.now a.sums.now
is-once c =
    let a = c.args in
    c.weigh.ensures.weighed
    ∙ (λ i. weighed a.sums.now (c.find_co2-co2.ensures.place i) (c.find_counted-counted.ensures.counted i) a.f.co2)

room-second : (c : After-weigh) → let a = c.args in Ready a.f a.k a.d.now a.sums.now
    → c.weigh.new.sums ≡ once a.f a.k a.d.now a.sums.now
    → Room c.weigh.new.sums c.find_co2-co2.result (get_or a.d.now (16 * a.k + 8) 0) 3664
room-second c r e = room_as _ e c.find_co2-co2.ensures.place refl (room_twice _ _ _ _ r)

pub weigh-requires-2-clause-there : goal.weigh-requires-2-clause-there
weigh-requires-2-clause-there c =
    let at = goal.at.weigh-requires-2-clause-there c in
    (room-second at.After-weigh (ready at.Start) (is-once at.After-weigh)).0

pub weigh-requires-2-clause-room : goal.weigh-requires-2-clause-room
weigh-requires-2-clause-room c =
    let at = goal.at.weigh-requires-2-clause-room c in
    (room-second at.After-weigh (ready at.Start) (is-once at.After-weigh)).1

is-twice : (c : After-weigh-2) → let a = c.args in c.weigh.new.sums ≡ once a.f a.k a.d.now a.sums.now
    → c.weigh-2.new.sums ≡ twice a.f a.k a.d.now a.sums.now
is-twice c e =
    let a = c.args in
    c.weigh-2.ensures.weighed
    ∙ (λ i. weighed (e i) (c.find_co2-co2.ensures.place i) (get_or a.d.now (16 * a.k + 8) 0) 3664)

-- All heat of the fuel.
all-is : (c : After-find_co2-co2) →
    let a = c.args in
    c.find_counted-counted.result + c.find_other.result ≡ counted_in a.f.heat a.d.now a.k + other_in a.f.heat a.d.now a.k
all-is c = λ i. c.find_counted-counted.ensures.counted i + c.find_other.ensures.other i

pub weigh-requires-3-clause-room : goal.weigh-requires-3-clause-room
weigh-requires-3-clause-room c =
    let at = goal.at.weigh-requires-3-clause-room c in
    let two = is-twice at.After-weigh-2 (is-once at.After-weigh) in
    (room_as _ two refl (all-is at.After-find_co2-co2) (room_thrice _ _ _ _ (ready at.Start))).1

is-thrice : (c : After-weigh-3) →
    let a = c.args in
    c.weigh-2.new.sums ≡ twice a.f a.k a.d.now a.sums.now
    → c.find_counted-counted.result + c.find_other.result ≡ counted_in a.f.heat a.d.now a.k + other_in a.f.heat a.d.now a.k
    → c.weigh-3.new.sums ≡ thrice a.f a.k a.d.now a.sums.now
is-thrice c e all = c.weigh-3.ensures.weighed ∙ (λ i. weighed (e i) ch4 (all i) c.args.f.ch4)

pub weigh-requires-4-clause-room : goal.weigh-requires-4-clause-room
weigh-requires-4-clause-room c =
    let at = goal.at.weigh-requires-4-clause-room c in
    let all = all-is at.After-find_co2-co2 in
    let three = is-thrice at.After-weigh-3 (is-twice at.After-weigh-2 (is-once at.After-weigh)) all in
    (room_as _ three refl all (room_last _ _ _ _ (ready at.Start))).1

pub returns : goal.returns
unfolding gathered
returns c =
    let at = goal.at.returns c in
    let all = all-is at.After-find_co2-co2 in
    let three = is-thrice at.After-weigh-3 (is-twice at.After-weigh-2 (is-once at.After-weigh)) all in
    record { gathered = c.weigh-4.ensures.weighed ∙ (λ i. weighed (three i) n2o (all i) c.args.f.n2o) }
