-- Two legs are one, and a leg that doesn't come to its end was to stop.
use Rattle.std.proofs.Common.{ℕ, ◌≡◌, ◌-◌, ◌<◌, ◌≤◌, true, arith}
use native.Mathlib.Nat.{le_antisymm}
use lib.Dec.{lit<}
use Rattle.job.specs.Leg.{Went}
use Rattle.job.proofs.WentLaws.{went_none, before_went, went_on, went_ended}
use Rattle.job.proofs.way.go_many.Goals as goal
use Rattle.job.proofs.way.go_many.Goals.{After-go_on-at}

pub loop-at-init : goal.loop-at-init
loop-at-init c = let p = c.requires.before in record { went = went_none p; known = p.known }

pub find_end-end-requires : goal.find_end-end-requires
find_end-end-requires c = record { on = c.loop-at.invariant.went.end_le }

pub go_on-at-requires-clause-before : goal.go_on-at-requires-clause-before
go_on-at-requires-clause-before c =
    let inv = c.loop-at.invariant in
    let end = c.find_end-end.ensures.end in
    before_went inv.went c.requires.opened c.requires.before end.0 end.1 inv.known

pub go_on-at-requires-clause-leg : goal.go_on-at-requires-clause-leg
go_on-at-requires-clause-leg c =
    let end = c.find_end-end.ensures.end in
    (end.3 c.loop-at-test.true (lit< tt), end.2)

-- With this leg the records are gone through up to its end.
went : (c : After-go_on-at) →
    let a = c.args in
    let leg = c.go_on-at in
    Went a.h a.book.now a.place a.until true a.aside.now a.w.now leg.result leg.new.aside leg.new.w
went c = went_on c.loop-at.invariant.went c.find_end-end.ensures.end.1 c.go_on-at.ensures.went

short : {d e : ℕ} → d ≡ e → d < e → ⊥
short q l = omega arith

pub returns-then-at-end : goal.returns-then-at-end
returns-then-at-end c =
    let gone = went (goal.at.returns-then-at-end c).After-go_on-at in
    record { went = went_ended gone (λ e. absurd (short (c.go_on-at.ensures.went.whole e) c.if-at-end.true)) }

less : {d e r u : ℕ} → d < e → e ≤ r → r ≤ u → u - r < u - d
less l m n = omega arith

pub loop-at-smaller : goal.loop-at-smaller
loop-at-smaller c =
    let gone = went (goal.at.loop-at-smaller c).After-go_on-at in
    less (c.find_end-end.ensures.end.3 c.loop-at-test.true (lit< tt)) c.if-at-end.false gone.end_le

pub loop-at-preserved : goal.loop-at-preserved
loop-at-preserved c =
    record { went = went (goal.at.loop-at-preserved c).After-go_on-at; known = c.go_on-at.ensures.known }

pub returns : goal.returns
returns c =
    let gone = c.loop-at.invariant.went in
    record { went = went_ended gone (λ _. le_antisymm gone.end_le c.loop-at-test.false) }
