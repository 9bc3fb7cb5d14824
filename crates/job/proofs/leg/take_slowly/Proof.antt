-- A record set aside gives nothing, and one that counts gives what its entry says. Assumes nothing.
use mathlib.Core.List.{List}
use mathlib.Core.Path.{◌≡◌, sym, ◌∙◌, subst}
use Prim.Native.Nat.{ℕ}
use borrow.Author.Rules.{rules}
use Rattle.std.specs.Prelude.{Ok}
use Rattle.rules.specs.Record.{outcome_at}
use Rattle.rules.specs.Bounds.{Bounded}
use Rattle.rules.proofs.RecordLaws.{bounded_outcome_at}
use Rattle.job.specs.Leg.{Took}
use Rattle.job.proofs.WakeLaws.{records_le}
use Rattle.job.proofs.LegLaws.{aside_lt, took_aside, took_given}
use Rattle.job.proofs.leg.take_slowly.Statement.{statement}
use Rattle.job.proofs.leg.take_slowly.Tie as tie

abbrev start : tie.After-judge_next-judged → tie.Start
start c = c.before.before.before.before.before.before.before

set-aside-requires : tie.Need-set_aside-requires
set-aside-requires c κs =
    let s = start c.before.before.before.before in
    let there = s.requires.1.0 in
    aside_lt there.1.aside_le there.0 (records_le s.args.book.now s.args.h s.requires.0)

-- What a record gives that counts is bounded.
few : (c : tie.In-Ok) →
    let s = start c.before.before.before in
    let e = c.in-Ok.e in
    (outcome_at s.args.h s.args.book.now s.args.place ≡ Ok e) × Bounded (Ok e)
few c =
    let judge = c in
    let is = sym judge.judge_next-judged.ensures.0 ∙ c.in-Ok.is in
    (is, subst Bounded is (bounded_outcome_at _ _ _ (start judge.before.before.before).requires.0))

give-requires : tie.Need-give-requires
give-requires c κs =
    let at = c in
    ((start at.before.before.before.before).requires.1.1.1, (few at.before).1)

returns : tie.Need-returns-in-Err
returns c =
    let at = c in
    let judge = at in (
      took_aside _ _ _ _ _ _ _ (sym judge.judge_next-judged.ensures.0 ∙ at.in-Err.is) c.set_aside.ensures,
      judge.judge_next-judged.ensures.1,
    )

returns-2 : tie.Need-returns-in-Ok
returns-2 c =
    let give = c in
    let at = give in
    let judge = at in
    let a = (start judge.before.before.before.before.before.before.before).args in
    let is = few at.before.before.before.before in
    let all = took_given a.h a.book.now a.place a.aside.now a.w.now _ is.0 is.1 (start judge.before.before.before.before.before.before.before).requires.1.1.1 in (
      subst (λ (v : List ℕ). Took a.h a.book.now a.place a.aside.now a.w.now a.aside.now v) (sym give.give.ensures) all,
      judge.judge_next-judged.ensures.1,
    )

pub take_slowly_spec : {M : Type 1} → statement M
take_slowly_spec =
    tie.close
    (tie.spec
    (λ c κs. search rules) (λ c. search rules) set-aside-requires (λ c. search rules) give-requires (λ c. search rules)
    returns (λ c. search rules) (λ c. search rules) returns-2)
