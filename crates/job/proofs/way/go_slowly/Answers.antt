-- A turn takes the record at its place, which is what one record more means, and notes it; or it was to stop there.
use Rattle.std.proofs.Common.{ℕ, ◌<◌, refl, sym, ◌∙◌, subst}
use mathlib.Core.Bool.{false≢true}
use native.Mathlib.Nat.{le_refl, le_antisymm, lt_of_lt_of_le}
use Rattle.rules.specs.Book.{unit_lines}
use Rattle.rules.proofs.TableLaws.{known-after}
use Rattle.job.specs.Leg.{Went}
use Rattle.job.proofs.WordsLaws.{kept_more}
use Rattle.job.proofs.WakeLaws.{records_le}
use Rattle.job.proofs.LegLaws.{carries_each-le}
use Rattle.job.proofs.WentLaws.{counts-before, went_none, before_went, went_next, went_ended}
use Rattle.job.proofs.way.go_slowly.Goals as goal
use Rattle.job.proofs.way.go_slowly.Goals.{In-loop-at}

pub loop-at-init : goal.loop-at-init
loop-at-init c = record { went = went_none c.requires.before; known = c.requires.before.known }

there : (c : In-loop-at) → c.loop-at.at < c.args.h.n
there c = lt_of_lt_of_le c.loop-at-test.true c.requires.before.end_le

pub returns-then-is_repeatable : goal.returns-then-is_repeatable
returns-then-is_repeatable c =
    record { went = went_ended c.loop-at.invariant.went (λ e. absurd (false≢true (sym e ∙ c.if-stop.true))) }

pub take_slowly-requires-clause-there : goal.take_slowly-requires-clause-there
take_slowly-requires-clause-there c =
    let went = c.loop-at.invariant.went in
    let p = c.requires in (
      there (goal.at.take_slowly-requires-clause-there c).In-loop-at,
      counts-before (before_went went p.opened p.before went.end_le (le_refl _) c.loop-at.invariant.known),
    )

pub take_slowly-requires-clause-known : goal.take_slowly-requires-clause-known
take_slowly-requires-clause-known c = c.loop-at.invariant.known

pub take_slowly-requires-clause-room : goal.take_slowly-requires-clause-room
take_slowly-requires-clause-room c =
    let there = there (goal.at.take_slowly-requires-clause-room c).In-loop-at in
    let few = lt_of_lt_of_le there (records_le c.args.book.now c.args.h c.requires.opened) in
    kept_more c.loop-at.w (carries_each-le few) c.loop-at.invariant.went.kept

pub loop-at-preserved : goal.loop-at-preserved
loop-at-preserved c =
    let a = c.args in
    record {
      went = went_next c.loop-at.invariant.went c.loop-at-test.true c.take_slowly.ensures.took;
      known =
          known-after a.book.now (unit_lines a.h a.book.now) _ c.loop-at.at refl refl c.take_slowly.ensures.noted
          c.loop-at.invariant.known;
    }

pub returns : goal.returns
returns c =
    let a = c.args in
    let went = c.loop-at.invariant.went in
    let all = le_antisymm went.end_le c.loop-at-test.false in
    record {
      went =
          subst (λ (d : ℕ). Went a.h a.book.now a.place a.until a.stop a.aside.now a.w.now d c.loop-at.aside c.loop-at.w) all
          (went_ended went (λ _. all));
    }
