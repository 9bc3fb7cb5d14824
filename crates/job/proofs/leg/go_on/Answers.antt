-- A turn takes the record at its place, at one go or by the book's lines, which is what one record more means; the
-- state is that of counts, words and shares together, and at the end of the leg the words have it all.
use Rattle.std.proofs.Common.{◌≡◌, ℕ, ◌+◌, ◌-◌, ◌*◌, ◌<◌, refl, sym, ap, ◌∙◌, subst, arith}
use Prim.Native.Nat.{zero-le}
use mathlib.Core.Bool.{false≢true}
use native.Mathlib.Nat.{le_refl, le_of_lt}
use Rattle.rules.specs.Bytes.{line, lines}
use Rattle.rules.specs.Book.{unit_lines}
use Rattle.rules.specs.Table.{noting, Known}
use Rattle.rules.proofs.TableLaws.{known-after}
use Rattle.job.specs.declared.counts.Aside.{Aside}
use Rattle.job.specs.State.{run}
use Rattle.job.specs.Bounds.{CountsFit}
use Rattle.job.specs.Words.{carries, carries_each, counts_at, state_in, Kept}
use Rattle.job.specs.Shares.{Held}
use Rattle.job.specs.Leg.{TookShare}
use Rattle.job.proofs.SharesLaws.{held_none, held_more}
use Rattle.job.proofs.WordsLaws.{kept_more}
use Rattle.job.proofs.WakeLaws.{records_le}
use Rattle.job.proofs.LegLaws.{took_as, took_share_took, took_share_as, leg_state, leg_state_as, after_took_share, leg_state_begun, leg_state_settled, leg_carries_le, leg_carries_next, leg_carries_first, less_most, leg_left, leg_next, onward}
use Rattle.job.proofs.RunLaws.{next_run, gone_none, gone_of, gone_first, run-suc}
use Rattle.job.proofs.leg.go_on.Goals as goal
use Rattle.job.proofs.leg.go_on.Goals.{In-loop-at, After-loop-at, Joined-taken, in-Done, in-Unsure}

pub loop-at-init : goal.loop-at-init
unfolding run
loop-at-init c =
    let a = c.args in
    let p = c.requires.before in
    let begun = state_in (counts_at a.place a.aside.now) a.w.now in
    record {
      state =
          sym (leg_state_begun a.h a.book.now a.place a.aside.now a.w.now)
          ∙ ap (run a.h a.book.now begun) (gone_first a.place);
      kept = kept_more a.w.now (leg_carries_first a.place) p.kept;
      held = held_more _ zero-le held_none;
      known = p.known;
    }

-- At the head of a turn the counts fit, there is a record, and the words have room.
fits : (c : In-loop-at) → CountsFit c.args.h (counts_at c.loop-at.at c.loop-at.aside) × (c.loop-at.at < c.args.h.n)
unfolding state_in leg_state
fits c =
    let a = c.args in
    let p = c.requires.before in
    let gone = gone_of _ _ _ c.loop-at.auto.at c.loop-at-test.true in
    let there =
    next_run a.h a.book.now (state_in (counts_at a.place a.aside.now) a.w.now) (a.until - a.place) _ c.requires.opened p.fit
    (gone_none _ _ _ p.from_le p.end_le) gone c.loop-at.invariant.state in
    (there.0.counts_fit, there.1)

roomy : (c : In-loop-at) → Kept carries c.loop-at.w
roomy c =
    let few = records_le c.args.book.now c.args.h c.requires.opened in
    kept_more c.loop-at.w (less_most (leg_carries_le c.loop-at.auto.at (le_of_lt (fits c).1) few)) c.loop-at.invariant.kept

pub take_quickly-taken-requires-clause-there : goal.take_quickly-taken-requires-clause-there
take_quickly-taken-requires-clause-there c =
    let fit = fits (goal.at.take_quickly-taken-requires-clause-there c).In-loop-at in
    (fit.1, fit.0)

pub take_quickly-taken-requires-clause-known : goal.take_quickly-taken-requires-clause-known
take_quickly-taken-requires-clause-known c = c.loop-at.invariant.known

pub take_quickly-taken-requires-clause-room : goal.take_quickly-taken-requires-clause-room
take_quickly-taken-requires-clause-room c =
    let few = leg_left c.loop-at.auto.at c.loop-at-test.true c.requires.leg.1 in (
      held_more c.loop-at.shares few c.loop-at.invariant.held,
      roomy (goal.at.take_quickly-taken-requires-clause-room c).In-loop-at,
    )

-- ---- where the look was not sure, nothing has changed
pub take_slowly-requires-clause-there : goal.take_slowly-requires-clause-there
take_slowly-requires-clause-there c =
    let fit = fits (goal.at.take_slowly-requires-clause-there c).In-loop-at in
    let same = c.in-Unsure.ensures.taking in
    (fit.1, subst (λ (b : Aside). CountsFit c.args.h (counts_at c.loop-at.at b)) (sym same.0) fit.0)

pub take_slowly-requires-clause-known : goal.take_slowly-requires-clause-known
take_slowly-requires-clause-known c =
    let a = c.args in
    let same = c.in-Unsure.ensures.taking in
    subst (Known (lines c.loop-at.at a.book.now) (unit_lines a.h a.book.now)) (sym same.3) c.loop-at.invariant.known

pub take_slowly-requires-clause-room : goal.take_slowly-requires-clause-room
take_slowly-requires-clause-room c =
    let same = c.in-Unsure.ensures.taking in
    subst (Kept carries) (sym same.1) (roomy (goal.at.take_slowly-requires-clause-room c).In-loop-at)

-- ---- where the leg stops, nothing has changed
pub end_leg-requires-clause-held : goal.end_leg-requires-clause-held
end_leg-requires-clause-held c =
    let same = c.in-Stopped.ensures.taking in
    subst (Held (c.loop-at.at - c.args.place)) (sym same.2) c.loop-at.invariant.held

pub end_leg-requires-clause-kept : goal.end_leg-requires-clause-kept
end_leg-requires-clause-kept c =
    let same = c.in-Stopped.ensures.taking in
    subst (Kept _) (sym same.1) c.loop-at.invariant.kept

pub returns-in-Stopped-clause-went : goal.returns-in-Stopped-clause-went
returns-in-Stopped-clause-went c =
    let a = c.args in
    let at = c.loop-at in
    let same = c.in-Stopped.ensures.taking in
    let there =
    leg_state_settled a.h a.book.now at.at _ _ _ _ c.end_leg.ensures.settled
    ∙ leg_state_as a.h a.book.now at.at same.0 same.1 same.2 in
    record {
      state = there ∙ at.invariant.state;
      kept = c.end_leg.ensures.kept;
      from_le = at.auto.at;
      end_le = le_of_lt c.loop-at-test.true;
      whole = λ e. absurd (false≢true (sym e ∙ same.4));
    }

pub returns-in-Stopped-clause-known : goal.returns-in-Stopped-clause-known
returns-in-Stopped-clause-known c =
    let a = c.args in
    let same = c.in-Stopped.ensures.taking in
    subst (Known (lines c.loop-at.at a.book.now) (unit_lines a.h a.book.now)) (sym same.3) c.loop-at.invariant.known

-- ---- done with the record at one go or by the book's lines, it is taken and noted
stepped : (c : Joined-taken) →
    let a = c.args in
    let at = c.loop-at in
    let after = c.match-taken in
    TookShare a.h a.book.now at.at at.aside at.w at.shares after.aside after.w c.take_quickly-taken.new.shares
    × (after.table ≡ noting (line at.at a.book.now) (unit_lines a.h a.book.now) at.table)
stepped c =
    let at = c.loop-at in
    let h = c.args.h in
    let k = c.args.book.now in
    elim c.match-taken.branch [
      | in-Done w ↦
          let done = w.in-Done.ensures.taking in
          (took_share_as h k at.at at.aside at.w at.shares w.aside-is w.w-is refl done.0, w.table-is ∙ done.1)
      | in-Unsure w ↦
          let same = w.in-Unsure.ensures.taking in
          let took = w.take_slowly.ensures in
          let slowly = took_as h k at.at same.0 same.1 w.aside-is w.w-is took.took in (
            took_share_as h k at.at at.aside at.w at.shares refl refl same.2 (took_share_took h k at.at _ _ at.shares _ _ slowly),
            w.table-is ∙ took.noted ∙ ap (noting (line at.at k) (unit_lines h k)) same.3,
          )
    ]

pub loop-at-preserved : goal.loop-at-preserved
unfolding leg_state
loop-at-preserved c =
    let a = c.args in
    let at = c.loop-at in
    let begun = state_in (counts_at a.place a.aside.now) a.w.now in
    let next = onward at.auto.at c.loop-at-test.true in
    let step = stepped c in
    let more = run-suc a.h a.book.now _ (at.at - a.place) at.invariant.state (after_took_share _ _ _ _ _ _ _ _ _ step.0) in
    record {
      state = more ∙ ap (run a.h a.book.now begun) next.next;
      kept = kept_more _ (leg_carries_next at.auto.at) (step.0.kept _ at.invariant.kept);
      held = held_more _ (leg_next at.auto.at) (step.0.held _ at.invariant.held);
      known = known-after a.book.now (unit_lines a.h a.book.now) _ at.at refl refl step.1 at.invariant.known;
    }

-- ---- where all are gone through
all : (c : After-loop-at) → c.loop-at.at ≡ c.args.until
all c = omega arith

pub end_leg-requires-2-clause-held : goal.end_leg-requires-2-clause-held
end_leg-requires-2-clause-held c =
    subst (λ (d : ℕ). Held (d - c.args.place) c.loop-at.shares) (all (goal.at.end_leg-requires-2-clause-held c).After-loop-at)
    c.loop-at.invariant.held

pub end_leg-requires-2-clause-kept : goal.end_leg-requires-2-clause-kept
end_leg-requires-2-clause-kept c =
    let p = c.args.place in
    subst (λ (d : ℕ). Kept (carries_each * p + 3 * (d - p)) c.loop-at.w)
    (all (goal.at.end_leg-requires-2-clause-kept c).After-loop-at) c.loop-at.invariant.kept

pub returns-clause-went : goal.returns-clause-went
returns-clause-went c =
    let a = c.args in
    let at = c.loop-at in
    let begun = state_in (counts_at a.place a.aside.now) a.w.now in
    let gone =
    subst (λ (d : ℕ). leg_state a.h a.book.now d at.aside at.w at.shares ≡ run a.h a.book.now begun (d - a.place))
    (all (goal.at.returns-clause-went c).After-loop-at) at.invariant.state in
    record {
      state = leg_state_settled a.h a.book.now a.until _ _ _ _ c.end_leg-2.ensures.settled ∙ gone;
      kept = c.end_leg-2.ensures.kept;
      from_le = c.requires.before.from_le;
      end_le = le_refl _;
      whole = λ _. refl;
    }

pub returns-clause-known : goal.returns-clause-known
returns-clause-known c =
    let a = c.args in
    subst (λ (d : ℕ). Known (lines d a.book.now) (unit_lines a.h a.book.now) c.loop-at.table)
    (all (goal.at.returns-clause-known c).After-loop-at) c.loop-at.invariant.known
