-- Counts, words and shares together are the state after the records before the place, and the table knows these.
use Rattle.std.proofs.Common.{◌≡◌, ◌+◌, ◌-◌, ◌*◌}
use Rattle.rules.specs.Bytes.{lines}
use Rattle.rules.specs.Book.{unit_lines}
use Rattle.rules.specs.Table.{Known}
use Rattle.job.specs.State.{run}
use Rattle.job.specs.Words.{carries_each, counts_at, state_in, Kept}
use Rattle.job.specs.Shares.{Held}
use Rattle.job.proofs.LegLaws.{leg_state}
use Rattle.job.proofs.leg.go_on.Given as goal

abbrev pub invariant-loop-at : goal.invariant-loop-at
invariant-loop-at l = record {
  state :
      leg_state l.h l.book l.at l.aside l.w l.shares
      ≡ run l.h l.book (state_in (counts_at l.place l.initial.aside) l.initial.w) (l.at - l.place);
  kept : Kept (carries_each * l.place + 3 * (l.at - l.place)) l.w;
  held : Held (l.at - l.place) l.shares;
  known : Known (lines l.at l.book) (unit_lines l.h l.book) l.table;
}
