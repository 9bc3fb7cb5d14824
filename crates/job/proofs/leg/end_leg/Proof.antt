-- A leg of some records is settled, and the shares of none come to nothing. Assumes nothing.
use Prim.Native.Nat.{ℕ, ◌+◌}
use mathlib.Core.Path.{sym, ap, ◌∙◌}
use native.Mathlib.Nat.{add-zero}
use borrow.Author.Rules.{rules}
use Rattle.rules.specs.Book.{fuel_ok, fuel_lines}
use Rattle.rules.proofs.BookLaws.{accepted_facts}
use Rattle.rules.proofs.LinesLaws.{rising_lines_sound}
use Rattle.job.specs.Words.{mass_at}
use Rattle.job.proofs.WordsLaws.{kept_more}
use Rattle.job.proofs.SharesLaws.{held_more}
use Rattle.job.proofs.WakeLaws.{records_le}
use Rattle.job.proofs.LegLaws.{leg_carries_le, leg_carries_end, leg_carries_none, leg_le, leg_none, shares_at-held}
use Rattle.job.proofs.leg.end_leg.Statement.{statement}
use Rattle.job.proofs.leg.end_leg.Tie as tie

settle-requires : tie.Need-settle-requires
settle-requires c κs =
    let s = c in
    let a = s.args in
    let p = s.requires in
    let on = p.1.0 in
    let few = leg_carries_le on.0 on.1 (records_le a.book.now a.h p.0) in
    (p.0, (held_more a.shares.now (leg_le a.place on.2) p.1.1.0, kept_more a.w.now few p.1.1.1))

returns : tie.Need-returns-then-place-at
returns c =
    let settled = c in
    let test = settled in
    let s = test in
    let all = settled.settle.ensures in
    (all.0, kept_more _ (leg_carries_end test.if-place-at.true) (all.1 _ s.requires.1.1.1))

returns-2 : tie.Need-returns-else-place-at
returns-2 c =
    let s = c in
    let a = s.args in
    let p = s.requires in
    let none = held_more a.shares.now (leg_none c.if-place-at.false) p.1.1.0 in
    let few = (rising_lines_sound fuel_ok _ (accepted_facts _ _ p.0).fuels_sound).few in (
      λ i l. sym (ap (λ (x : ℕ). mass_at a.w.now i + x) (shares_at-held (fuel_lines a.h a.book.now) a.shares.now i few none) ∙ add-zero _),
      kept_more a.w.now (leg_carries_none p.1.0.0 c.if-place-at.false) p.1.1.1,
    )

pub end_leg_spec : {M : Type 1} → statement M
end_leg_spec = tie.close (tie.spec settle-requires (λ c. search rules) returns returns-2)
