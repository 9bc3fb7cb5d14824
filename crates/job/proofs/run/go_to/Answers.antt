-- Where the legs stopped at a record that can be a repeat, others go on by a table; and all of them are one way.
use Rattle.std.proofs.Common.{refl}
use native.Mathlib.Nat.{le_trans, le_antisymm, le_of_lt}
use Rattle.rules.proofs.TableLaws.{known-none}
use Rattle.job.specs.Words.{counts_at, Gone}
use Rattle.job.proofs.AdmissionLaws.{admitted_for-whole}
use Rattle.job.proofs.RunLaws.{encode_gone, light_gone}
use Rattle.job.proofs.WakeLaws.{head_fits}
use Rattle.job.proofs.WentLaws.{before_gone, gone_went}
use Rattle.job.proofs.run.go_to.Goals as goal
use Rattle.job.proofs.run.go_to.Goals.{After-go_legs-end}

pub go_legs-end-requires-clause-before : goal.go_legs-end-requires-clause-before
go_legs-end-requires-clause-before c =
    let p = c.requires in
    before_gone p.gone p.opened p.whole.0 (le_of_lt p.on.0) p.on.1 (known-none _ _ _ refl)

-- What the records of the legs give, and where these end.
gone : (c : After-go_legs-end) →
    let a = c.args in
    Gone a.h a.book.now a.from.now (counts_at c.go_legs-end.result c.go_legs-end.new.aside) c.go_legs-end.new.w
gone c = gone_went c.requires.gone c.go_legs-end.ensures.went

pub go_by_table-requires-then-end-until-clause-gone : goal.go_by_table-requires-then-end-until-clause-gone
go_by_table-requires-then-end-until-clause-gone c =
    gone (goal.at.go_by_table-requires-then-end-until-clause-gone c).After-go_legs-end

pub write-requires-clause-whole : goal.write-requires-clause-whole
write-requires-clause-whole c =
    let all = gone (goal.at.write-requires-clause-whole c).After-go_legs-end in
    (admitted_for-whole _ _ c.requires.whole.0, all.kept.whole, c.requires.whole.1)

pub write-requires-clause-fits : goal.write-requires-clause-fits
write-requires-clause-fits c = head_fits _ _ c.requires.opened

pub write-requires-clause-light : goal.write-requires-clause-light
write-requires-clause-light c =
    let all = gone (goal.at.write-requires-clause-light c).After-go_legs-end in
    let end = le_trans c.go_legs-end.ensures.went.end_le c.requires.on.1 in
    light_gone _ _ _ c.requires.opened c.requires.whole.0 _ _ all end

pub returns : goal.returns
returns c =
    let p = c.requires in
    let all = gone (goal.at.returns c).After-go_legs-end in
    record {
      written =
          encode_gone _ _ _ p.opened p.whole.0 _ _ all c.write.ensures.written
          (le_antisymm c.go_legs-end.ensures.went.end_le c.if-end-until.false);
    }
