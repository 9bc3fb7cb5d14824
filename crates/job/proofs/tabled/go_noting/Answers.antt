-- The records before are noted in a blank table, it is gone on from there, and what is come to is written.
use Rattle.std.proofs.Common.{refl, ap, ◌∙◌, length}
use native.Mathlib.Nat.{le_trans}
use Rattle.rules.specs.Bytes.{lines}
use Rattle.rules.specs.Book.{unit_lines}
use Rattle.rules.specs.Table.{noted_all}
use Rattle.rules.proofs.TableLaws.{is_table-length, known-noted_all}
use Rattle.job.specs.Words.{counts_at, Gone}
use Rattle.job.proofs.AdmissionLaws.{admitted_for-whole}
use Rattle.job.proofs.RunLaws.{encode_gone, light_gone}
use Rattle.job.proofs.WakeLaws.{head_fits}
use Rattle.job.proofs.WentLaws.{before_gone, gone_went}
use Rattle.job.proofs.tabled.go_noting.Goals as goal
use Rattle.job.proofs.tabled.go_noting.Goals.{After-go_known-end}

pub note_records-requires-clause-there : goal.note_records-requires-clause-there
note_records-requires-clause-there c = let on = c.requires.on in le_trans on.0 on.1

pub go_known-end-requires-clause-before : goal.go_known-end-requires-clause-before
go_known-end-requires-clause-before c =
    let a = c.args in
    let p = c.requires in
    let before = lines a.place a.book.now in
    let units = unit_lines a.h a.book.now in
    let noted = c.note_records.ensures.noted ∙ ap (noted_all before units) p.blank.1 in
    before_gone p.gone p.opened p.whole.0 p.on.0 p.on.1 (known-noted_all before units (length a.table.now) noted)

pub go_known-end-requires-clause-table : goal.go_known-end-requires-clause-table
go_known-end-requires-clause-table c =
    let a = c.args in
    is_table-length (unit_lines a.h a.book.now) _ _ c.note_records.auto.table ∙ c.requires.blank.0

-- All records up to the place are gone through.
gone : (c : After-go_known-end) →
    let a = c.args in
    Gone a.h a.book.now a.from.now (counts_at c.go_known-end.result c.go_known-end.new.aside) c.go_known-end.new.w
gone c = gone_went c.requires.gone c.go_known-end.ensures.went

pub write-requires-clause-whole : goal.write-requires-clause-whole
write-requires-clause-whole c =
    let all = gone (goal.at.write-requires-clause-whole c).After-go_known-end in
    (admitted_for-whole _ _ c.requires.whole.0, all.kept.whole, c.requires.whole.1)

pub write-requires-clause-fits : goal.write-requires-clause-fits
write-requires-clause-fits c = head_fits _ _ c.requires.opened

pub write-requires-clause-light : goal.write-requires-clause-light
write-requires-clause-light c =
    let all = gone (goal.at.write-requires-clause-light c).After-go_known-end in
    let end = le_trans c.go_known-end.ensures.went.end_le c.requires.on.1 in
    light_gone _ _ _ c.requires.opened c.requires.whole.0 _ _ all end

pub returns : goal.returns
returns c =
    let p = c.requires in
    let all = gone (goal.at.returns c).After-go_known-end in
    record {
      written = encode_gone _ _ _ p.opened p.whole.0 _ _ all c.write.ensures.written (c.go_known-end.ensures.went.whole refl);
    }
