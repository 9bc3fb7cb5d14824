-- Of no record the checkpoint stays. A wake begins with nothing gone through; and n records more from place p end at
-- place p + n.
use Rattle.std.proofs.Common.{◌≡◌, ℕ, ◌<◌, ◌≤◌, refl, ap, sym, ◌∙◌, arith, replicate}
use native.Mathlib.Nat.{le-add_right, le_trans}
use Rattle.rules.specs.Bytes.{byte}
use Rattle.rules.proofs.TableLaws.{known-none}
use Rattle.job.specs.declared.counts.Counts.{Counts}
use Rattle.job.specs.State.{run}
use Rattle.job.specs.Checkpoint.{done_in, decode, encode}
use Rattle.job.specs.Words.{words, counts_at, Gone}
use Rattle.job.proofs.AdmissionLaws.{admitted_for-whole, admitted_for_so}
use Rattle.job.proofs.CheckpointLaws.{encode-decode}
use Rattle.job.proofs.RunLaws.{place_lt, gone_all, gone_none_yet, encode_gone, light_gone}
use Rattle.job.proofs.WakeLaws.{head_fits}
use Rattle.job.proofs.WentLaws.{before_gone, gone_went}
use Rattle.job.proofs.run.go_through.Goals as goal
use Rattle.job.proofs.run.go_through.Goals.{Start, After-go_slowly-end}

begun : (c : Start) → let a = c.args in Gone a.h a.book.now a.from.now a.c (replicate words 0)
begun c = gone_none_yet _ _ _ _ c.requires.sound.1

-- The records to go through, by the places where they start and end.
place : (c : Start) → c.args.c.done ≡ done_in c.args.from.now
place c = ap (λ (t : Counts). t.done) c.requires.sound.1

pub copy_from_slice-requires : goal.copy_from_slice-requires
copy_from_slice-requires c = c.requires.whole ∙ sym (admitted_for-whole _ _ c.requires.sound.0)

-- A sound checkpoint is the one that says what it says.
pub returns-then-n-eq0 : goal.returns-then-n-eq0
unfolding run
returns-then-n-eq0 c =
    let a = c.args in
    let admitted = c.requires.sound.0 in
    let bytes : (i : ℕ) → byte a.from.now i < 256 = λ i. omega (arith, c.type_inv.from i) in
    record {
      written =
          c.copy_from_slice.ensures.after
          ∙ sym (encode-decode a.h a.from.now bytes (admitted_for-whole _ _ admitted) (admitted_for_so _ _ admitted))
          ∙ ap (λ (m : ℕ). encode a.h (run a.h a.book.now (decode a.from.now) m)) (sym c.if-n-eq0.true);
    }

pub overflow_add-until : goal.overflow_add-until
overflow_add-until c = record { fits = place_lt _ _ _ c.requires.opened c.requires.left }

pub go_slowly-end-requires-clause-before : goal.go_slowly-end-requires-clause-before
go_slowly-end-requires-clause-before c =
    let p = c.requires in
    before_gone (begun (goal.at.go_slowly-end-requires-clause-before c).Start) p.opened p.sound.0 (le-add_right _ c.args.n) p.left (known-none _ _ _ refl)

-- What few records give, and where they end.
gone : (c : After-go_slowly-end) →
    let a = c.args in
    Gone a.h a.book.now a.from.now (counts_at c.go_slowly-end.result c.go_slowly-end.new.aside) c.go_slowly-end.new.w
gone c = gone_went (gone_none_yet _ _ _ _ c.requires.sound.1) c.go_slowly-end.ensures.went

ends : (c : After-go_slowly-end) → c.go_slowly-end.result ≤ c.args.h.n
ends c = le_trans c.go_slowly-end.ensures.went.end_le c.requires.left

pub write-requires-clause-whole : goal.write-requires-clause-whole
write-requires-clause-whole c = (admitted_for-whole _ _ c.requires.sound.0, (gone (goal.at.write-requires-clause-whole c).After-go_slowly-end).kept.whole, c.requires.whole)

pub write-requires-clause-fits : goal.write-requires-clause-fits
write-requires-clause-fits c = head_fits _ _ c.requires.opened

pub write-requires-clause-light : goal.write-requires-clause-light
write-requires-clause-light c = light_gone _ _ _ c.requires.opened c.requires.sound.0 _ _ (gone (goal.at.write-requires-clause-light c).After-go_slowly-end) (ends (goal.at.write-requires-clause-light c).After-go_slowly-end)

pub returns-then-n-lt-MANY : goal.returns-then-n-lt-MANY
returns-then-n-lt-MANY c =
    let a = c.args in
    let p = c.requires in
    record {
      written =
          encode_gone _ _ _ p.opened p.sound.0 _ _ (gone (goal.at.returns-then-n-lt-MANY c).After-go_slowly-end) c.write.ensures.written (c.go_slowly-end.ensures.went.whole refl)
          ∙ ap (λ (m : ℕ). encode a.h (run a.h a.book.now (decode a.from.now) m)) (gone_all a.n (place (goal.at.returns-then-n-lt-MANY c).Start));
    }

pub go_to-requires-clause-gone : goal.go_to-requires-clause-gone
go_to-requires-clause-gone c = begun (goal.at.go_to-requires-clause-gone c).Start
