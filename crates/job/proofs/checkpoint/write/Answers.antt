-- The numbers are put behind those before them, two as one, so that they fill the buffer in the order of the
-- definition.
use Rattle.std.proofs.Common.{◌++◌, refl, sym, ◌∙◌}
use lib.Dec.{lit<}
use Rattle.rules.specs.Bytes.{bytes_of}
use Rattle.job.specs.Checkpoint.{front, laid, encode}
use Rattle.job.specs.Words.{counts_at, masses_on, state_on}
use Rattle.job.proofs.PutLaws.{wrote_none, wrote_more, wrote_two, wrote_gap, append-blank, wrote_all}
use Rattle.job.proofs.LaidLaws.{length-masses_on, wrote_ledgers}
use Rattle.job.proofs.checkpoint.write.Goals as goal

pub returns : goal.returns
unfolding encode state_on
returns c =
    let a = c.args in
    let h = a.h in
    let fits = c.requires.fits in
    let before = laid (front (counts_at a.place a.aside.now)) (masses_on a.from.now a.w.now) in
    let to-0 = wrote_none a.out.now in
    let counts = c.join.ensures.joined in
    let to-8 = wrote_two to-0 4 4 _ _ counts.1 counts.0 c.put.ensures.put in
    let aside = c.join_reason.ensures.joined in
    let to-16 = wrote_gap to-8 4 1 3 _ _ aside.1 aside.2 aside.0 c.put-2.ensures.put in
    let to-80 = wrote_ledgers _ (length-masses_on a.from.now a.w.now) to-16 c.write_ledgers.ensures.written in
    let told = c.join-2.ensures.joined in
    let to-88 = wrote_gap to-80 4 2 2 h.length h.year fits.0 fits.1 told.0 c.put-3.ensures.put in
    record {
      written =
          wrote_all (wrote_more to-88 8 refl c.put-4.ensures.put) c.requires.whole.2
          ∙ sym (append-blank (before ++ bytes_of 4 h.length ++ bytes_of 2 h.year) 2 8 0 (lit< tt));
    }
