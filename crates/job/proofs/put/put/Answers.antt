-- The part of the buffer that is written holds the bytes of v, and they are those of the definition.
use Rattle.std.proofs.Common.{◌∙◌, sym, arith}
use Rattle.std.proofs.lemmas.Slice.{put_mid-paste}
use Rattle.rules.specs.Bytes.{bytes_of}
use Rattle.rules.proofs.BytesLaws.{length-bytes_of}
use Rattle.rules.proofs.BytesLaws.{bytes_of-low}
use Rattle.job.proofs.PutLaws.{put_all}
use Rattle.job.proofs.put.put.Goals as goal

pub returns : goal.returns
returns c =
    let a = c.args in
    let written = c.copy_from_slice.ensures.after ∙ c.to_le_bytes.ensures ∙ bytes_of-low 8 a.v in
    record {
      put =
          put_mid-paste a.at _ a.out.now _ (bytes_of 8 a.v) 8 written (omega arith) (sym (length-bytes_of 8 a.v))
          ∙ put_all a.out.now a.at 8 a.v;
    }
