-- The word is the sum that `packed` stands for, with no count. Assumes nothing.
use Rattle.std.proofs.Common.{arith}
use Rattle.wetherstep.proofs.FaceLaws.{packed_sum}
use Rattle.wetherstep_record.proofs.face.pack.Goals as goal

pub returns : goal.returns
returns c =
    record { word = omega (arith, packed_sum c.args.number c.args.reason c.args.method c.args.ledger 0) }
