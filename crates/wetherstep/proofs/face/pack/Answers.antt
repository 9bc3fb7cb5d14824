-- The word is the sum that `packed` defines. Assumes nothing.
use Rattle.std.proofs.Common.{arith}
use Rattle.wetherstep.specs.Face.{packed}
use Rattle.wetherstep.proofs.face.pack.Goals as goal

pub returns : goal.returns
unfolding packed
returns c = record { word = omega arith }
