-- The two tests are those of the definition, of the numbers read.
use Rattle.std.proofs.Common.{◌*◌}
use lib.Dec.{ltb, leb}
use Rattle.choice.proofs.TestsLaws.{both}
use Rattle.mass.specs.Ledger.{tonne, tonnes_each}
use Rattle.job.specs.Checkpoint.{ledger_sound}
use Rattle.job.proofs.checkpoint.is_ledger_sound.Goals as goal

pub returns : goal.returns
unfolding ledger_sound
returns c =
    let done = c.read_word-done.ensures.value in
    let ledger = c.read_ledger-g.ensures.ledger in
    record { ledger = both (λ i. ltb (ledger i).rest.0 tonne) (λ i. leb (ledger i).tonnes (tonnes_each * done i)) }
