-- The row of tests is that of the definition, each test of what was read.
use Rattle.std.proofs.Common.{◌≡◌, Bool, ap, ◌∙◌}
use lib.Dec.{eqb, leb}
use Rattle.choice.specs.Tests.{◌also◌}
use Rattle.choice.proofs.TestsLaws.{both, also_assoc, also_swap}
use Rattle.job.specs.Checkpoint.{done_in, aside_in, gap_in, blank_in, first_sound, ledger_sound, every, sound}
use Rattle.job.specs.State.{ledgers}
use Rattle.job.proofs.checkpoint.is_sound.Goals as goal

-- The gap is tested with the first record set aside, and named behind the ledgers.
gap-last : (place first masses gap : Bool) → (place also (first also gap) also masses) ≡ (place also first also masses also gap)
gap-last place first masses gap =
    ap (λ (b : Bool). b also masses) (also_assoc place first gap) ∙ also_swap (place also first) gap masses

pub returns : goal.returns
unfolding sound
returns c =
    let h = c.args.h in
    let k = c.args.c.now in
    let length = c.read_word-length.ensures.value in
    let year = c.read_word-year.ensures.value in
    let done = c.read_word-done.ensures.value in
    let aside = c.read_word-aside.ensures.value in
    let head = both (λ i. eqb (length i) h.length) (λ i. eqb (year i) h.year) in
    let in-book = both head (λ i. leb (done i) h.n) in
    let place = both {b' = leb (aside_in k) (done_in k)} in-book (λ i. leb (aside i) (done i)) in
    let first = c.is_first_sound-first.ensures.first in
    let masses = c.are_ledgers_sound-masses.ensures.ledgers in
    record {
      sound =
          both (both (both place first) masses) c.are_zero-blank.ensures.zeros
          ∙ ap (λ (b : Bool). b also blank_in k) (gap-last _ (first_sound k) (every (ledger_sound k) ledgers) (gap_in k));
    }
