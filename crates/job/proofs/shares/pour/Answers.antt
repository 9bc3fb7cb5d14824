-- Each place gets its sum, and the high digits keep room for those behind it.
use Rattle.std.proofs.Common.{arith}
use Rattle.job.proofs.WordsLaws.{kept_more}
use Rattle.job.proofs.PouredLaws.{pouring_none, pouring_kept, pouring_next}
use Rattle.job.proofs.shares.pour.Goals as goal

pub loop-i-init : goal.loop-i-init
loop-i-init c = pouring_none _ _

pub pour_at-requires-clause-kept : goal.pour_at-requires-clause-kept
pour_at-requires-clause-kept c = pouring_kept c.loop-i-test.true c.requires.kept c.loop-i.invariant

pub loop-i-preserved : goal.loop-i-preserved
loop-i-preserved c =
    pouring_next _ _ _ c.loop-i.i c.loop-i-test.true c.requires.few c.requires.kept c.pour_at.ensures.poured c.loop-i.invariant

pub returns-clause-poured : goal.returns-clause-poured
returns-clause-poured c i l = c.loop-i.invariant.done i (omega arith)

pub returns-clause-kept : goal.returns-clause-kept
returns-clause-kept c m k = kept_more c.loop-i.w (omega arith) (c.loop-i.invariant.kept m k)
