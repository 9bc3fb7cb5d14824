-- The code tests in the order of the definition. Assumes nothing.
use mathlib.Core.Path.{sym}
use borrow.Author.Rules.{rules}
use Rattle.choice.proofs.TestsLaws.{is}
use Rattle.job.specs.Admission.{admission}
use Rattle.job.proofs.WakeLaws.{admitted_for_30, admitted_for_31, admitted_for-sound}
use Rattle.job.proofs.admission.admit.Statement.{statement}
use Rattle.job.proofs.admission.admit.Tie as tie

returns : tie.Need-returns-then-from-ne-SIZE
unfolding admission
returns c = sym (admitted_for_30 _ _ c.if-from-ne-SIZE.true)

returns-2 : tie.Need-returns-then-not-is_sound
unfolding admission
returns-2 c =
    sym (admitted_for_31 _ _ c.if-from-ne-SIZE.false (is c.is_sound.ensures c.if-not-is_sound.true))

returns-3 : tie.Need-returns
unfolding admission
returns-3 c =
    sym (admitted_for-sound _ _ c.if-from-ne-SIZE.false (is c.is_sound.ensures c.if-not-is_sound.false))

pub admit_spec : {M : Type 1} → statement M
admit_spec =
    tie.close (tie.spec returns (λ c κs. search rules) returns-2 returns-3)
