-- A line that begins here tells a refusal, or what is left behind its first byte does.
use Rattle.std.proofs.Common.{◌-◌, length, take, drop, refl, sym, ◌∙◌}
use Rattle.choice.proofs.TestsLaws.{also_t, also_f}
use Rattle.text.specs.Words.{ascii}
use Rattle.text.specs.Refusal.{begins, has_refusal}
use Rattle.text.proofs.RefusalLaws.{begins-pointwise, tells_here, tells_next, tells_end}
use Rattle.text.proofs.refusal.is_told.Goals as goal
use Rattle.text.proofs.refusal.is_told.Goals.{else-is_first-via-then-is_first+else-starts_with, else-is_first-via-else-is_first}

pub loop-i-init : goal.loop-i-init
unfolding has_refusal
loop-i-init c = refl

pub returns-then-starts_with : goal.returns-then-starts_with
returns-then-starts_with c =
    let at = c.loop-i in
    let begun = sym (begins-pointwise (ascii "refused ") _) ∙ sym c.starts_with.ensures.value ∙ c.if-starts_with.true in
    record { told = tells_here at.is_first c.args.text.now at.i at.invariant c.loop-i-test.true (also_t c.if-is_first.true begun) }

pub loop-i-preserved : goal.loop-i-preserved
loop-i-preserved c =
    let at = c.loop-i in
    let t = c.args.text.now in
    elim c.else-is_first.branch [
      | else-is_first-via-then-is_first+else-starts_with w ↦
          tells_next at.is_first t at.i at.invariant c.loop-i-test.true
          (also_t w.if-is_first.true
          (sym (begins-pointwise (ascii "refused ") _) ∙ sym w.starts_with.ensures.value ∙ w.if-starts_with.false))
      | else-is_first-via-else-is_first w ↦
          tells_next at.is_first t at.i at.invariant c.loop-i-test.true
          (also_f (begins (ascii "refused ") (take (length t - at.i) (drop at.i t))) w.if-is_first.false)
    ]

pub returns : goal.returns
returns c =
    let at = c.loop-i in
    record { told = tells_end at.is_first c.args.text.now at.i at.invariant c.loop-i-test.false }
