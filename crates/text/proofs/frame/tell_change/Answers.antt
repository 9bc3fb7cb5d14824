-- Equal figures are no change.
use Rattle.std.proofs.Common.{refl, sym, ◌∙◌}
use Rattle.choice.proofs.TestsLaws.{choose_t, choose_f}
use Rattle.text.proofs.FrameLaws.{same-pointwise}
use Rattle.text.proofs.frame.tell_change.Goals as goal

pub returns-then-eq : goal.returns-then-eq
returns-then-eq c = record { change = sym (choose_t 1 (sym (same-pointwise _ _) ∙ sym c.eq.ensures ∙ c.if-eq.true) refl) }

pub returns-else-eq : goal.returns-else-eq
returns-else-eq c = record { change = sym (choose_f 0 (sym (same-pointwise _ _) ∙ sym c.eq.ensures ∙ c.if-eq.false) refl) }
