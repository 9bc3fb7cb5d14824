-- The refusal is asked of the bytes that are printed.
use Rattle.std.proofs.Common.{sym, ap, ◌∙◌}
use Rattle.text.specs.Refusal.{has_refusal}
use Rattle.files.proofs.print_page.Goals as goal

pub returns-then-is_told : goal.returns-then-is_told
returns-then-is_told g c =
    record { printed = ap has_refusal (sym c.take_front-text.ensures.front) ∙ sym c.is_told.ensures.told ∙ c.if-is_told.true }

pub returns : goal.returns
returns g c =
    record { printed = ap has_refusal (sym c.take_front-text.ensures.front) ∙ sym c.is_told.ensures.told ∙ c.if-is_told.false }
