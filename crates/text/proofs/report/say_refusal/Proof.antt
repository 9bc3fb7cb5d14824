-- No such number is 41. Assumes nothing.
use Prim.Native.Nat.{ℕ, ◌≤◌}
use mathlib.Core.List.{[]}
use mathlib.Core.Path.{sym, ap, subst, ◌∙◌}
use native.Mathlib.Nat.{le_of_lt}
use borrow.Author.Rules.{rules}
use Rattle.text.specs.Extended.{extended}
use Rattle.text.specs.Report.{refused_text}
use Rattle.text.proofs.ReportLaws.{refusal_number-lt}
use Rattle.text.proofs.report.say_refusal.Statement.{statement}
use Rattle.text.proofs.report.say_refusal.Tie as tie

number-refusal-requires : tie.Need-number_refusal-requires
number-refusal-requires c κs = search rules

say-number-requires : tie.Need-say_number-requires
say-number-requires c κs =
    subst (λ (n : ℕ). n ≤ 40) (sym c.number_refusal.ensures)
    (le_of_lt (refusal_number-lt c.args.x))

returns : tie.Need-returns
returns c =
    c.say_number.ensures
    ∙ ap (λ (n : ℕ). extended c.args.p (refused_text n []))
    c.number_refusal.ensures

pub say_refusal_spec : {M : Type 1} → statement M
say_refusal_spec = tie.close (tie.spec number-refusal-requires say-number-requires returns)
