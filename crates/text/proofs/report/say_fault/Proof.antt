-- No such number is 41. Assumes nothing.
use Prim.Native.Nat.{ℕ, ◌≤◌}
use mathlib.Core.List.{[]}
use mathlib.Core.Path.{sym, ap, subst, ◌∙◌}
use native.Mathlib.Omega.{arith}
use borrow.Author.Rules.{rules}
use Rattle.text.specs.Extended.{extended}
use Rattle.text.specs.Report.{refused_text}
use Rattle.text.proofs.ReportLaws.{fault_number-lt}
use Rattle.text.proofs.report.say_fault.Statement.{statement}
use Rattle.text.proofs.report.say_fault.Tie as tie

number-fault-requires : tie.Need-number_fault-requires
number-fault-requires c κs = search rules

say-number-requires : tie.Need-say_number-requires
say-number-requires c κs =
    subst (λ (n : ℕ). n ≤ 40) (sym c.number_fault.ensures)
    (omega (arith, fault_number-lt c.args.x))

returns : tie.Need-returns
returns c =
    c.say_number.ensures
    ∙ ap (λ (n : ℕ). extended c.args.p (refused_text n []))
    c.number_fault.ensures

pub say_fault_spec : {M : Type 1} → statement M
say_fault_spec = tie.close (tie.spec number-fault-requires say-number-requires returns)
