-- The digits read so far, and then those that are left, say what the whole word says.
use Rattle.std.proofs.Common.{◌≡◌, ◌≤◌, drop}
use Rattle.text.specs.Budget.{highest, budget_in}
use Rattle.text.proofs.BudgetLaws.{budget_from}
use Rattle.text.proofs.budget.read.Given as goal

abbrev pub invariant-loop-b : goal.invariant-loop-b
invariant-loop-b l = (l.v ≤ highest) × (budget_from l.v (drop l.b-index l.word) ≡ budget_in l.word)
