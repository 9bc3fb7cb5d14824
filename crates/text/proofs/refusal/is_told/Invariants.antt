-- What is left, and whether a line begins there, say whether a refusal is told.
use Rattle.std.proofs.Common.{◌≡◌, drop}
use Rattle.text.specs.Refusal.{tells, has_refusal}
use Rattle.text.proofs.refusal.is_told.Given as goal

abbrev pub invariant-loop-i : goal.invariant-loop-i
invariant-loop-i l = tells l.is_first (drop l.i l.text) ≡ has_refusal l.text
