-- How a program ended, as its status tells it.
--
--     Printed r t   r is how a program can end that prints the text t: it is refused exactly if t tells a
--                   refusal, unless standard output fails
--
-- Definitions only.
use Rattle.std.specs.Prelude.{ℕ, true, false, List, ◌≡◌}
use Rattle.text.specs.Refusal.{has_refusal}
use Rattle.files.specs.declared.ended.Ended.{Ended}
use Rattle.files.specs.declared.ended.Ended.TheVariants.{Done, Failed, Misused, Refused}

abbrev pub Printed : Ended → List ℕ → Type 0
Printed Done t = has_refusal t ≡ false
Printed Failed t = Unit {0}
Printed Misused t = ⊥
Printed Refused t = has_refusal t ≡ true
