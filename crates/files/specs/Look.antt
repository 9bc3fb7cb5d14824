-- A look at a copy that is open.
--
--     Told o k x   of a copy that has the bytes o, where these are known: x is how it stands to the book k
--
-- Definitions only.
use Rattle.std.specs.Prelude.{ℕ, ◌≡◌, List, Option, IfSome}
use Rattle.std.proofs.Math.Option.{some}
use Rattle.files.specs.declared.copy.Compared.{Compared}
use Rattle.files.specs.Guard.{compared_with}

abbrev pub Told : Option (List ℕ) → List ℕ → Compared → Type 0
Told known k x = IfSome known (λ c. x ≡ compared_with (some c) k)
