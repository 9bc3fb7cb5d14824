-- Where the line with a number stands.
--
--     place x k ls   the place of the first line of ls with number x, the first line being place k
--
-- Laws: proofs/ListingLaws.antt. Definitions only.
use Rattle.std.specs.Prelude.{ℕ, ◌+◌, List, [], ◌∷◌, ◌==◌, Option, Some, None}
use Rattle.choice.specs.Tests.{choose}
use Rattle.rules.specs.Fields.{number}

unfoldable pub place : ℕ → ℕ → List (List ℕ) → Option ℕ
place x k [] = None
place x k (l ∷ ls) = choose (number l == x) (Some k) (place x (k + 1) ls)
