-- What the code's search asks. It serves the code; the definitions of a list and of the place in the round don't
-- need it.
--
--     has b xs        there is a b in xs
--
-- Laws: proofs/BytesLaws.antt. Definitions only.
use Rattle.std.specs.Prelude.{ℕ, Bool, List, nat_lt, length}
use Rattle.roster.specs.Bytes.{span}

unfoldable pub has : ℕ → List ℕ → Bool
has b xs = nat_lt (span b xs) (length xs)
