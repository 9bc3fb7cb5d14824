-- Rows of tests.
--
--     a also b          both pass
--     a either b        one of them passes
--     choose t x y      x if t passes, else y
--
-- Laws: proofs/TestsLaws.antt. Definitions only.
use Rattle.std.specs.Prelude.{Bool, true, false}

infixl 30 ◌also◌
infixl 32 ◌either◌
unfoldable pub ◌also◌ : Bool → Bool → Bool
◌also◌ true b = b
◌also◌ false b = false

unfoldable pub ◌either◌ : Bool → Bool → Bool
◌either◌ true b = true
◌either◌ false b = b

unfoldable pub choose : {A : Type 0} → Bool → A → A → A
choose true x y = x
choose false x y = y
