-- A fraction to a whole number. RULES, "Rounding".
--
--     nearest_to n d    the whole number nearest to n / d, a half going to the even one
--     half_up n d       the whole number nearest to n / d, a half going up
--     Nearest n d r     r × d is within half of d from n, and where it is just half, r is even
--
-- `nearest_to` is the one number that `Nearest` allows: proofs/NearestLaws.antt. Other laws:
-- proofs/RoundingLaws.antt. Definitions only.
use Rattle.std.specs.Prelude.{ℕ, ◌+◌, ◌*◌, ◌/◌, ◌%◌, ◌≤◌, ◌≡◌, nat_lt}
use Rattle.choice.specs.Tests.{choose}

-- It is the quotient where the remainder is below half the divisor, and one more where it is above.
unfoldable pub nearest_to : ℕ → ℕ → ℕ
nearest_to n d =
    choose (nat_lt (2 * (n % d)) d) (n / d)
    (choose (nat_lt d (2 * (n % d))) (n / d + 1)
    (n / d + n / d % 2))

-- It is n / d + 1 / 2 without its fraction.
unfoldable pub half_up : ℕ → ℕ → ℕ
half_up n d = (2 * n + d) / (2 * d)

pub record Nearest (n d r : ℕ) : Type 0 where
  pub not_below : 2 * n ≤ 2 * (r * d) + d
  pub not_above : 2 * (r * d) ≤ 2 * n + d
  pub even_below : 2 * n ≡ 2 * (r * d) + d → r % 2 ≡ 0
  pub even_above : 2 * (r * d) ≡ 2 * n + d → r % 2 ≡ 0
