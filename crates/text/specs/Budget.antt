-- A budget as an argument: decimal digits that say a number of 32 bits.
--
--     highest           the highest number of 32 bits
--     is_digit b        b is the byte of a decimal digit
--     all_digits w      every byte of w is
--     value_from v w    the number that the digits of v and then those of w say
--     value_of w        the number that the digits of w say
--     budget_in w       the budget that w says: digits alone, at least one, of a number up to the highest; or none
--
-- Laws: proofs/BudgetLaws.antt. Definitions only.
use Rattle.std.specs.Prelude.{ℕ, ◌+◌, ◌-◌, ◌*◌, Bool, true, List, [], ◌∷◌, nat_le, length, Option, Some, None}
use Rattle.choice.specs.Tests.{choose, ◌also◌}

abbrev pub highest : ℕ
highest = 4294967295

unfoldable pub is_digit : ℕ → Bool
is_digit b = nat_le 48 b also nat_le b 57

unfoldable pub all_digits : List ℕ → Bool
all_digits [] = true
all_digits (b ∷ w) = is_digit b also all_digits w

unfoldable pub value_from : ℕ → List ℕ → ℕ
value_from v [] = v
value_from v (b ∷ w) = value_from (v * 10 + (b - 48)) w

abbrev pub value_of : List ℕ → ℕ
value_of w = value_from 0 w

unfoldable pub budget_in : List ℕ → Option ℕ
budget_in w =
    choose (nat_le 1 (length w) also all_digits w also nat_le (value_of w) highest) (Some (value_of w)) None
