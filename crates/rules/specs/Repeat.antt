-- Whether a record was sent before: whether its unit and its hour or month stand in an earlier record of
-- its kind, whatever became of that one. RULES, "Reasons".
--
--     is_of k u w l        the line l is a record of kind k, unit u and period w, whatever else it holds
--     stands k u w ls      one of the lines ls is
--     stands_among l ls    a record of l's kind, unit and period is among the lines ls
--     repeatable l         l is a monitor hour or anodes: a unit has one of them for each hour, or month
--     repeated l before    l is one that stands among the lines before it
--
-- Laws: proofs/RepeatLaws.antt. Definitions only.
use Rattle.std.specs.Prelude.{ℕ, Bool, false, List, [], ◌∷◌, nat_eq}
use Rattle.choice.specs.Tests.{◌also◌, ◌either◌}
use Rattle.rules.specs.Fields.{kind, unit_number, period}

unfoldable pub is_of : ℕ → ℕ → ℕ → List ℕ → Bool
is_of k u w l = nat_eq (kind l) k also nat_eq (unit_number l) u also nat_eq (period l) w

unfoldable pub stands : ℕ → ℕ → ℕ → List (List ℕ) → Bool
stands k u w [] = false
stands k u w (l ∷ ls) = is_of k u w l either stands k u w ls

unfoldable pub stands_among : List ℕ → List (List ℕ) → Bool
stands_among l ls = stands (kind l) (unit_number l) (period l) ls

unfoldable pub repeatable : List ℕ → Bool
repeatable l = nat_eq (kind l) 2 either nat_eq (kind l) 4

unfoldable pub repeated : List ℕ → List (List ℕ) → Bool
repeated l before = repeatable l also stands_among l before
