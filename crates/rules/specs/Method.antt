-- Choosing the method of a fuel record. RULES, "Method".
--
--     small u           the unit's rating is at most 250.0 MMBtu/h
--     method_of l u f   the method of the record l of the fuel f in the unit u; 0 if none is permitted
--
-- Definitions only.
use Rattle.std.specs.Prelude.{ℕ, Bool, List, nat_eq, nat_le, nat_lt}
use Rattle.choice.specs.Tests.{◌either◌, choose}
use Rattle.rules.specs.Fields.{monitored, rating, fuel_class, default_heat, heat_measured, carbon_measured}

-- The rating is in tenths.
abbrev pub small : List ℕ → Bool
small u = nat_le (rating u) 2500

unfoldable pub method_of : List ℕ → List ℕ → List ℕ → ℕ
method_of l u f =
    choose (monitored u) 4
    (choose (carbon_measured l) 3
    (choose (heat_measured l)
    (choose (small u either nat_eq (fuel_class f) 1 either nat_eq (fuel_class f) 2) 2 0)
    (choose (nat_lt 0 (default_heat f))
    (choose (small u) 1 0)
    0)))
