-- What a fuel line says of a fuel that was burned. Definitions only.
--
--     factors_of f    the default heat of the fuel line f, its factors, and whether its CO2 is biomass
use Rattle.std.specs.Prelude.{ℕ, List, ◌==◌}
use Rattle.rules.specs.declared.factors.Factors.{Factors}
use Rattle.rules.specs.Fields.{fuel_class, default_heat, co2_factor, ch4_factor, n2o_factor}

unfoldable pub factors_of : List ℕ → Factors
factors_of f = record {
  heat = default_heat f;
  co2 = co2_factor f;
  ch4 = ch4_factor f;
  n2o = n2o_factor f;
  biomass = (fuel_class f == 3);
}
