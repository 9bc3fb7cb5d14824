-- Each field is read off the line.
use Rattle.std.proofs.Common.{eqb, ap, ◌∙◌}
use Rattle.rules.specs.Bytes.{line}
use Rattle.rules.specs.Fields.{fuel_class, default_heat, co2_factor, ch4_factor, n2o_factor}
use Rattle.rules.specs.Factors.{factors_of}
use Rattle.rules.proofs.factors.read_factors.Goals as goal

pub returns : goal.returns
unfolding factors_of
returns c =
    let is-line = c.take_line-f.ensures.line ∙ ap (line c.args.k) c.fuel_lines.ensures.lines in
    record {
      factors = λ i. record {
        heat = (c.default_heat.ensures.field ∙ ap default_heat is-line) i;
        co2 = (c.co2_factor.ensures.field ∙ ap co2_factor is-line) i;
        ch4 = (c.ch4_factor.ensures.field ∙ ap ch4_factor is-line) i;
        n2o = (c.n2o_factor.ensures.field ∙ ap n2o_factor is-line) i;
        biomass = eqb ((c.fuel_class.ensures.field ∙ ap fuel_class is-line) i) 3;
      };
    }
