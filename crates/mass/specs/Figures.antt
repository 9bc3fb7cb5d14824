-- What a report says of four ledgers. RULES, "Report".
--
--     kilogram           one kilogram, in ng
--     kg_of v            v ng in kilograms, a half going up
--     AllSound t         each of the four ledgers is sound
--     Mild w             warming values for which the CO2 equivalent in kilograms fits 64 bits
--     co2e_of t w        the CO2 equivalent, in ng
--     decisive v b       what is compared with 10,000 t, for a CO2 equivalent v and biomass CO2 b
--     must_report v b    whether the site must report
--     figures_of t w     the five figures and the decision
--
-- Laws: proofs/FiguresLaws.antt. Definitions only.
use Rattle.std.specs.Prelude.{ℕ, ◌+◌, ◌-◌, ◌*◌, ◌≤◌, min, Bool, nat_lt, nat_le}
use Rattle.choice.specs.Tests.{choose}
use Rattle.mass.specs.declared.Kg.{Kg}
use Rattle.mass.specs.declared.ledger.Ledgers.{Ledgers}
use Rattle.mass.specs.declared.figures.Warming.{Warming}
use Rattle.mass.specs.declared.figures.Figures.{Figures}
use Rattle.mass.specs.Rounding.{half_up}
use Rattle.mass.specs.Ledger.{tonne, total, Sound}

abbrev pub kilogram : ℕ
kilogram = 1000000000000

unfoldable pub kg_of : ℕ → Kg
kg_of v = record { 0 = half_up v kilogram }

pub record AllSound (t : Ledgers) : Type 0 where
  pub fossil_sound : Sound t.fossil
  pub biomass_sound : Sound t.biomass
  pub ch4_sound : Sound t.ch4
  pub n2o_sound : Sound t.n2o

-- Then the CO2 equivalent is at most (2 + 1,000 + 1,000) × `most_tonnes`, some 10^15 t, and a tonne
-- more or less: below 2^64 kg, which is 1.8 × 10^16 t.
pub record Mild (w : Warming) : Type 0 where
  pub ch4_le : w.ch4 ≤ 1000
  pub n2o_le : w.n2o ≤ 1000

unfoldable pub co2e_of : Ledgers → Warming → ℕ
co2e_of t w = total t.fossil + total t.biomass + w.ch4 * total t.ch4 + w.n2o * total t.n2o

-- Below 25,000 t the biomass CO2 is subtracted, at most 15,000 t of it.
unfoldable pub decisive : ℕ → ℕ → ℕ
decisive v b = choose (nat_lt v (25000 * tonne)) (v - min b (15000 * tonne)) v

unfoldable pub must_report : ℕ → ℕ → Bool
must_report v b = nat_le (10000 * tonne) (decisive v b)

-- Each figure is rounded once, from its own exact total, and the decision is on exact masses.
unfoldable pub figures_of : Ledgers → Warming → Figures
figures_of t w = record {
  fossil = kg_of (total t.fossil);
  biomass = kg_of (total t.biomass);
  ch4 = kg_of (total t.ch4);
  n2o = kg_of (total t.n2o);
  co2e = kg_of (co2e_of t w);
  reportable = must_report (co2e_of t w) (total t.biomass);
}
