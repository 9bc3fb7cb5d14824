-- The figures by tonnes and rests, as the code works them out. Assumes nothing.
use Prim.Native.Nat.{ℕ, ◌+◌, ◌-◌, ◌*◌, ◌/◌, ◌<◌, ◌≤◌, min}
use mathlib.Core.Path.{◌≡◌, refl, sym, ap, ◌∙◌}
use native.Mathlib.Nat.{mul-add, mul_assoc, mul-le-mul}
use native.Mathlib.Omega.{arith}
use lib.Dec.{leb}
use borrow.Author.Tests.{lt-ltb, le-ltb, lt-leb, le-leb}
use Rattle.choice.proofs.TestsLaws.{choose_t, choose_f}
use Rattle.choice.proofs.Splitting.{if_lt}
use Rattle.mass.specs.declared.Kg.{Kg}
use Rattle.mass.specs.declared.ledger.Ledger.{Ledger}
use Rattle.mass.specs.declared.ledger.Ledgers.{Ledgers}
use Rattle.mass.specs.declared.figures.Warming.{Warming}
use Rattle.mass.specs.Rounding.{half_up}
use Rattle.mass.specs.Ledger.{tonne, most_tonnes, total, Sound, ledger_of}
use Rattle.mass.specs.Figures.{kilogram, kg_of, AllSound, Mild, co2e_of, decisive, must_report, figures_of}
use Rattle.mass.proofs.LedgerLaws.{total-ledger_of}

-- Half a kilogram more, and what is left of one falls away: whole tonnes are whole kilograms.
pub kg_of_parts : (n x : ℕ) (r : Kg) → r.0 ≡ n * 1000 + (x + 500000000000) / 1000000000000
    → r ≡ kg_of (n * tonne + x)
unfolding kg_of half_up
kg_of_parts n x r e =
    let p : r.0 ≡ half_up (n * tonne + x) 1000000000000 = omega arith in
    λ i. record { 0 = p i }

-- A warming value of at most 1,000 makes at most 1,000 × m of what is at most m.
pub mild_le : {k m x : ℕ} → k ≤ 1000 → x ≤ m → k * x ≤ 1000 * m
mild_le h l = mul-le-mul h l

share : (k n x : ℕ) → k * (n * tonne + x) ≡ k * n * tonne + k * x
share k n x = mul-add k (n * tonne) x ∙ ap (λ (y : ℕ). y + k * x) (sym (mul_assoc k n tonne))

pub co2e_of_parts : (t : Ledgers) (w : Warming) →
    (t.fossil.tonnes + t.biomass.tonnes + w.ch4 * t.ch4.tonnes + w.n2o * t.n2o.tonnes) * tonne
    + (t.fossil.rest.0 + t.biomass.rest.0 + w.ch4 * t.ch4.rest.0 + w.n2o * t.n2o.rest.0)
    ≡ co2e_of t w
unfolding co2e_of total
co2e_of_parts t w =
    omega (
      arith,
      share w.ch4 t.ch4.tonnes t.ch4.rest.0,
      share w.n2o t.n2o.tonnes t.n2o.rest.0,
    )

pub biomass-le-co2e_of : (t : Ledgers) (w : Warming) → total t.biomass ≤ co2e_of t w
unfolding co2e_of
biomass-le-co2e_of t w = omega arith

-- 2,002 ledgers at their most are some 10^15 t, and 64 bits hold 10^16 t in kilograms.
pub co2e_of_tonnes_le : (t : Ledgers) (w : Warming) → AllSound t → Mild w
    → (ledger_of (co2e_of t w)).tonnes ≤ 10000000000000000
unfolding ledger_of co2e_of total
co2e_of_tonnes_le t w s m =
    let fossil = s.fossil_sound in
    let biomass = s.biomass_sound in
    omega (
      arith,
      mild_le m.ch4_le (most t.ch4 s.ch4_sound),
      mild_le m.n2o_le (most t.n2o s.n2o_sound),
    )
  where
    most : (g : Ledger) → Sound g → g.tonnes * tonne + g.rest.0 ≤ (most_tonnes + 1) * tonne
    most g h = omega arith

pub decisive-large : (v b : ℕ) → 25000 * tonne ≤ v → decisive v b ≡ v
unfolding decisive
decisive-large v b h = choose_f _ (le-ltb v (25000 * tonne) h) refl

pub decisive-small : (v b : ℕ) → v < 25000 * tonne → decisive v b ≡ v - min b (15000 * tonne)
unfolding decisive
decisive-small v b h = choose_t _ (lt-ltb v (25000 * tonne) h) refl

-- Whole tonnes decide, since 10,000 t are whole.
pub must_report_tonnes : (v b : ℕ) → leb 10000 (ledger_of (decisive v b)).tonnes ≡ must_report v b
unfolding ledger_of must_report
must_report_tonnes v b = whole (decisive v b)
  where
    whole : (d : ℕ) → leb 10000 (d / tonne) ≡ leb (10000 * tonne) d
    whole d = if_lt d (10000 * tonne)
        (λ l. lt-leb 10000 (d / tonne) (omega arith) ∙ sym (lt-leb (10000 * tonne) d l))
        (λ l. le-leb 10000 (d / tonne) (omega arith) ∙ sym (le-leb (10000 * tonne) d l))

-- ---- whole tonnes
-- Without biomass CO2 nothing is left out.
decisive-none : (v : ℕ) → decisive v 0 ≡ v
decisive-none v = if_lt v (25000 * tonne) (λ l. decisive-small v 0 l ∙ omega arith) (decisive-large v 0)

pub must_report-none : (t : ℕ) → must_report (t * tonne) 0 ≡ leb 10000 t
unfolding ledger_of
must_report-none t =
    let whole : t * tonne / tonne ≡ t = omega arith in
    sym (must_report_tonnes (t * tonne) 0)
    ∙ ap (λ (v : ℕ). leb 10000 (v / tonne)) (decisive-none (t * tonne))
    ∙ ap (leb 10000) whole

pub kg_of_tonnes : (t : ℕ) → kg_of (t * tonne) ≡ record { 0 = t * 1000 }
unfolding kg_of half_up
kg_of_tonnes t =
    let whole : (2 * (t * tonne) + kilogram) / (2 * kilogram) ≡ t * 1000 = omega arith in
    λ i. record { 0 = whole i }

-- ---- the figures of ledgers that stand for four masses
pub co2e_of-ledgers : (f b c n : ℕ) (w : Warming) →
    co2e_of (record { fossil = ledger_of f; biomass = ledger_of b; ch4 = ledger_of c; n2o = ledger_of n }) w
    ≡ f + b + w.ch4 * c + w.n2o * n
unfolding co2e_of
co2e_of-ledgers f b c n w =
    rw (total-ledger_of f, total-ledger_of b, total-ledger_of c, total-ledger_of n)

pub figures_of-ledgers : (f b c n : ℕ) (w : Warming) →
    let e = f + b + w.ch4 * c + w.n2o * n in
    figures_of (record { fossil = ledger_of f; biomass = ledger_of b; ch4 = ledger_of c; n2o = ledger_of n }) w
    ≡ record {
      fossil = kg_of f;
      biomass = kg_of b;
      ch4 = kg_of c;
      n2o = kg_of n;
      co2e = kg_of e;
      reportable = must_report e b;
    }
unfolding figures_of
figures_of-ledgers f b c n w =
    rw (co2e_of-ledgers f b c n w, total-ledger_of f, total-ledger_of b, total-ledger_of c, total-ledger_of n)
